-- The search over lengths: what is left from a length on finds what the whole finds, and what the tests of one length have shown so far.
use Prim.Native.Nat.{ℕ, ◌+◌, ◌-◌, ◌≤◌, ◌<◌, min}
use Rattle.std.proofs.Math.Nat.{min-eq_left}
use Rattle.std.proofs.Common.{arith, ◌∙◌}
use Rattle.std.specs.Prelude.{Bool, true, false, ◌≡◌, refl, eqb}
use Rattle.std.proofs.Math.Path.{sym}
use borrow.Author.Tests.{lt-ltb, eqb-true, eqb-false}
use Rattle.laws.specs.Ranges.{Between}
use Rattle.laws.proofs.Search.{first_found, first_next, first_out}
use Rattle.laws.specs.Tests.{by_test}
use Rattle.limits.specs.Limits.{no_cycle, most_seconds}
use Rattle.junction.specs.declared.Junction.{Junction}
use Rattle.phase_greens.specs.Greens.{gives_greens}
use Rattle.junction_phases.specs.JunctionPhases.{phases_at}
use Rattle.junction_file.specs.Taken.{Taken}
use Rattle.junction_tables.specs.Tables.{conflicts_of, loads_of}
use Rattle.junction_tables.specs.declared.Conflicts.{Conflicts}
use Rattle.junction_tables.specs.declared.Loads.{Loads}
use Rattle.phase_lengths.specs.declared.Phases.{Phases}
use Rattle.plan_file.specs.Plans.{no_plan}
use Rattle.plan_file.specs.declared.Plan.{Plan}
use Rattle.plan_rules.specs.Rules.{need_met, capacity_met, zone_met}
use Rattle.cycle_search.specs.lemmas.Lengths.{fails_gives_greens, fails_need, fails_capacity, fails_zone, works_where}
use Rattle.cycle_search.specs.Planning.{plan_at, works, cycle_from, found}
use Rattle.cycle_search.specs.declared.Found.{Found}

-- what the search is given
pub record Given (j : Junction) (l : Loads) (c : Conflicts) (q : Phases) : Type 0 where
  pub taken : Taken j
  pub loads : l ≡ loads_of j
  pub conflicts : c ≡ conflicts_of j
  pub phases : q ≡ phases_at j 0

-- before length t is tried
pub record Rest (j : Junction) (first t tried : ℕ) : Type 0 where
  pub high : t ≤ no_cycle
  pub same : cycle_from j t ≡ cycle_from j first
  pub count : tried + first ≡ t

-- while length t is tried, with its plan
pub record Trying (j : Junction) (first t tried : ℕ) (p : Plan) : Type 0 where
  pub high : t < no_cycle
  pub same : cycle_from j t ≡ cycle_from j first
  pub count : tried + first ≡ t + 1
  pub plan : p ≡ plan_at j t
  pub gives_greens : gives_greens (phases_at j t) t ≡ true

-- a rule is met by each of the numbers 1 to n
abbrev pub Met : (ℕ → Bool) → ℕ → Type 0
Met rule n = (k : ℕ) → Between 1 n k → rule k ≡ true

pub met_none : (rule : ℕ → Bool) → Met rule 0
met_none rule k w = absurd (omega arith)

pub met_next : (rule : ℕ → Bool) (n : ℕ) → Met rule n → rule (n + 1) ≡ true → Met rule (n + 1)
met_next rule n met e k w =
    by_test (eqb k (n + 1)) (λ same. rw (eqb-true k (n + 1) same) e)
    (λ differ. let other = eqb-false k (n + 1) differ in met k (omega arith))

module _ (j : Junction) (first : ℕ) where
  pub rest_begins : first ≤ no_cycle → Rest j first first 0
  rest_begins h = record { high = h; same = refl; count = omega arith }

  module _ (t : ℕ) where
    next_same : t < no_cycle → works j t ≡ false → cycle_from j (t + 1) ≡ cycle_from j t
    unfolding cycle_from
    next_same h e = sym (first_next (works j) no_cycle t h e)

    pub rest_impossible : (tried : ℕ) → Rest j first t tried → t < no_cycle → gives_greens (phases_at j t) t ≡ false → Rest j first (t + 1) (tried + 1)
    rest_impossible tried r h e =
        record { high = omega arith; same = next_same h (fails_gives_greens j t e) ∙ r.same; count = omega (arith, r.count) }

    pub rest_trying : (tried : ℕ) (p : Plan) → Rest j first t tried → t < no_cycle → gives_greens (phases_at j t) t ≡ true → p ≡ plan_at j t
        → Trying j first t (tried + 1) p
    rest_trying tried p r h e is = record { high = h; same = r.same; count = omega (arith, r.count); plan = is; gives_greens = e }

    pub rest_none : (tried : ℕ) → Rest j first t tried → no_cycle ≤ t → ◌≡◌ {A = Found} (record { cycle = t; tried = tried; plan = no_plan }) (found j first)
    unfolding found
    rest_none tried r h =
        let last : t ≡ no_cycle = omega (arith, r.high) in
        let is : cycle_from j first ≡ t = sym r.same ∙ unfold cycle_from in first_out (works j) no_cycle t h in
        let n : tried ≡ no_cycle - first = omega (arith, r.count) in
        rw (is, last, n)

    module _ (tried : ℕ) (p : Plan) (r : Trying j first t tried p) where
      broken : works j t ≡ false → Rest j first (t + 1) tried
      broken e = record { high = omega (arith, r.high); same = next_same r.high e ∙ r.same; count = r.count }

      pub need_broken : (n : ℕ) → Between 1 j.held.streams n → need_met j p n ≡ false → Rest j first (t + 1) tried
      need_broken n w e = broken (fails_need j t n w (rw r.plan at e))

      pub capacity_broken : (n : ℕ) → Between 1 j.held.streams n → capacity_met j p n ≡ false → Rest j first (t + 1) tried
      capacity_broken n w e = broken (fails_capacity j t n w (rw r.plan at e))

      pub zone_broken : (n : ℕ) → Between 1 j.held.zones n → zone_met j p n ≡ false → Rest j first (t + 1) tried
      zone_broken n w e = broken (fails_zone j t n w (rw r.plan at e))

      pub trying_found : Met (need_met j p) j.held.streams → Met (capacity_met j p) j.held.streams → Met (zone_met j p) j.held.zones
          → ◌≡◌ {A = Found} (record { cycle = t; tried = tried; plan = p }) (found j first)
      unfolding found
      trying_found needs capacities zones =
          let e = works_where j t r.gives_greens (rw r.plan at needs) (rw r.plan at capacities) (rw r.plan at zones) in
          let is : cycle_from j first ≡ t = sym r.same ∙ unfold cycle_from in first_found (works j) no_cycle t r.high e in
          let n : tried ≡ t + 1 - first = omega (arith, r.count) in
          let within : min t most_seconds ≡ t = min-eq_left (omega (arith, r.high)) in
          rw (is, within, n, lt-ltb t no_cycle r.high, r.plan)
