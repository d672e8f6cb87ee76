-- A plan is accepted exactly when it is acceptable: each rule, asked of every stream or zone, is one of the three things.
use Rattle.std.specs.Prelude.{ℕ, ◌+◌, ◌-◌, ◌*◌, ◌≤◌, ◌<◌, true, List, ◌↔◌, ◌≡◌, refl}
use native.Mathlib.Omega.{arith}
use Rattle.std.proofs.Math.Logic.{⊎_elim, inl, inr}
use Rattle.std.proofs.Math.Path.{subst}
use Rattle.laws.specs.Ranges.{Between}
use Rattle.fields.specs.Verdict.{both_passed, each_passed, Passed}
use Rattle.junction.specs.declared.Junction.{Junction}
use Rattle.junction_places.specs.Places.{zone_at, zone_numbered, zone_numbered_at}
use Rattle.junction_file.specs.Reading.{reading}
use Rattle.junction_file.specs.Taken.{Taken}
use Rattle.junction_file.proofs.TakenFile.{taken}
use Rattle.exact_times.specs.Leaves.{LeavesInTime}
use Rattle.junction_figures.specs.Exact.{EnoughAt}
use Rattle.junction_figures.proofs.Exact.{pair_exact}
use Rattle.junction_figures.specs.Figures.{pair_entry}
use Rattle.plan_file.specs.Plans.{green_of, plan_verdict, plan_of}
use Rattle.plan_file.specs.WellFormed.{PlanRight}
use Rattle.plan_file.proofs.WellFormed.{plan_right}
use Rattle.plan_file.specs.declared.Plan.{Plan}
use Rattle.plan_rules.specs.Rules.{need_met, capacity_met, zone_met, rules_verdict}
use Rattle.plan_judge.specs.lemmas.Cycles.{all_cycles}
use Rattle.plan_judge.specs.Judgement.{plan_judgement, judgement}
use Rattle.plan_judge.specs.Meaning.{begins, ends, Before, Distances, distances_of, Apart, Acceptable}
use Rattle.plan_judge.specs.lemmas.Accepted.{need_exact, capacity_exact, clear_exact, forward_is, backward_is, Rule, ZoneApart, Leaves, atob, btoa, found, back, after}

module _ (j : Junction) (t : Taken j) (p : Plan) (r : PlanRight p j.held.streams) where
  -- where the rule holds, the zone's greens are apart in every pair of cycles
  rule_apart : (i : ℕ) → i < j.held.zones → Rule j t p r (zone_at j i).a.stream (zone_at j i).b.stream → (k m : ℕ) → ZoneApart j t p r (zone_at j i) k m
  unfolding Apart Before begins ends
  rule_apart i low h k m =
      let z = zone_at j i in
      let right = t.fields.zones i low in
      let a = green_of p z.a.stream in
      let b = green_of p z.b.stream in
      let rule = (clear_exact p.cycle a b (pair_entry j z.a.stream z.b.stream) (pair_entry j z.b.stream z.a.stream)).0 h in
      ⊎_elim
      (λ (x : a.start + k * p.cycle + a.length + pair_entry j z.a.stream z.b.stream ≤ b.start + m * p.cycle).
      inl (omega arith, atob j t p r i low _ (omega arith)))
      (λ (x : b.start + m * p.cycle + b.length + pair_entry j z.b.stream z.a.stream ≤ a.start + k * p.cycle).
      inr (omega arith, btoa j t p r i low _ (omega arith)))
      (all_cycles p.cycle a.start a.length b.start b.length (r.start _ right.a.existing) (r.start _ right.b.existing)
      (r.length _ right.a.existing).0 (r.length _ right.b.existing).0 _ _ rule.0 rule.1 k m)

  -- streams a and b: the pair of cycles in which b's green is the next after a's, and that in which a's is the next after b's
  module _ (a b : ℕ) (in_a : Between 1 j.held.streams a) (in_b : Between 1 j.held.streams b) where
    -- whatever their distances, where the greens are apart in that pair of cycles: off less a's length is enough from a to b, and what is left of
    -- the cycle from b to a; and the greens fit between
    module _ (d : Distances) where
      leaves_atob : Apart j p a b d (found j t p r a b in_a in_b).k (found j t p r a b in_a in_b).m
          → Leaves j t p r a b d.clearing_a d.reaching_b ((after j t p r a b in_a in_b) - (green_of p a).length)
      unfolding Apart Before begins ends
      leaves_atob x =
          ⊎_elim
          (λ (h : Before j p a b d.clearing_a d.reaching_b (found j t p r a b in_a in_b).k (found j t p r a b in_a in_b).m).
          subst (LeavesInTime _ _ d.clearing_a d.reaching_b) (found j t p r a b in_a in_b).gap h.1)
          (λ (h : Before j p b a d.clearing_b d.reaching_a (found j t p r a b in_a in_b).m (found j t p r a b in_a in_b).k). absurd ((found j t p r a b in_a in_b).order h.0))
          x

      leaves_btoa : Apart j p a b d (back j t p r a b in_a in_b).k (back j t p r a b in_a in_b).m
          → Leaves j t p r b a d.clearing_b d.reaching_a (p.cycle - ((after j t p r a b in_a in_b) + (green_of p b).length))
      unfolding Apart Before begins ends
      leaves_btoa x =
          ⊎_elim
          (λ (h : Before j p a b d.clearing_a d.reaching_b (back j t p r a b in_a in_b).k (back j t p r a b in_a in_b).m). absurd ((back j t p r a b in_a in_b).order h.0))
          (λ (h : Before j p b a d.clearing_b d.reaching_a (back j t p r a b in_a in_b).m (back j t p r a b in_a in_b).k).
          subst (LeavesInTime _ _ d.clearing_b d.reaching_a) (back j t p r a b in_a in_b).gap h.1)
          x

      room_atob : Apart j p a b d (found j t p r a b in_a in_b).k (found j t p r a b in_a in_b).m → (green_of p a).length ≤ (after j t p r a b in_a in_b)
      unfolding Apart Before begins ends
      room_atob x =
          ⊎_elim
          (λ (h : Before j p a b d.clearing_a d.reaching_b (found j t p r a b in_a in_b).k (found j t p r a b in_a in_b).m). (found j t p r a b in_a in_b).room h.0)
          (λ (h : Before j p b a d.clearing_b d.reaching_a (found j t p r a b in_a in_b).m (found j t p r a b in_a in_b).k). absurd ((found j t p r a b in_a in_b).order h.0))
          x

      room_btoa : Apart j p a b d (back j t p r a b in_a in_b).k (back j t p r a b in_a in_b).m → (after j t p r a b in_a in_b) + (green_of p b).length ≤ p.cycle
      unfolding Apart Before begins ends
      room_btoa x =
          ⊎_elim
          (λ (h : Before j p a b d.clearing_a d.reaching_b (back j t p r a b in_a in_b).k (back j t p r a b in_a in_b).m). absurd ((back j t p r a b in_a in_b).order h.0))
          (λ (h : Before j p b a d.clearing_b d.reaching_a (back j t p r a b in_a in_b).m (back j t p r a b in_a in_b).k). (back j t p r a b in_a in_b).room h.0)
          x

    -- where a is below b and the greens are apart at every zone in every pair of two cycles
    module _ (below : a < b) (all : (i : ℕ) → i < j.held.zones → (k m : ℕ) → k < 2 → m < 2 → ZoneApart j t p r (zone_at j i) k m) where
      -- the pair's entries are at most these
      entry_atob : pair_entry j a b ≤ (after j t p r a b in_a in_b) - (green_of p a).length
      unfolding EnoughAt
      entry_atob =
          (pair_exact j t a b _).1
          (λ i low. (
            λ f. let is = forward_is a b (zone_at j i) f in
                rw (is.0, is.1) (leaves_atob (distances_of (zone_at j i)) (rw (is.0, is.1) at (all i low (found j t p r a b in_a in_b).k (found j t p r a b in_a in_b).m (found j t p r a b in_a in_b).k_low (found j t p r a b in_a in_b).m_low))),
            λ f. absurd (omega (arith, (t.fields.zones i low).below, backward_is a b (zone_at j i) f)),
          ))

      entry_btoa : pair_entry j b a ≤ p.cycle - ((after j t p r a b in_a in_b) + (green_of p b).length)
      unfolding EnoughAt
      entry_btoa =
          (pair_exact j t b a _).1
          (λ i low. (
            λ f. absurd (omega (arith, (t.fields.zones i low).below, forward_is b a (zone_at j i) f)),
            λ f. let is = backward_is b a (zone_at j i) f in
                rw (is.0, is.1) (leaves_btoa (distances_of (zone_at j i)) (rw (is.0, is.1) at (all i low (back j t p r a b in_a in_b).k (back j t p r a b in_a in_b).m (back j t p r a b in_a in_b).k_low (back j t p r a b in_a in_b).m_low))),
          ))

  -- where the greens are apart at every zone in every pair of two cycles, every zone's rule holds
  apart_rule : ((i : ℕ) → i < j.held.zones → (k m : ℕ) → k < 2 → m < 2 → ZoneApart j t p r (zone_at j i) k m) → (i : ℕ) → i < j.held.zones
      → Rule j t p r (zone_at j i).a.stream (zone_at j i).b.stream
  apart_rule all i low =
      let z = zone_at j i in
      let right = t.fields.zones i low in
      let a = z.a.stream in
      let b = z.b.stream in
      let first = found j t p r a b right.a.existing right.b.existing in
      let second = back j t p r a b right.a.existing right.b.existing in
      let before = room_atob a b right.a.existing right.b.existing (distances_of z) (all i low first.k first.m first.k_low first.m_low) in
      let after = room_btoa a b right.a.existing right.b.existing (distances_of z) (all i low second.k second.m second.k_low second.m_low) in
      (clear_exact p.cycle (green_of p a) (green_of p b) (pair_entry j a b) (pair_entry j b a)).1 (
        omega (arith, before, entry_atob a b right.a.existing right.b.existing right.below all),
        omega (arith, after, entry_btoa a b right.a.existing right.b.existing right.below all),
      )

  zones_exact : ((n : ℕ) → Between 1 j.held.zones n → zone_met j p n ≡ true)
      ↔ ((n zone : ℕ) → Between 1 j.held.zones zone → (k m : ℕ) → k < n → m < n → ZoneApart j t p r (zone_numbered j zone) k m)
  unfolding zone_met
  zones_exact = (
    λ met n zone w k m k_low m_low.
        rw (zone_numbered_at j zone w.0) (rule_apart (zone - 1) (omega arith) (rw (zone_numbered_at j zone w.0) at (met zone w)) k m),
    λ safe n w.
        rw (zone_numbered_at j n w.0)
        (apart_rule
        (λ i low k m k_low m_low. let there : i + 1 - 1 ≡ i = omega arith in
        rw (zone_numbered_at j (i + 1) (omega arith), there) at (safe 2 (i + 1) (omega arith) k m k_low m_low))
        (n - 1) (omega arith)),
  )

-- for any junction file that is taken and any plan file that is well-formed for it
pub accepted_exactly : (junction plan : List ℕ) → (reading junction).verdict ≡ Passed
    → plan_verdict plan (reading junction).junction.held.streams ≡ Passed
    → (judgement junction plan ≡ Passed) ↔ Acceptable (reading junction).junction (plan_of plan)
unfolding judgement plan_judgement rules_verdict
accepted_exactly junction plan is_taken is_formed =
    let j = (reading junction).junction in
    let p = plan_of plan in
    let t = taken junction is_taken in
    let zones = zones_exact j t p (plan_right plan j.held.streams is_formed t.fields.few_streams) in
    let needs = each_passed (need_met j p) 15 j.held.streams in
    let capacities = each_passed (capacity_met j p) 16 j.held.streams in
    let clear = each_passed (zone_met j p) 17 j.held.zones Passed in
    rw (is_taken, is_formed) (
      λ e. let one = (needs _).0 e in
          let two = (capacities _).0 one.1 in
          record {
            needed = λ n w. (need_exact j p n).0 (one.0 n w);
            capacity = λ n w. (capacity_exact j p n).0 (two.0 n w);
            apart = zones.0 (clear.0 two.1).0;
          },
      λ s. (needs _).1 (
        λ n w. (need_exact j p n).1 (s.needed n w),
        (capacities _).1 (λ n w. (capacity_exact j p n).1 (s.capacity n w), clear.1 (zones.1 s.apart, refl)),
      ),
    )

pub accepted_whole : (junction plan : List ℕ)
    → (judgement junction plan ≡ Passed)
    ↔ (((reading junction).verdict ≡ Passed) × (plan_verdict plan (reading junction).junction.held.streams ≡ Passed)
    × Acceptable (reading junction).junction (plan_of plan))
unfolding judgement plan_judgement
accepted_whole junction plan = (
  λ e. let taken = (both_passed (reading junction).verdict _).0 e in
      let formed = (both_passed (plan_verdict plan (reading junction).junction.held.streams) _).0 taken.1 in
      (taken.0, formed.0, (accepted_exactly junction plan taken.0 formed.0).0 e),
  λ h. (accepted_exactly junction plan h.0 h.1).1 h.2,
)
