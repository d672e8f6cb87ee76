-- What a length gives: starts and greens within it where every phase gets a green, and which of its rules makes it fail.
use Rattle.std.specs.Prelude.{ℕ, ◌-◌, ◌≤◌, ◌<◌, true, false, ◌&&◌, not, ◌≡◌, refl, leb, eqb, Ok, Err}
use Rattle.std.proofs.Common.{arith, sym, ◌∙◌, ap}
use Rattle.std.proofs.Math.Bool.{true≢false}
use borrow.Author.Tests.{leb-true, leb-false, lt-ltb, le-ltb}
use Rattle.laws.specs.Ranges.{Between}
use Rattle.laws.specs.Tests.{by_test, both_left, both_right}
use Rattle.limits.specs.Limits.{most_seconds}
use Rattle.fields.specs.Verdict.{is_refused, not_refused, each_passed, Verdict, Passed}
use Rattle.junction.specs.declared.Junction.{Junction}
use Rattle.junction_places.specs.Places.{stream_numbered}
use Rattle.junction_file.specs.Taken.{Taken}
use Rattle.phase_lengths.specs.Phases.{lost_time}
use Rattle.phase_lengths.specs.declared.Phases.{Phases}
use Rattle.phase_greens.proofs.Fills.{start_within}
use Rattle.phase_greens.specs.Fills.{Right}
use Rattle.phase_greens.specs.Greens.{sharing, first_below_one, gives_greens}
use Rattle.phase_greens.specs.Slots.{slot_at}
use Rattle.phase_greens.specs.declared.Slot.{Slot}
use Rattle.junction_phases.specs.JunctionPhases.{phases_at}
use Rattle.junction_phases.specs.Meaning.{count_phases}
use Rattle.junction_phases.proofs.lemmas.Right.{phases_right_lem}
use Rattle.plan_rules.specs.Rules.{need_met, capacity_met, zone_met, rules_verdict}
use Rattle.cycle_search.specs.Planning.{plan_at, rule_outcome, outcome, is_works, works}

-- a phase whose start and green are at most 180
pub record SlotSmall (slot : Slot) : Type 0 where
  pub start : slot.start ≤ most_seconds
  pub green : slot.green ≤ most_seconds

-- a phase lies within a length that gives every phase a green
pub slot_small : (q : Phases) → Right q → (t : ℕ) → gives_greens q t ≡ true → t ≤ most_seconds → (i : ℕ) → i < q.count
    → SlotSmall (slot_at q (sharing q t) i)
slot_small q right t p short i low =
    let inside = start_within q right t p i low in
    record { start = omega arith; green = omega arith }

module _ (j : Junction) (taken : Taken j) (t : ℕ) where
  -- so does each stream's phase
  pub small : gives_greens (phases_at j t) t ≡ true → t ≤ most_seconds → (n : ℕ) → Between 1 j.held.streams n
      → SlotSmall (slot_at (phases_at j t) (sharing (phases_at j t) t) ((stream_numbered j n).phase - 1))
  unfolding phases_at
  small p short n w =
      let f = count_phases j taken n w in
      slot_small (phases_at j t) (phases_right_lem j taken t) t p short ((stream_numbered j n).phase - 1) (omega arith)

rule_works : (v : Verdict) → is_works (rule_outcome v) ≡ not (is_refused v)
rule_works (Ok u) = refl
rule_works (Err r) = by_test (eqb r.number 15) (λ e. rw e) (λ e. by_test (eqb r.number 16) (λ f. rw (e, f)) (λ f. rw (e, f)))

module _ (j : Junction) (t : ℕ) where
  -- a length works exactly where it gives every phase a green and no rule refuses its plan
  pub works_is : works j t ≡ (gives_greens (phases_at j t) t && not (is_refused (rules_verdict j (plan_at j t))))
  unfolding works outcome gives_greens
  works_is =
      let q = phases_at j t in
      let first = first_below_one q (sharing q t) in
      by_test (leb (lost_time q) t)
      (λ e. by_test (leb q.count first)
      (λ f. rw (e, f, le-ltb t (lost_time q) (leb-true _ _ e), le-ltb first q.count (leb-true _ _ f)) (rule_works (rules_verdict j (plan_at j t))))
      (λ f. rw (e, f, le-ltb t (lost_time q) (leb-true _ _ e), lt-ltb first q.count (leb-false _ _ f))))
      (λ e. rw (e, lt-ltb t (lost_time q) (leb-false _ _ e)))

  -- a length fails where it does not, or where a stream or a zone breaks a rule ..
  pub fails_gives_greens : gives_greens (phases_at j t) t ≡ false → works j t ≡ false
  fails_gives_greens e = rw (works_is, e)

  refused_fails : (rules_verdict j (plan_at j t) ≡ Passed → ⊥) → works j t ≡ false
  refused_fails h =
      rw works_is
      (by_test (is_refused (rules_verdict j (plan_at j t)))
      (λ e. by_test (gives_greens (phases_at j t) t) (λ f. rw (e, f)) (λ f. rw f))
      (λ e. absurd (h (not_refused _ e))))

  pub fails_need : (n : ℕ) → Between 1 j.held.streams n → need_met j (plan_at j t) n ≡ false → works j t ≡ false
  unfolding rules_verdict
  fails_need n w e = refused_fails (λ v. true≢false (sym (((each_passed (need_met j (plan_at j t)) 15 j.held.streams _).0 v).0 n w) ∙ e))

  pub fails_capacity : (n : ℕ) → Between 1 j.held.streams n → capacity_met j (plan_at j t) n ≡ false → works j t ≡ false
  unfolding rules_verdict
  fails_capacity n w e =
      refused_fails (λ v.
      let later = ((each_passed (need_met j (plan_at j t)) 15 j.held.streams _).0 v).1 in
      true≢false (sym (((each_passed (capacity_met j (plan_at j t)) 16 j.held.streams _).0 later).0 n w) ∙ e))

  pub fails_zone : (n : ℕ) → Between 1 j.held.zones n → zone_met j (plan_at j t) n ≡ false → works j t ≡ false
  unfolding rules_verdict
  fails_zone n w e =
      refused_fails (λ v.
      let later = ((each_passed (need_met j (plan_at j t)) 15 j.held.streams _).0 v).1 in
      let last = ((each_passed (capacity_met j (plan_at j t)) 16 j.held.streams _).0 later).1 in
      true≢false (sym (((each_passed (zone_met j (plan_at j t)) 17 j.held.zones _).0 last).0 n w) ∙ e))

  -- .. and works where it does and none is broken
  pub works_where : gives_greens (phases_at j t) t ≡ true
      → ((n : ℕ) → Between 1 j.held.streams n → need_met j (plan_at j t) n ≡ true)
      → ((n : ℕ) → Between 1 j.held.streams n → capacity_met j (plan_at j t) n ≡ true)
      → ((n : ℕ) → Between 1 j.held.zones n → zone_met j (plan_at j t) n ≡ true)
      → works j t ≡ true
  unfolding rules_verdict
  works_where p needs capacities zones =
      let last = (each_passed (zone_met j (plan_at j t)) 17 j.held.zones Passed).1 (zones, refl) in
      let later = (each_passed (capacity_met j (plan_at j t)) 16 j.held.streams _).1 (capacities, last) in
      rw (works_is, p, (each_passed (need_met j (plan_at j t)) 15 j.held.streams _).1 (needs, later))

  -- what it means that a length works
  pub works_only : (works j t ≡ true) → (gives_greens (phases_at j t) t ≡ true) × (rules_verdict j (plan_at j t) ≡ Passed)
  works_only e =
      let p = gives_greens (phases_at j t) t in
      let both = sym works_is ∙ e in
      (both_left p _ both, not_refused _ (by_test (is_refused (rules_verdict j (plan_at j t))) (λ r. absurd (true≢false (sym (both_right p _ both) ∙ ap not r))) (λ r. r)))
