-- 21, 22 and 23, asked in order, and what is worked out where none of them is refused.
use Prim.Native.Nat.{ℕ, ◌+◌, ◌*◌, ◌≤◌, ◌<◌}
use Rattle.std.proofs.Common.{arith, ◌∙◌, ltb-true, ltb-false, le-leb}
use Rattle.std.specs.Prelude.{Bool, true, false, List, ◌++◌, ◌↔◌, ◌≡◌, refl, ltb, length, drop}
use Rattle.std.proofs.Math.Bool.{true≢false}
use Rattle.std.proofs.lemmas.Bool.{false≢true}
use Rattle.std.proofs.Math.Path.{sym, ap}
use Rattle.laws.specs.Tests.{by_test, both}
use Rattle.limits.specs.Limits.{no_cycle}
use Rattle.fields.specs.Verdict.{number_of, is_refused, ask, Passed, Refused}
use Rattle.junction_file.specs.Reading.{reading}
use Rattle.junction_file.proofs.TakenFile.{taken}
use Rattle.plan_file.specs.Writing.{plan_size, has_room, has_room_lem, written}
use Rattle.cycle_search.specs.Planning.{ratios, plan_at, cycle}
use Rattle.planner.proofs.lemmas.Cases.{file_verdict_lem, buffer_passed, lent_taken}
use Rattle.planner.specs.WorkingOut.{calculation, junction_verdict, worked, buffer}
use Rattle.demands.specs.Files.{plan_bytes}

-- three questions asked in order
module _ where
  passed_refused : {P : Type 0} (number place : ℕ) → Passed ≡ Refused number place → P
  passed_refused number place e = absurd (true≢false (sym (ap is_refused e)))

  pub ask_21 : (a b c : Bool) → (ask a 21 0 (ask b 22 0 (ask c 23 0 Passed)) ≡ Refused 21 0) ↔ (a ≡ false)
  ask_21 false b c = (λ e. refl, λ e. refl)
  ask_21 true false c = (λ e. absurd (omega (arith, ap number_of e)), λ e. absurd (true≢false e))
  ask_21 true true false = (λ e. absurd (omega (arith, ap number_of e)), λ e. absurd (true≢false e))
  ask_21 true true true = (λ e. passed_refused 21 0 e, λ e. absurd (true≢false e))

  pub ask_22 : (a b c : Bool) → (ask a 21 0 (ask b 22 0 (ask c 23 0 Passed)) ≡ Refused 22 0) ↔ ((a ≡ true) × (b ≡ false))
  ask_22 false b c = (λ e. absurd (omega (arith, ap number_of e)), λ e. absurd (false≢true e.0))
  ask_22 true false c = (λ e. (refl, refl), λ e. refl)
  ask_22 true true false = (λ e. absurd (omega (arith, ap number_of e)), λ e. absurd (true≢false e.1))
  ask_22 true true true = (λ e. passed_refused 22 0 e, λ e. absurd (true≢false e.1))

  pub ask_23 : (a b c : Bool) → (ask a 21 0 (ask b 22 0 (ask c 23 0 Passed)) ≡ Refused 23 0) ↔ ((a ≡ true) × (b ≡ true) × (c ≡ false))
  ask_23 false b c = (λ e. absurd (omega (arith, ap number_of e)), λ e. absurd (false≢true e.0))
  ask_23 true false c = (λ e. absurd (omega (arith, ap number_of e)), λ e. absurd (false≢true e.1))
  ask_23 true true false = (λ e. (refl, refl, refl), λ e. refl)
  ask_23 true true true = (λ e. passed_refused 23 0 e, λ e. absurd (true≢false e.2))

  pub ask_none : (a b c : Bool) → (ask a 21 0 (ask b 22 0 (ask c 23 0 Passed)) ≡ Passed) ↔ ((a ≡ true) × (b ≡ true) × (c ≡ true))
  ask_none false b c = (λ e. passed_refused 21 0 (sym e), λ e. absurd (false≢true e.0))
  ask_none true false c = (λ e. passed_refused 22 0 (sym e), λ e. absurd (false≢true e.1))
  ask_none true true false = (λ e. passed_refused 23 0 (sym e), λ e. absurd (false≢true e.2))
  ask_none true true true = (λ e. (refl, refl, refl), λ e. refl)

module _ (junction : List ℕ) (is : (reading junction).verdict ≡ Passed) where
  few : (reading junction).junction.held.streams ≤ 16
  few = (taken junction is).fields.few_streams

  module _ (lent : List ℕ) where
    pub verdict_is : (worked junction (length lent)).verdict
        ≡ ask (ltb (ratios (reading junction).junction) 10000) 21 0
        (ask (ltb (cycle (reading junction).junction) no_cycle) 22 0 (ask (has_room (reading junction).junction.held.streams (length lent)) 23 0 Passed))
    unfolding junction_verdict calculation
    verdict_is = file_verdict_lem junction (length lent) ∙ rw is

    pub room_there : (has_room (reading junction).junction.held.streams (length lent) ≡ true)
        ↔ (5 + 8 * (reading junction).junction.held.streams ≤ length lent)
    unfolding plan_size
    room_there = (
      λ e. (has_room_lem _ _ e).1,
      λ h. unfold has_room in both _ _ (le-leb _ 16 few) (le-leb _ (length lent) h),
    )

    pub room_lacks : (has_room (reading junction).junction.held.streams (length lent) ≡ false)
        ↔ (length lent < 5 + 8 * (reading junction).junction.held.streams)
    room_lacks =
        let n = (reading junction).junction.held.streams in (
          λ e. by_test (ltb (length lent) (5 + 8 * n)) (λ t. ltb-true _ _ t)
              (λ t. absurd (true≢false (sym (room_there.1 (ltb-false _ _ t)) ∙ e))),
          λ h. by_test (has_room n (length lent)) (λ t. let enough = room_there.0 t in absurd (omega arith)) (λ t. t),
        )

    pub buffer_is : junction_verdict (reading junction).junction (length lent) ≡ Passed → has_room (reading junction).junction.held.streams (length lent) ≡ true
        → buffer junction lent ≡ plan_bytes junction (cycle (reading junction).junction) ++ drop (5 + 8 * (reading junction).junction.held.streams) lent
    buffer_is passed room =
        let j = (reading junction).junction in
        let p = plan_at j (cycle j) in
        sym (buffer_passed j lent (ap is_refused passed) ∙ lent_taken junction lent (ap is_refused is))
        ∙ unfold written plan_size in rw room
