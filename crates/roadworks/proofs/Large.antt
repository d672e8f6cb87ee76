-- Numbers above 10,000 are all alike: the answer is that of the numbers, each cut to any limit of 10,000 or more, as a program that reads them does.
use Rattle.std.specs.Prelude.{ℕ, ◌*◌, ◌≤◌, min, true, ◌&&◌, ◌≡◌, leb, ltb}
use Rattle.std.proofs.Common.{mul-le-mul, arith, sym, ◌∙◌, ap}
use Rattle.std.proofs.Math.Bool.{false}
use borrow.Author.Tests.{lt-leb, lt-ltb}
use Rattle.laws.specs.Tests.{by_test, both_left, both_right}
use Rattle.limits.specs.Limits.{no_cycle, least_flow, greatest_flow}
use Rattle.stretches.specs.Listed.{placed}
use Rattle.stretches.specs.Table.{by_steps, listed}
use Rattle.roadworks.specs.Approaches.{approach_right}
use Rattle.roadworks.proofs.Cycle.{cycle_range}
use Rattle.roadworks.specs.Roadworks.{hourly, in_range, asked_of, cycle_of, enough_waiting, later_verdict, timing, timed, portable}
use Rattle.roadworks.specs.declared.Approach.{Approach}
use Rattle.roadworks.proofs.lemmas.Steps.{not_listed, out_of_range, asked_later}
use Rattle.roadworks.specs.Large.{cut_same, cut_test, cut, short}

module _ (most : ℕ) (large : 10000 ≤ most) where
  -- 25: a listed stretch and a listed speed are at most 300
  steps_cut : (low high step : ℕ) → high ≤ 9999 → (n : ℕ) → by_steps low high step (min n most) ≡ by_steps low high step n
  unfolding by_steps
  steps_cut low high step within =
      (cut_test most large) (by_steps low high step) false
      (λ n above. by_test (leb low n) (λ e. rw (e, lt-leb n high (omega arith))) (λ e. rw e))

  listed_cut : (stretch speed : ℕ) → listed (min stretch most) (min speed most) ≡ listed stretch speed
  unfolding listed
  listed_cut stretch speed = rw (steps_cut 10 300 10 (omega arith) stretch, steps_cut 25 40 5 (omega arith) speed)

  -- 26: a flow in range is at most 9,999
  hourly_cut : (n : ℕ) → hourly (min n most) ≡ hourly n
  hourly_cut = cut_test most large hourly false (λ n above. by_test (leb least_flow n) (λ e. rw (e, lt-leb n greatest_flow (omega arith))) (λ e. rw e))

  range_cut : (a : Approach) → in_range (cut most large a) ≡ in_range a
  unfolding in_range
  range_cut a = rw (hourly_cut a.flow, hourly_cut a.saturation)

  -- 27: the needed waiting length is at most 9,999 × 181/600 m
  waiting_cut : (a : Approach) (cycle : ℕ) → a.flow ≤ greatest_flow → cycle ≤ no_cycle
      → ltb (a.flow * cycle) (600 * min a.waiting most) ≡ ltb (a.flow * cycle) (600 * a.waiting)
  waiting_cut a cycle low short =
      let product : a.flow * cycle ≤ 9999 * 181 = mul-le-mul {m₂ = 181} low short in
      (cut_test most large) (λ w. ltb (a.flow * cycle) (600 * w)) true (λ w above. lt-ltb (a.flow * cycle) (600 * w) (omega arith)) a.waiting

  -- flow and S in range are as they were
  in_range_cut : (a : Approach) → in_range a ≡ true → cut most large a ≡ short most large a
  in_range_cut a e =
      let r = approach_right a e in
      rw (cut_same most large a.flow (omega (arith, r.flow)), cut_same most large a.saturation (omega (arith, r.saturation)))

  -- the later questions, of approaches in range
  timed_short : (stretch speed : ℕ) (a b : Approach) → in_range a ≡ true → in_range b ≡ true → timed stretch speed (short most large a) (short most large b) ≡ timed stretch speed a b
  unfolding timed later_verdict timing enough_waiting
  timed_short stretch speed a b in_a in_b =
      let c = cycle_of (asked_of stretch speed a b) in
      let range = (cycle_range (asked_of stretch speed a b)).1 in
      rw (waiting_cut a c (approach_right a in_a).flow.1 range, waiting_cut b c (approach_right b in_b).flow.1 range)

  timed_cut : (stretch speed : ℕ) (a b : Approach) → in_range a ≡ true → in_range b ≡ true → timed stretch speed (cut most large a) (cut most large b) ≡ timed stretch speed a b
  timed_cut stretch speed a b in_a in_b =
      ap (λ x. timed stretch speed x (cut most large b)) (in_range_cut a in_a)
      ∙ ap (λ x. timed stretch speed (short most large a) x) (in_range_cut b in_b)
      ∙ timed_short stretch speed a b in_a in_b

  -- every answer
  pub most_answered : (stretch speed : ℕ) (a b : Approach) → portable (min stretch most) (min speed most) (cut most large a) (cut most large b) ≡ portable stretch speed a b
  most_answered stretch speed a b =
      let same-listed = listed_cut stretch speed in
      let same-ranges : (in_range (cut most large a) && in_range (cut most large b)) ≡ (in_range a && in_range b) = rw (range_cut a, range_cut b) in
      by_test (listed stretch speed)
      (λ e. let p = placed stretch speed e in
      let s : min stretch most ≡ stretch = cut_same most large stretch (omega (arith, p.row, p.stretch_is)) in
      let v : min speed most ≡ speed = cut_same most large speed (omega (arith, p.column, p.speed_is)) in
      rw (s, v)
      (by_test (in_range a && in_range b)
      (λ f. asked_later stretch speed (cut most large a) (cut most large b) e (same-ranges ∙ f)
      ∙ timed_cut stretch speed a b (both_left (in_range a) _ f) (both_right (in_range a) _ f)
      ∙ sym (asked_later stretch speed a b e f))
      (λ f. out_of_range stretch speed (cut most large a) (cut most large b) e (same-ranges ∙ f) ∙ sym (out_of_range stretch speed a b e f))))
      (λ e. not_listed _ _ (cut most large a) (cut most large b) (same-listed ∙ e) ∙ sym (not_listed stretch speed a b e))
