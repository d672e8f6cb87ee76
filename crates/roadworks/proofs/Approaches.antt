-- What is asked of a listed stretch and of approaches in range: M is the least whole number not below 3 + t, the lost time is 2 × (M - 1), and the
-- two phases are as the rules of greens ask.
use Prim.Native.Nat.{ℕ, zero, suc, ◌+◌, ◌-◌, ◌*◌, ◌≤◌, ◌<◌}
use native.Mathlib.Omega.{arith}
use Rattle.std.specs.Prelude.{true, ◌↔◌, ◌≡◌, leb, ltb, get_or}
use Rattle.std.proofs.Math.Bool.{false}
use Rattle.std.proofs.Common.{true≢false, leb-true, leb-false, ltb-true}
use Rattle.std.proofs.Math.Path.{refl}
use Rattle.std.proofs.Math.ListN.{get_or-replicate}
use Rattle.laws.proofs.Rounding.{up_least}
use Rattle.laws.specs.Sums.{sum_of}
use Rattle.laws.specs.Tests.{by_test}
use Rattle.limits.specs.Limits.{most_phases}
use Rattle.flows.specs.Saturation.{flow_ratio}
use Rattle.stretches.specs.Listed.{placed}
use Rattle.stretches.specs.Table.{listed, clearing_length}
use Rattle.phase_lengths.specs.Phases.{no_phase, phase, lost, ratio_sum, lost_time}
use Rattle.phase_lengths.specs.declared.Phase.{Phase}
use Rattle.phase_greens.specs.Fills.{Right}
use Rattle.roadworks.specs.Roadworks.{in_range, intergreen, asked_of, approach_phase, phases_of}
use Rattle.roadworks.specs.declared.Approach.{Approach}
use Rattle.roadworks.specs.declared.Asked.{Asked}
use Rattle.roadworks.specs.Approaches.{approach_right, ratio_some, q}

module _ (stretch speed : ℕ) (asked : listed stretch speed ≡ true) where
  -- M is at most a whole number of seconds exactly where that is 3 + 3.6 × clearing length/speed or more
  pub intergreen_least : (k : ℕ) → (intergreen stretch speed ≤ k) ↔ (36 * clearing_length stretch + 30 * speed ≤ k * (10 * speed))
  unfolding intergreen
  intergreen_least k = up_least (36 * clearing_length stretch + 30 * speed) (10 * speed) k (omega (arith, (placed stretch speed asked).speed_is))

  pub intergreen_some : 4 ≤ intergreen stretch speed
  intergreen_some =
      by_test (leb (intergreen stretch speed) 3)
      (λ e. absurd (omega (arith, (intergreen_least 3).0 (leb-true _ _ e))))
      (λ e. omega (arith, leb-false (intergreen stretch speed) 3 e))

module _ (w : Asked) where
  -- the first two places have the approaches, the others are empty
  pub first_phase : phase (q w) 0 ≡ approach_phase w.intergreen w.first
  unfolding phase phases_of
  first_phase = refl

  pub second_phase : phase (q w) 1 ≡ approach_phase w.intergreen w.second
  unfolding phase phases_of
  second_phase = refl

  -- Y, and the planner's L
  pub ratios_two : ratio_sum (q w) ≡ flow_ratio w.first.flow w.first.saturation + flow_ratio w.second.flow w.second.saturation
  unfolding ratio_sum sum_of phase phases_of
  ratios_two = omega arith

  pub lost_twice : lost_time (q w) ≡ 2 * (w.intergreen - 1)
  unfolding lost_time lost sum_of phase phases_of
  lost_twice = omega arith

  rest_empty : (i : ℕ) → 2 ≤ i → i < most_phases → get_or (q w).of i no_phase ≡ no_phase
  unfolding phases_of
  rest_empty zero low high = absurd (omega arith)
  rest_empty (suc zero) low high = absurd (omega arith)
  rest_empty (suc (suc i)) low high = get_or-replicate 4 i no_phase no_phase (omega arith)

  pub none_after : (i : ℕ) → 2 ≤ i → phase (q w) i ≡ no_phase
  unfolding phase
  none_after i low = by_test (ltb i most_phases) (λ e. rw e (rest_empty i low (ltb-true _ _ e))) (λ e. rw e)

  -- what both approaches' phases and an empty place have, every place has
  each_phase : (P : Phase → Type 0) → P (approach_phase w.intergreen w.first) → P (approach_phase w.intergreen w.second) → P no_phase
      → (i : ℕ) → P (phase (q w) i)
  each_phase P a b none zero = rw first_phase a
  each_phase P a b none (suc zero) = rw second_phase b
  each_phase P a b none (suc (suc i)) = rw (none_after (suc (suc i)) (omega arith)) none

  some_between : 1 ≤ w.intergreen → (i : ℕ) → i < 2 → 1 ≤ (phase (q w) i).intergreen
  some_between some zero low = rw first_phase some
  some_between some (suc zero) low = rw second_phase some
  some_between some (suc (suc i)) low = absurd (omega arith)

-- the phases of a stretch and two approaches
pub phases_right_lem : (stretch speed : ℕ) (a b : Approach) → listed stretch speed ≡ true → in_range a ≡ true → in_range b ≡ true
    → Right (phases_of (asked_of stretch speed a b))
phases_right_lem stretch speed a b asked in_a in_b =
    let w = asked_of stretch speed a b in
    let first = approach_right a in_a in
    let second = approach_right b in_b in
    let m = intergreen_some stretch speed asked in
    record {
      few = unfold phases_of in omega arith;
      plain = each_phase w (λ p. p.cars ≡ false → p.ratio ≡ 0) (λ e. absurd (true≢false e)) (λ e. absurd (true≢false e)) (λ e. refl);
      between = unfold phases_of in λ i low. some_between w (omega arith) i low;
      none = unfold phases_of in none_after w;
      some = omega (arith, ratios_two w, ratio_some a.flow a.saturation first.flow.0 first.saturation.0);
    }
