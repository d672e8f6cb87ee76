-- The phases of a taken junction are as the rules of greens ask.
use Rattle.std.specs.Prelude.{ℕ, ◌+◌, ◌-◌, ◌≤◌, ◌<◌, false, ◌≡◌, refl, ltb, eqb}
use Rattle.std.proofs.Common.{le_refl}
use Rattle.std.proofs.Math.Nat.{le-max_left, add-sub_cancel}
use native.Mathlib.Omega.{arith}
use Rattle.std.proofs.Math.Bool.{true}
use borrow.Author.Tests.{ltb-true, ltb-false, eq-eqb}
use Rattle.laws.specs.Ranges.{Between}
use Rattle.laws.specs.Sums.{sum_part}
use Rattle.laws.specs.Tests.{by_test, both}
use Rattle.junction.specs.declared.Junction.{Junction}
use Rattle.junction_places.specs.Places.{stream_numbered, numbered_at}
use Rattle.streams.specs.Kinds.{is_car}
use Rattle.junction_file.specs.Taken.{Taken}
use Rattle.phase_greens.specs.Fills.{Right}
use Rattle.phase_lengths.specs.Phases.{phase, ratio_sum}
use Rattle.junction_phases.specs.JunctionPhases.{is_in, car_in, phase_ratio, phase_count, intergreen, phase_at, phases_at}
use Rattle.junction_phases.specs.Meaning.{ratio_largest, count_phases}
use Rattle.junction_phases.specs.lemmas.Placed.{few_phases}
use Rattle.junction_phases.proofs.lemmas.Placed.{phase_placed, phase_empty}
use Rattle.junction_phases.specs.lemmas.Right.{no_cars, ratio_some}

module _ (j : Junction) where
  no_cars_at : (t i : ℕ) → (phase (phases_at j t) i).cars ≡ false → (phase (phases_at j t) i).ratio ≡ 0
  unfolding phase_at
  no_cars_at t i =
      by_test (ltb i (phase_count j)) (λ e. rw (phase_placed j t i (ltb-true _ _ e)) (no_cars j (i + 1)))
      (λ e. rw (phase_empty j t i (ltb-false _ _ e)) (λ no. refl))

  -- M is at least 1
  between_some : (t i : ℕ) → i < phase_count j → 1 ≤ (phase (phases_at j t) i).intergreen
  unfolding phase_at intergreen
  between_some t i low = rw (phase_placed j t i low) (le-max_left 1 _)

  module _ (t : Taken j) where
    -- Y is not 0: the phase of a car has at least its y
    sum_some : (cycle : ℕ) → 0 < ratio_sum (phases_at j cycle)
    unfolding ratio_sum phase_at is_in car_in
    sum_some cycle =
        let n = t.car.place + 1 in
        let f = (stream_numbered j n).phase in
        let exists : Between 1 j.held.streams n = omega (arith, t.car.held) in
        let in_range = count_phases j t n exists in
        let is-car : is_car (stream_numbered j n).kind ≡ true = rw (numbered_at j n exists.0, add-sub_cancel t.car.place 1) t.car.car in
        let y = (ratio_largest j f (phase_ratio j f)).0 (le_refl _) n exists (both (eqb f f) _ (eq-eqb f f refl) is-car) in
        let there : f - 1 + 1 ≡ f = omega arith in
        let placed : (phase (phases_at j cycle) (f - 1)).ratio ≡ phase_ratio j f = rw (phase_placed j cycle (f - 1) (omega arith), there) in
        let part = sum_part (λ i. (phase (phases_at j cycle) i).ratio) 6 (f - 1) (omega (arith, few_phases j)) in
        omega (arith, ratio_some j t t.car.place t.car.held t.car.car)

-- at any cycle
pub phases_right_lem : (j : Junction) → Taken j → (t : ℕ) → Right (phases_at j t)
unfolding phases_at
phases_right_lem j taken t =
    record {
      few = few_phases j;
      plain = no_cars_at j t;
      between = between_some j t;
      none = phase_empty j t;
      some = sum_some j taken t;
    }
