-- The phases made of the largest figures of every phase are those of the junction.
use Rattle.std.specs.Prelude.{ℕ, ◌+◌, ◌-◌, max, ◌≡◌, leb}
use Rattle.std.proofs.Common.{le_refl, ◌∙◌}
use native.Mathlib.Omega.{arith}
use Rattle.std.proofs.Math.Bool.{false}
use Rattle.std.proofs.Math.Path.{sym}
use borrow.Author.Tests.{leb-true, leb-false}
use Rattle.laws.specs.Tests.{by_test, both_right}
use Rattle.junction.specs.declared.Junction.{Junction}
use Rattle.junction_places.specs.Places.{numbered_at}
use Rattle.junction_file.specs.Taken.{Taken}
use Rattle.phase_lengths.specs.declared.Phase.{Phase}
use Rattle.junction_phases.specs.JunctionPhases.{is_in, car_in, has_cars, phase_ratio}
use Rattle.junction_phases.specs.Meaning.{ratio_largest, cars_none}
use Rattle.junction_phases.specs.lemmas.Right.{no_cars, ratio_some}

-- a phase by its largest ratio of cars, entry toward the next phase and need
abbrev pub phase_with : ℕ → ℕ → ℕ → Phase
phase_with ratio entry need = record { cars = leb 1 ratio; ratio = ratio; intergreen = max 1 entry; need = need }

module _ (j : Junction) (taken : Taken j) where
  -- a phase has cars where its y is not 0, since no car's is
  pub cars_by_ratio : (f : ℕ) → has_cars j f ≡ leb 1 (phase_ratio j f)
  unfolding car_in
  cars_by_ratio f =
      by_test (leb 1 (phase_ratio j f))
      (λ some. by_test (has_cars j f) (λ cars. cars ∙ sym some) (λ none. let zero = no_cars j f none in
      absurd (omega (arith, leb-true 1 (phase_ratio j f) some))))
      (λ zero. let none : has_cars j f ≡ false = (cars_none j f).1 (λ n r. by_test (car_in j f n)
      (λ car. let there : n - 1 + 1 ≡ n = omega arith in
      let is-car = rw (numbered_at j n r.0) at (both_right (is_in j f n) _ car) in
      let y = rw there at (ratio_some j taken (n - 1) (omega arith) is-car) in
      absurd (omega (arith, y, (ratio_largest j f (phase_ratio j f)).0 (le_refl _) n r car, leb-false 1 (phase_ratio j f) zero)))
      (λ no. no)) in none ∙ sym zero)
