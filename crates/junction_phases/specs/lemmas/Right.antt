-- The phases of a taken junction are as the rules of greens ask.
use Rattle.std.specs.Prelude.{ℕ, ◌+◌, ◌≤◌, ◌<◌, false, ◌≡◌, refl, leb}
use Rattle.std.proofs.Common.{zero-le, le_antisymm, true≢false, sym, ◌∙◌}
use native.Mathlib.Omega.{arith}
use Rattle.std.proofs.Math.Bool.{true}
use Rattle.std.proofs.lemmas.Bool.{false≢true}
use borrow.Author.Tests.{leb-true, leb-false}
use Rattle.laws.specs.Tests.{by_test}
use Rattle.streams.specs.declared.CarFigures.{CarFigures}
use Rattle.streams.specs.declared.Kind.{Kind}
use Rattle.streams.specs.declared.Kind.TheVariants.{Car, Tram, Pedestrian, Cyclist, Island}
use Rattle.junction.specs.declared.Junction.{Junction}
use Rattle.junction_places.specs.Places.{stream_at}
use Rattle.streams.specs.Kinds.{is_car}
use Rattle.junction_file.specs.Taken.{Taken}
use Rattle.junction_figures.specs.Figures.{stream_flow, stream_ratio}
use Rattle.junction_figures.specs.Positive.{stream_ratio_least}
use Rattle.junction_phases.specs.JunctionPhases.{has_cars, phase_ratio}
use Rattle.junction_phases.specs.Meaning.{ratio_largest, cars_none}

-- the figures of a car
car_figures : (k : Kind) → is_car k ≡ true → (c : CarFigures) × (k ≡ Car c)
car_figures (Car c) e = (c, refl)
car_figures (Tram t) e = absurd (false≢true e)
car_figures (Pedestrian p) e = absurd (false≢true e)
car_figures (Cyclist y) e = absurd (false≢true e)
car_figures (Island i) e = absurd (false≢true e)

module _ (j : Junction) where
  -- a phase without cars has y 0
  pub no_cars : (f : ℕ) → has_cars j f ≡ false → phase_ratio j f ≡ 0
  no_cars f e = le_antisymm ((ratio_largest j f 0).1 (λ n r car. absurd (true≢false (sym car ∙ (cars_none j f).0 e n r)))) zero-le

  module _ (t : Taken j) where
    -- y of a car is at least 1, its flow being so
    pub ratio_some : (i : ℕ) → i < j.held.streams → is_car (stream_at j i).kind ≡ true → 1 ≤ stream_ratio j (i + 1)
    unfolding stream_flow
    ratio_some i low e =
        let c = car_figures (stream_at j i).kind e in
        by_test (leb 1 (stream_ratio j (i + 1))) (λ some. leb-true _ _ some)
        (λ no. let zero = (stream_ratio_least j t i low c.0 c.1 0).0 (omega (arith, leb-false 1 (stream_ratio j (i + 1)) no)) in
        absurd (omega (arith, zero, (t.flows i low e).flow)))
