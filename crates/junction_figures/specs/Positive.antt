-- The saturation flow of a taken junction's car is not 0, so its flow ratio is the quotient rounded up.
use Rattle.std.specs.Prelude.{ℕ, ◌+◌, ◌*◌, ◌≤◌, ◌<◌, ◌↔◌, ◌≡◌, refl, leb, eqb}
use Rattle.std.proofs.Common.{le_refl, le-div_iff_mul-le, mul-le-mul, add-sub_cancel, arith, ⊎_elim, subst, leb-true}
use Rattle.std.proofs.lemmas.Bool.{eqb-false}
use Rattle.laws.specs.Ranges.{every_at, Between}
use Rattle.laws.specs.Tests.{by_test}
use Rattle.streams.specs.declared.CarFigures.{CarFigures}
use Rattle.streams.specs.declared.Kind.TheVariants.{Car}
use Rattle.flows.specs.Meaning.{numerator, saturation_greatest, ratio_least}
use Rattle.flows.specs.Saturation.{table1, listed_from, straight_flow, turning_flow, base_flow, gradient_percent, conditions_percent, turn_divisor, saturation_flow}
use Rattle.junction.specs.declared.Junction.{Junction}
use Rattle.junction_places.specs.Places.{stream_at, numbered_at}
use Rattle.junction_file.specs.Taken.{CarRanges, KindRanges, Taken}
use Rattle.junction_figures.specs.Figures.{stream_flow, stream_saturation, stream_ratio}

straight_some : (w : ℕ) → Between 300 1500 w → 1000 ≤ straight_flow w
straight_some w r =
    leb-true _ _ (every_at (λ v. leb 1000 (straight_flow v)) 1201 300 (unfold straight_flow listed_from table1 in refl) w r.0 (omega arith))

turning_some : (radius rows : ℕ) → 30 ≤ radius → 1000 ≤ turning_flow radius rows
unfolding turning_flow
turning_some radius rows h =
    by_test (eqb rows 2)
    (λ e. rw e ((le-div_iff_mul-le {k = 4 * radius + 61} {x = 1000} {y = 12000 * radius} (omega arith)).1 (omega arith)))
    (λ e. rw e ((le-div_iff_mul-le {k = 4 * radius + 61} {x = 1000} {y = 7200 * radius} (omega arith)).1 (omega arith)))

base_some : (c : CarFigures) → CarRanges c → 1000 ≤ base_flow c
unfolding base_flow
base_some c r =
    by_test (eqb c.radius 0) (λ e. rw e (straight_some c.width r.width))
    (λ e. rw e (turning_some c.radius c.rows (⊎_elim (λ (z : c.radius ≡ 0). absurd (eqb-false _ _ e z)) (λ (w : Between 30 9999 c.radius). w.0) r.radius)))

gradient_some : (g : ℕ) → g ≤ 20 → 70 ≤ gradient_percent g
unfolding gradient_percent
gradient_some g h = omega arith

conditions_some : (k : ℕ) → 85 ≤ conditions_percent k
unfolding conditions_percent
conditions_some k = by_test (eqb k 1) (λ e. rw e (omega arith)) (λ e. rw e (by_test (eqb k 2) (λ f. rw f (omega arith)) (λ f. rw f (omega arith))))

divisor_few : (b c : ℕ) → b + c ≤ 100 → turn_divisor b c ≤ 700
unfolding turn_divisor
divisor_few b c h = by_test (leb 10 (b + c)) (λ e. rw e (omega arith)) (λ e. rw e (omega arith))

-- the saturation flow of a car with figures in range is not 0
pub saturation_some : (c : CarFigures) → CarRanges c → 0 < saturation_flow c
saturation_some c r =
    let product : 1000 * 70 * 85 * 400 ≤ numerator c =
    mul-le-mul (mul-le-mul (mul-le-mul (base_some c r) (gradient_some c.gradient r.gradient)) (conditions_some c.conditions)) (le_refl 400) in
    (saturation_greatest c 1).1 (omega (arith, divisor_few c.left c.right r.shares))

-- y of a taken junction's car: the least whole number of ten-thousandths that is at least flow / S
pub stream_ratio_least : (j : Junction) → Taken j → (i : ℕ) → i < j.held.streams → (c : CarFigures) → (stream_at j i).kind ≡ Car c → (k : ℕ)
    → (stream_ratio j (i + 1) ≤ k) ↔ (10000 * stream_flow j (i + 1) ≤ k * saturation_flow c)
unfolding stream_ratio stream_saturation
stream_ratio_least j t i low c is k =
    rw (numbered_at j (i + 1) (omega arith), add-sub_cancel i 1, is)
    (ratio_least (stream_flow j (i + 1)) (saturation_flow c) k (saturation_some c (subst KindRanges is (t.fields.streams i low).figures)))
