-- What the definitions of needs and flows mean, in the words of the annex and of document 01.
use Rattle.std.specs.Prelude.{ℕ, ◌+◌, ◌*◌, ◌≤◌, ◌<◌, ◌||◌, ◌↔◌, ◌≡◌, ltb, leb}
use Rattle.std.proofs.Common.{le-div_iff_mul-le, ne_of_gt, arith, le-leb, ne_eqb}
use mathlib.Core.List.{List, Memᴰ}
use Rattle.std.proofs.lemmas.Bool.{lt-leb}
use Rattle.laws.proofs.Rounding.{up_least}
use Rattle.laws.specs.Tests.{by_test}
use Rattle.streams.specs.declared.CarFigures.{CarFigures}
use Rattle.streams.specs.declared.PedestrianFigures.{PedestrianFigures}
use Rattle.streams.specs.declared.TramFigures.{TramFigures}
use Rattle.flows.specs.Needs.{longest_cycle, tram_need, crossing_speed, disturbance, pedestrian_need}
use Rattle.flows.specs.Saturation.{Row, base_flow, gradient_percent, conditions_percent}
use Rattle.flows.specs.Saturation.{turn_divisor, saturation_flow, flow_ratio}
use Rattle.flows.specs.lemmas.Bounds.{turn_positive}

-- annex 2.2, Table 3: 10 s where the cycle is at most the table's, else 20 s
module _ (cycle : ℕ) (t : TramFigures) where
  pub tram_once : cycle ≤ longest_cycle t.hourly → tram_need cycle t ≡ 10
  unfolding tram_need
  tram_once h = simp (le-leb _ _ h)

  pub tram_twice : longest_cycle t.hourly < cycle → tram_need cycle t ≡ 20
  unfolding tram_need
  tram_twice h = simp (lt-leb _ _ h)

-- the divisor of (39) is not 0
crossing_positive : (p : PedestrianFigures) → 0 < crossing_speed p
unfolding crossing_speed
crossing_positive p =
    by_test (ltb 120 p.crossing || leb p.hourly 120) (λ e. rw e (omega arith)) (λ e. rw e (omega arith))

-- (38) to (40): the least whole number that is at least 6 and at least crossing / speed, plus 3 if disturbed
pub pedestrian_least : (p : PedestrianFigures) (k : ℕ)
    → (pedestrian_need p ≤ k) ↔ ((6 ≤ k) × (p.crossing + disturbance p * crossing_speed p ≤ k * crossing_speed p))
unfolding pedestrian_need
pedestrian_least p k =
    let least = up_least (p.crossing + disturbance p * crossing_speed p) (crossing_speed p) k (crossing_positive p) in
    (λ h. (omega arith, least.0 (omega arith)), λ h. omega (arith, least.1 h.1))

-- of the rows that are listed and not wider than w, r is the one with the greatest width
pub record Greatest (rows : List Row) (w : ℕ) (r : Row) : Type 0 where
  pub listed : Memᴰ r rows
  pub not_wider : r.width ≤ w
  pub greatest : (s : Row) → Memᴰ s rows → s.width ≤ w → s.width ≤ r.width

-- (28) over one divisor
abbrev pub numerator : CarFigures → ℕ
numerator c = base_flow c * gradient_percent c.gradient * conditions_percent c.conditions * 400

abbrev pub denominator : CarFigures → ℕ
denominator c = 100 * 100 * turn_divisor c.left c.right

-- (28): the greatest whole number that is at most base × gradient × conditions × Kturn
pub saturation_greatest : (c : CarFigures) (k : ℕ) → (k ≤ saturation_flow c) ↔ (k * denominator c ≤ numerator c)
unfolding saturation_flow
saturation_greatest c k = le-div_iff_mul-le (omega (arith, turn_positive c.left c.right))

-- (29): the least whole number of ten-thousandths that is at least flow / S
pub ratio_least : (flow s k : ℕ) → 0 < s → (flow_ratio flow s ≤ k) ↔ (10000 * flow ≤ k * s)
unfolding flow_ratio
ratio_least flow s k h = rw (ne_eqb s 0 (ne_of_gt h)) (up_least (10000 * flow) s k h)
