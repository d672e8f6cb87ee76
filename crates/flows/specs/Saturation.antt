-- Saturation flows and flow ratios (document 01, "Needs and flows"; annex 2.1.2 to 2.1.5).
use Rattle.std.specs.Prelude.{ℕ, ◌+◌, ◌-◌, ◌*◌, ◌/◌, ◌^◌, cond, List, [], ◌∷◌, leb, eqb}
use Rattle.laws.specs.Rounding.{up}
use Rattle.streams.specs.declared.CarFigures.{CarFigures}

-- a row of Table 1: a width in cm and its flow in E/h
pub record Row : Type 0 where
  pub width : ℕ
  pub flow : ℕ

row : ℕ → ℕ → Row
row w f = record { width = w; flow = f }

unfoldable pub table1 : List Row
unfolding row
table1 =
    row 300 1850 ∷ row 325 1870 ∷ row 330 1875 ∷ row 350 1925 ∷ row 360 1950 ∷ row 375 1980 ∷
    row 400 2030 ∷ row 420 2075 ∷ row 450 2275 ∷ row 480 2475 ∷ row 500 2585 ∷ row 540 2700 ∷ []

-- the flow at the greatest listed width not above w, in rows that rise; f where no row is at or below w
unfoldable pub listed_from : ℕ → List Row → ℕ → ℕ
listed_from f [] w = f
listed_from f (r ∷ rows) w = cond (leb r.width w) (listed_from r.flow rows w) f

-- straight base flow: Table 1 up to 540 cm, wider by formula (20), 525 E/h for each metre; a width below every listed one is in no
-- file, and has flow 0
unfoldable pub straight_flow : ℕ → ℕ
straight_flow w = cond (leb w 540) (listed_from 0 table1 w) (21 * w / 4)

-- turning base flow with radius R in dm: formula (21) in one row, (22) in two
unfoldable pub turning_flow : ℕ → ℕ → ℕ
turning_flow radius rows = cond (eqb rows 2) 12000 7200 * radius / (4 * radius + 61)

unfoldable pub base_flow : CarFigures → ℕ
base_flow c = cond (eqb c.radius 0) (straight_flow c.width) (turning_flow c.radius c.rows)

-- formula (23) in hundredths: 100 - 3 × gradient, the file's number being the gradient plus 10
unfoldable pub gradient_percent : ℕ → ℕ
gradient_percent g = 130 - 3 * g

-- Table 2 in hundredths: 1 good, 2 medium, 3 bad
unfoldable pub conditions_percent : ℕ → ℕ
conditions_percent k = cond (eqb k 1) 120 (cond (eqb k 2) 100 85)

-- formulas (24) to (26): Kturn = 400 / turn_divisor, with shares a straight, b left, c right in percent
unfoldable pub turn_divisor : ℕ → ℕ → ℕ
turn_divisor b c = cond (leb 10 (b + c)) (4 * (100 - (b + c)) + 7 * b + 5 * c) 400

-- formula (28): base × gradient × conditions × Kturn, rounded down once
unfoldable pub saturation_flow : CarFigures → ℕ
saturation_flow c =
    base_flow c * gradient_percent c.gradient * conditions_percent c.conditions * 400 / (100 * 100 * turn_divisor c.left c.right)

-- formula (29) in ten-thousandths, rounded up; a saturation flow of 0, which no file gives, has no ratio, and the answer is the
-- largest number of 32 bits
unfoldable pub flow_ratio : ℕ → ℕ → ℕ
flow_ratio flow s = cond (eqb s 0) (2 ^ 32 - 1) (up (10000 * flow) s)
