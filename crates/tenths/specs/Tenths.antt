-- Tenths of a number of f64, as a program prints them.
use Rattle.std.specs.Prelude.{ℕ, ◌-◌, Bool, cond, leb, Float}
use Rattle.std.specs.Float.{binary64}
use Rattle.std.specs.Float.Ieee.{mul, le}
use Rattle.laws.specs.Search.{first_below}
use Rattle.service_level.specs.Delays.{whole}
use Rattle.service_level.specs.declared.Level.{Level}
use Rattle.service_level.specs.declared.Level.TheVariants.{A, B, C, D, E, F}

-- one more than the most tenths that are told, 9,999.9
abbrev pub tenths_end : ℕ
tenths_end = 100000

-- ten times a number, rounded once
abbrev pub tenfold : Float → Float
tenfold x = mul binary64 x (whole 10)

-- a whole number is not below another number
abbrev pub enough : Float → ℕ → Bool
enough t n = le t (whole n)

-- rounded up: the least whole number not below ten times x; the end where every number below that is too small
unfoldable pub tenths_up : Float → ℕ
tenths_up x = first_below (enough (tenfold x)) tenths_end 0

-- rounded down: one less where that is above ten times x
unfoldable pub tenths_down : Float → ℕ
tenths_down x = cond (le (whole (tenths_up x)) (tenfold x)) (tenths_up x) (tenths_up x - 1)

-- the level of a delay as it is printed: A up to 25.0, B up to 35.0, C up to 50.0, D up to 70.0, E up to 100.0, else F
unfoldable pub level_of_tenths : ℕ → Level
level_of_tenths n = cond (leb n 250) A (cond (leb n 350) B (cond (leb n 500) C (cond (leb n 700) D (cond (leb n 1000) E F))))
