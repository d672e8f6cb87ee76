-- The divisors of the delay's formulas, and the ranges of the numbers that they are made of.
use Rattle.std.specs.Prelude.{ℕ, ◌-◌, ◌^◌, ◌<◌, false, ◌≡◌, T, Float}
use Rattle.std.specs.Float.Ieee.{binary64, round, sub, mul, div, le}
use Rattle.std.specs.Float.Ieee.Positive.{positive}
use Rattle.laws.specs.Ranges.{Between}
use Rattle.service_level.specs.Delays.{whole}
use Rattle.service_level.specs.lemmas.Ranged.{one, two}

-- the ranges of the numbers, wider than those of any file
pub record Numbers (length cycle flow s : ℕ) : Type 0 where
  pub of_length : length < 2 ^ 16
  pub of_cycle : Between 1 65535 cycle
  pub of_flow : Between 1 65535 flow
  pub of_s : Between 1 (2 ^ 42) s

-- 1 - 2^-53, the greatest number below 1
abbrev pub top : Float
top = round binary64 false (2 ^ 53 - 1) (2 ^ 53)

-- the least and the greatest g, g × S and u
abbrev pub least_g : Float
least_g = div binary64 one (whole 65535)

abbrev pub most_g : Float
most_g = div binary64 (whole 65536) one

abbrev pub most_capacity : Float
most_capacity = mul binary64 most_g (whole (2 ^ 42))

abbrev pub least_u : Float
least_u = div binary64 one most_capacity

-- every divisor, by the formula that divides by it: those of g, u and d always, those of A and B where these are worked out
pub record Divisors (g u : Float) (cycle flow s : ℕ) : Type 0 where
  pub of_g : T (positive (whole cycle))
  pub of_u : T (positive (mul binary64 g (whole s)))
  pub of_a : le one g ≡ false → le one u ≡ false → T (positive (mul binary64 two (sub binary64 one (mul binary64 g u))))
  pub of_b : le one g ≡ false → le one u ≡ false → T (positive (mul binary64 two (sub binary64 one u)))
  pub of_d : T (positive (whole flow))
