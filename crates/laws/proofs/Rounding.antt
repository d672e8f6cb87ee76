-- A quotient rounded up is the least whole number that is not below the quotient.
use Rattle.std.specs.Prelude.{ℕ, ◌+◌, ◌-◌, ◌*◌, ◌/◌, ◌%◌, ◌≤◌, ◌<◌, ◌≡◌, ◌↔◌, min}
use Rattle.std.proofs.Common.{div-lt_iff_lt-mul, le-mul_of_pos_right, le_refl, arith}
use Rattle.std.proofs.Math.Nat.{lt_of_mul-lt-mul_right}
use Rattle.std.proofs.lemmas.Grind.{div_ceil_times}
use Rattle.laws.specs.Rounding.{up}

-- a whole number is at least the quotient rounded up exactly where it is at least the quotient
pub up_least : (n d k : ℕ) → 0 < d → (up n d ≤ k) ↔ (n ≤ k * d)
unfolding up
up_least n d k h =
    let same = div-lt_iff_lt-mul {k = d} {x = n + (d - 1)} {y = k + 1} h in (
      λ low. let l : (n + (d - 1)) / d < k + 1 = omega arith in omega (arith, same.0 l),
      λ low. let l : n + (d - 1) < (k + 1) * d = omega arith in omega (arith, same.1 l),
    )

pub up_small : (n d : ℕ) → 0 < d → up n d ≤ n
up_small n d h = (up_least n d n h).1 (le-mul_of_pos_right n h)

-- std's quotient rounded up
pub up_ceil : (n d : ℕ) → 0 < d → n / d + min 1 (n % d) ≡ up n d
up_ceil n d h =
    let b = div_ceil_times n d h in
    let low : up n d ≤ n / d + min 1 (n % d) = (up_least n d _ h).1 b.0 in
    let high : n ≤ up n d * d = (up_least n d _ h).0 (le_refl _) in
    let over : (n / d + min 1 (n % d)) * d < (up n d + 1) * d = omega (arith, b.1, high) in
    let less : n / d + min 1 (n % d) < up n d + 1 = lt_of_mul-lt-mul_right d over in
    omega (arith, low, less)
