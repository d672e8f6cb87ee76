-- A quotient rounded up.
use Rattle.std.specs.Prelude.{ℕ, ◌+◌, ◌-◌, ◌/◌, ◌≡◌}
use Rattle.std.proofs.Math.Nat.{div-zero}

unfoldable pub up : ℕ → ℕ → ℕ
up n d = (n + (d - 1)) / d

-- a quotient by 0 is 0
pub up_zero : (n : ℕ) → up n 0 ≡ 0
unfolding up
up_zero n = div-zero _
