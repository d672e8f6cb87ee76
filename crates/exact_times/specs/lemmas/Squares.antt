-- Comparisons of multiples and of squares.
use Rattle.std.specs.Prelude.{ℕ, ◌+◌, ◌-◌, ◌*◌, ◌<◌, ◌≡◌, leb}
use Rattle.std.proofs.Common.{mul-le-mul, mul-le-mul_right, mul-lt-mul_of_pos_right, arith, sym, ◌∙◌}
use Rattle.std.proofs.Math.Nat.{mul-sub}
use Rattle.laws.specs.Tests.{leb_same}

-- multiples compare as the numbers do
pub multiples : (a b k : ℕ) → 0 < k → leb (a * k) (b * k) ≡ leb a b
multiples a b k k-pos = sym (leb_same a b (a * k) (b * k) (mul-le-mul_right k) (λ h. mul-lt-mul_of_pos_right h k-pos))

-- squares compare as the numbers do
pub squares : (a b : ℕ) → leb (a * a) (b * b) ≡ leb a b
squares a b = sym (leb_same a b (a * a) (b * b) (λ h. mul-le-mul h h) (λ h. omega (arith, mul-le-mul h h)))

-- multiples of squares compare as the numbers do
pub square_multiples : (a b k : ℕ) → 0 < k → leb (a * a * k) (b * b * k) ≡ leb a b
square_multiples a b k k-pos = multiples (a * a) (b * b) k k-pos ∙ squares a b

-- what is taken off the smaller side may be added to the larger instead
pub minus_below : (a b k r : ℕ) → leb ((a - b) * k) r ≡ leb (a * k) (b * k + r)
minus_below a b k r = let apart = mul-sub k a b in leb_same ((a - b) * k) r (a * k) (b * k + r) (omega arith) (omega arith)
