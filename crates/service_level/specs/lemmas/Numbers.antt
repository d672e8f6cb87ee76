-- Numbers of f64 that are finite and above 0: whole numbers, quotients and sums, and how each grows with its parts.
use Rattle.std.specs.Prelude.{ℕ, ◌+◌, ◌*◌, ◌^◌, ◌≤◌, ◌<◌, Bool, false, true, ◌≡◌, refl, T, Float}
use Rattle.std.proofs.Common.{lt_of_lt_of_le, add-le-add, mul-le-mul, mul-le-mul_right, mul_assoc, mul_comm, mul_left_comm, mul-one, mul-pos}
use Rattle.std.proofs.Common.{add-mul, arith, sym, ◌∙◌, ap, ltb→lt, lit≤, pow_mono, shl_lt, ne_eqb}
use Rattle.std.specs.Float.{nan, inf, fin, binary64}
use Rattle.std.specs.Float.Ieee.{round, sum, add, div, le, of_int}
use Rattle.std.specs.Float.Ieee.Exact.{HasValue, round_exact}
use Rattle.std.specs.Float.Ieee.Fits.{up_pos}
use Rattle.std.specs.Float.Ieee.Order.{round_mono}
use Rattle.std.specs.Float.Ieee.Scale.{round_same}
use Rattle.std.specs.Float.Ieee.Positive.{num, den, positive, den_pos, positive_of_value, le→cross, value→cross}
use Rattle.service_level.specs.Delays.{whole}

-- a test, by what it says of numbers
pub is_true : (b : Bool) → T b → b ≡ true
is_true true t = refl
is_true false t = absurd t

pub is_false : (b : Bool) → (T b → ⊥) → b ≡ false
is_false true n = absurd (n tt)
is_false false n = refl

-- a whole number of 53 digits is held exactly
pub whole_value : (n : ℕ) → n < 2 ^ 53 → HasValue (whole n) false n 1
unfolding of_int
whole_value n h =
    round_exact binary64 false n 1 n 1074 (omega arith) h
    (lt_of_lt_of_le (shl_lt 53 1074 h) (pow_mono {i = 1127} {j = 2098} (lit≤ tt))) (sym (mul-one _))

pub whole_positive : (n : ℕ) → 0 < n → n < 2 ^ 53 → T (positive (whole n))
whole_positive n some h = positive_of_value (whole n) n 1 (whole_value n h) some

pub whole_le : (m n : ℕ) → 0 < m → n < 2 ^ 53 → m ≤ n → T (le (whole m) (whole n))
unfolding of_int
whole_le m n some h low = round_mono binary64 m 1 n 1 (omega arith) (omega arith) (omega arith)

pub num_some : (x : Float) → T (positive x) → 0 < num x
num_some nan p = absurd p
num_some (inf s) p = absurd p
num_some (fin true m e) p = absurd p
num_some (fin false m e) p = mul-pos (ltb→lt 0 m p) (up_pos e)

-- a quotient: it grows with the one number and falls with the other
pub div_is : (x y : Float) → T (positive x) → T (positive y) → div binary64 x y ≡ round binary64 false (num x * den y) (num y * den x)
unfolding div
div_is nan y p q = absurd p
div_is (inf s) y p q = absurd p
div_is (fin true m e) y p q = absurd p
div_is (fin false m e) nan p q = absurd q
div_is (fin false m e) (inf t) p q = absurd q
div_is (fin false m e) (fin true n d) p q = absurd q
div_is (fin false m e) (fin false n d) p q = rw (ne_eqb n 0 (λ z. let some = ltb→lt 0 n q in omega arith))

pub div_mono : (x x' y y' : Float) → T (positive x) → T (positive x') → T (positive y) → T (positive y') → T (le x x') → T (le y' y)
    → T (le (div binary64 x y) (div binary64 x' y'))
div_mono x x' y y' p p' q q' h k =
    rw (div_is x y p q, div_is x' y' p' q')
    (round_mono binary64 (num x * den y) (num y * den x) (num x' * den y') (num y' * den x')
    (mul-pos (num_some y q) (den_pos x)) (mul-pos (num_some y' q') (den_pos x'))
    (simp (mul_assoc, mul_comm, mul_left_comm)
    (simp (mul_assoc, mul_comm, mul_left_comm) at (mul-le-mul (le→cross x x' p p' h) (le→cross y' y q' q k)))))

-- a quotient of numbers above 0, by any fractions that they equal
pub div_at : (x y : Float) (a c b d : ℕ) → T (positive x) → T (positive y) → 0 < c → 0 < d → 0 < b → HasValue x false a c → HasValue y false b d
    → div binary64 x y ≡ round binary64 false (a * d) (b * c)
div_at x y a c b d p q C D B h k =
    div_is x y p q
    ∙ round_same binary64 false (num x * den y) (num y * den x) (a * d) (b * c) (mul-pos (num_some y q) (den_pos x)) (mul-pos B C)
    (cross (num x) (den x) (num y) (den y) a c b d (value→cross x a c h) (value→cross y b d k))
  where
    cross : (x u y v a c b d : ℕ) → x * c ≡ a * u → y * d ≡ b * v → x * v * (b * c) ≡ a * d * (y * u)
    cross x u y v a c b d h k =
        let one : x * c * (b * v) ≡ a * u * (y * d) = ap (λ (z : ℕ). z * (b * v)) h ∙ ap (λ (z : ℕ). a * u * z) (sym k) in
        simp (mul_assoc, mul_comm, mul_left_comm) (simp (mul_assoc, mul_comm, mul_left_comm) at one)

-- and of whole numbers: the fraction rounded once
pub quotient : (a b : ℕ) → 0 < a → 0 < b → a < 2 ^ 53 → b < 2 ^ 53 → div binary64 (whole a) (whole b) ≡ round binary64 false a b
quotient a b a-some b-some a_small b-small =
    simp mul-one at
    (div_at (whole a) (whole b) a 1 b 1 (whole_positive a a-some a_small) (whole_positive b b-some b-small) (omega arith) (omega arith) b-some
    (whole_value a a_small) (whole_value b b-small))

-- a sum: it grows with both
pub add_is : (x y : Float) → T (positive x) → T (positive y)
    → add binary64 x y ≡ round binary64 false (num x * den y + num y * den x) (den x * den y)
unfolding add sum
add_is nan y p q = absurd p
add_is (inf s) y p q = absurd p
add_is (fin true m e) y p q = absurd p
add_is (fin false m e) nan p q = absurd q
add_is (fin false m e) (inf t) p q = absurd q
add_is (fin false m e) (fin true n d) p q = absurd q
add_is (fin false m e) (fin false n d) p q = refl

-- a/c at most b/d, so a/c of a whole is at most b/d of it
scaled : (a b c d e f : ℕ) → a * d ≤ b * c → a * e * (d * f) ≤ b * f * (c * e)
scaled a b c d e f h =
    simp (mul_assoc, mul_comm, mul_left_comm) (simp mul_assoc at (mul-le-mul_right (e * f) h))

pub add_mono : (x x' y y' : Float) → T (positive x) → T (positive x') → T (positive y) → T (positive y') → T (le x x') → T (le y y')
    → T (le (add binary64 x y) (add binary64 x' y'))
add_mono x x' y y' p p' q q' h k =
    let first = scaled (num x) (num x') (den x) (den x') (den y) (den y') (le→cross x x' p p' h) in
    let second = scaled (num y) (num y') (den y) (den y') (den x) (den x') (le→cross y y' q q' k) in
    rw (add_is x y p q, add_is x' y' p' q')
    (round_mono binary64 (num x * den y + num y * den x) (den x * den y) (num x' * den y' + num y' * den x') (den x' * den y')
    (mul-pos (den_pos x) (den_pos y)) (mul-pos (den_pos x') (den_pos y'))
    (rw (add-mul (num x * den y), add-mul (num x' * den y')) (add-le-add first (rw (mul_comm (den x') (den y'), mul_comm (den x) (den y)) second))))
