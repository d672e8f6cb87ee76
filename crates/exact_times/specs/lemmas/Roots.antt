-- Comparisons of squares, and a fraction just above a root.
use Rattle.std.specs.Prelude.{ℕ, ◌+◌, ◌-◌, ◌*◌, ◌≤◌, ◌<◌, Bool, ◌≡◌, leb}
use Rattle.std.proofs.Common.{zero-le, eq-zero-or-pos, eq-or-lt_of_le, mul-le-mul_left, sub-add_cancel, arith, ⊎_elim, sym, ◌∙◌, ap, subst}
use Rattle.std.proofs.Common.{le-leb, leb-true, leb-false}
use Rattle.laws.proofs.Search.{first_range, first_passes, first_fails}
use Rattle.laws.specs.Search.{first_below}
use Rattle.exact_times.specs.lemmas.Squares.{square_multiples}

-- a² k ≤ b² k, so a ≤ b
pub by_squares : (a b k : ℕ) → 0 < k → a * a * k ≤ b * b * k → a ≤ b
by_squares a b k k-pos h = leb-true a b (sym (square_multiples a b k k-pos) ∙ le-leb (a * a * k) (b * b * k) h)

-- z/b is at least √(p/s), and z is the least such: its square is at most 2z/b² times s above, and z/b is at most p + 1
pub record Near (p s b z : ℕ) : Type 0 where
  pub above : p * (b * b) ≤ z * z * s
  pub close : z * z * s ≤ p * (b * b) + 2 * z * s
  pub small : z ≤ b * (p + 1)

pub near : (p s b : ℕ) → 0 < s → (z : ℕ) × Near p s b z
near p s b s-pos =
    let passes : ℕ → Bool = λ z. leb (p * (b * b)) (z * z * s) in
    let top : ℕ = b * (p + 1) in
    let z : ℕ = first_below passes top 0 in
    let range = first_range passes top 0 zero-le in
    let big : p * (b * b) ≤ top * top * s =
    omega (arith, mul-le-mul_left (b * b * ((p + 1) * (p + 1))) s-pos) in
    let above : p * (b * b) ≤ z * z * s =
    ⊎_elim (λ (e : z ≡ top). subst (λ (x : ℕ). p * (b * b) ≤ x * x * s) (sym e) big)
    (λ (low : z < top). leb-true _ _ (first_passes passes top 0 zero-le low)) (eq-or-lt_of_le range.1) in
    let close : z * z * s ≤ p * (b * b) + 2 * z * s =
    ⊎_elim (λ (e : z ≡ 0). subst (λ (x : ℕ). x * x * s ≤ p * (b * b) + 2 * x * s) (sym e) (omega arith))
    (λ (some : 0 < z).
    let before : (z - 1) * (z - 1) * s < p * (b * b) = leb-false _ _ (first_fails passes top 0 (z - 1) zero-le (omega arith)) in
    let whole : z * z * s + s ≡ (z - 1) * (z - 1) * s + 2 * z * s =
    ap (λ (x : ℕ). x * x * s + s) (sym (sub-add_cancel some)) ∙ omega (arith, ap (λ (x : ℕ). 2 * x * s) (sub-add_cancel some)) in
    omega arith)
    (eq-zero-or-pos z) in
    (z, record { above = above; close = close; small = range.1 })
