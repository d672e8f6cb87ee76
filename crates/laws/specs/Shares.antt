-- A whole number shared out by weights, each share rounded down: how much of it is left over, and what handing that out one each gives.
use Rattle.std.specs.Prelude.{ℕ, zero, suc, ◌+◌, ◌-◌, ◌*◌, ◌/◌, ◌≤◌, ◌<◌, min, Bool, cond, ◌≡◌, ltb}
use Rattle.std.proofs.Common.{eq-zero-or-pos, zero-mul, add-mul, div-mul-le_self, mul-le-mul_right, le_of_mul-le-mul_right, lt_of_mul-lt-mul_right, arith, ⊎_elim, sym, ltb-true, ltb-false}
use Rattle.std.proofs.Math.Nat.{zero-min, lt-div-mul-add, mul-lt-mul_of_pos_left}
use Rattle.laws.specs.Sums.{sum_of, sum_part, sum_scaled, sum_at_most, sum_plus}
use Rattle.laws.specs.Tests.{by_test}

-- s is shared out by the weights f 0, .. f (n - 1)
module _ (f : ℕ → ℕ) (n s : ℕ) (some : 0 < sum_of f n) where
  -- the shares are together at most s
  pub shares_within : sum_of (λ i. f i * s / sum_of f n) n ≤ s
  shares_within =
      let each : sum_of (λ i. f i * s / sum_of f n * sum_of f n) n ≤ sum_of (λ i. f i * s) n =
      sum_at_most _ _ n (λ i low. div-mul-le_self _ _) in
      le_of_mul-le-mul_right (omega (arith, sum_scaled (λ i. f i * s / sum_of f n) (sum_of f n) n, sum_scaled f s n)) some

  -- what is left over is less than a count of those with a weight
  module _ (g : ℕ → ℕ) (counted : (i : ℕ) → i < n → g i ≡ 0 → f i ≡ 0) where
    count_some : 0 < sum_of g n
    count_some =
        let each : sum_of f n ≤ sum_of (λ i. g i * sum_of f n) n =
        sum_at_most _ _ n (λ i low.
        ⊎_elim (λ (none : g i ≡ 0). omega (arith, counted i low none))
        (λ (one : 0 < g i). omega (arith, sum_part f n i low, mul-le-mul_right (sum_of f n) one))
        (eq-zero-or-pos (g i))) in
        ⊎_elim (λ (none : sum_of g n ≡ 0).
        let nothing : sum_of f n ≤ 0 = rw (sum_scaled g (sum_of f n) n, none, zero-mul) at each in absurd (omega arith))
        (λ one. one)
        (eq-zero-or-pos (sum_of g n))

    pub shares_close : s < sum_of (λ i. f i * s / sum_of f n) n + sum_of g n
    shares_close =
        let each : sum_of (λ i. f i * s) n ≤ sum_of (λ i. f i * s / sum_of f n * sum_of f n + g i * (sum_of f n - 1)) n =
        sum_at_most _ _ n (λ i low.
        ⊎_elim (λ (none : g i ≡ 0). rw (none, counted i low none, zero-mul s) (omega arith))
        (λ (one : 0 < g i). omega (arith, lt-div-mul-add {a = f i * s} some, mul-le-mul_right (sum_of f n - 1) one))
        (eq-zero-or-pos (g i))) in
        let less : sum_of g n * (sum_of f n - 1) < sum_of g n * sum_of f n = mul-lt-mul_of_pos_left (omega arith) count_some in
        let shares = sum_scaled (λ i. f i * s / sum_of f n) (sum_of f n) n in
        let counts = sum_scaled g (sum_of f n - 1) n in
        let both = sum_plus (λ i. f i * s / sum_of f n * sum_of f n) (λ i. g i * (sum_of f n - 1)) n in
        lt_of_mul-lt-mul_right (sum_of f n) (rw add-mul (omega (arith, sum_scaled f s n)))

-- how many of the first n pass
abbrev pub count_of : (ℕ → Bool) → ℕ → ℕ
count_of b n = sum_of (λ i. cond (b i) 1 0) n

-- one each to those that pass, lowest first, while some are left: all are handed out, or all that pass have one
pub one_each : (b : ℕ → Bool) (left n : ℕ) → sum_of (λ i. cond (b i) (cond (ltb (count_of b i) left) 1 0) 0) n ≡ min (count_of b n) left
unfolding sum_of
one_each b left zero = sym (zero-min left)
one_each b left (suc n) =
    let earlier = one_each b left n in
    by_test (b n)
    (λ e.
    by_test (ltb (count_of b n) left)
    (λ f. let low : count_of b n < left = ltb-true _ _ f in rw (e, f) (omega arith))
    (λ f. let high : left ≤ count_of b n = ltb-false _ _ f in rw (e, f) (omega arith)))
    (λ e. rw e (omega arith))
