-- The sum of the first numbers of a sequence.
use Prim.Native.Nat.{ℕ, zero, suc, ◌+◌, ◌*◌, ◌≤◌, ◌<◌}
use Rattle.std.proofs.Math.Nat.{le_refl, le_trans, add-le-add, zero-mul}
use Rattle.std.proofs.Common.{le-add_right, add-mul, eq-or-lt_of_le, add-one}
use native.Mathlib.Omega.{arith}
use Rattle.std.proofs.Math.Logic.{⊎_elim}
use Rattle.std.specs.Prelude.{◌≡◌}
use Rattle.std.proofs.Math.Path.{refl}

-- f 0 + .. + f (n - 1)
unfoldable pub sum_of : (ℕ → ℕ) → ℕ → ℕ
sum_of f zero = 0
sum_of f (suc n) = sum_of f n + f n

module _ (f : ℕ → ℕ) where
  -- where a loop that counts up begins and turns
  pub sum_none : sum_of f 0 ≡ 0
  unfolding sum_of
  sum_none = refl

  pub sum_next : (n : ℕ) → sum_of f (n + 1) ≡ sum_of f n + f n
  unfolding sum_of
  sum_next n = rw (add-one n)

  -- a sum of fewer, with the next one, is at most the whole
  pub sum_part : (n i : ℕ) → i < n → sum_of f i + f i ≤ sum_of f n
  unfolding sum_of
  sum_part zero i h = absurd (omega arith)
  sum_part (suc n) i h =
      let earlier = sum_part n i in
      ⊎_elim (λ (same : suc i ≡ suc n). let e : i ≡ n = omega arith in rw e (le_refl _))
      (λ (less : suc i < suc n). le_trans (earlier (omega arith)) (le-add_right _ _))
      (eq-or-lt_of_le h)

  pub sum_scaled : (c n : ℕ) → sum_of (λ i. f i * c) n ≡ sum_of f n * c
  unfolding sum_of
  sum_scaled c zero = rw zero-mul
  sum_scaled c (suc n) = rw (sum_scaled c n, add-mul)

module _ (f g : ℕ → ℕ) where
  pub sum_same : (n : ℕ) → ((i : ℕ) → i < n → f i ≡ g i) → sum_of f n ≡ sum_of g n
  unfolding sum_of
  sum_same zero h = refl
  sum_same (suc n) h = rw (sum_same n (λ i low. h i (omega arith)), h n (omega arith))

  pub sum_at_most : (n : ℕ) → ((i : ℕ) → i < n → f i ≤ g i) → sum_of f n ≤ sum_of g n
  unfolding sum_of
  sum_at_most zero h = le_refl 0
  sum_at_most (suc n) h = add-le-add (sum_at_most n (λ i low. h i (omega arith))) (h n (omega arith))

  pub sum_plus : (n : ℕ) → sum_of (λ i. f i + g i) n ≡ sum_of f n + sum_of g n
  unfolding sum_of
  sum_plus zero = refl
  sum_plus (suc n) = let earlier = sum_plus n in omega arith
