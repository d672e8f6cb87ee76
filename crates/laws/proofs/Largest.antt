-- The largest of the first numbers of a sequence bounds them all and is one of them.
use Prim.Native.Nat.{ℕ, zero, suc, ◌+◌, ◌≤◌, ◌<◌, max}
use Rattle.std.proofs.Common.{le_of_eq, eq-zero-or-pos, eq-or-lt_of_le, add-one, ◌∙◌, ap₂}
use Rattle.std.proofs.Math.Nat.{le-max_left, le-max_right, le_trans, max-eq_left, max-eq_right}
use native.Mathlib.Omega.{arith}
use Rattle.std.specs.Prelude.{◌↔◌, ◌≡◌, leb, Bool, cond, List, length, take, get_or}
use Rattle.std.specs.List.{list_any}
use Rattle.std.proofs.lemmas.List.Folds.{list_any_more}
use Rattle.std.proofs.Math.Logic.{⊎_elim}
use Rattle.std.proofs.Math.Path.{refl, sym}
use borrow.Author.Tests.{leb-true, leb-false, le-leb, lt-leb}
use Rattle.laws.specs.Tests.{by_test}
use Rattle.laws.specs.Largest.{largest_of}

module _ (f : ℕ → ℕ) where
  -- where a loop that counts up begins and turns
  pub largest_none : largest_of f 0 ≡ 0
  unfolding largest_of
  largest_none = refl

  pub largest_next : (n : ℕ) → largest_of f (n + 1) ≡ max (largest_of f n) (f n)
  unfolding largest_of
  largest_next n = rw (add-one n)

  -- none of them is larger
  pub largest_bounds : (n i : ℕ) → i < n → f i ≤ largest_of f n
  unfolding largest_of
  largest_bounds zero i h = absurd (omega arith)
  largest_bounds (suc n) i h =
      let earlier = largest_bounds n i in
      ⊎_elim (λ (same : suc i ≡ suc n). let e : i ≡ n = omega arith in rw e (le-max_right (largest_of f n) (f n)))
      (λ (less : suc i < suc n). le_trans (earlier (omega arith)) (le-max_left (largest_of f n) (f n)))
      (eq-or-lt_of_le h)

  -- it is one of them, unless it is 0
  pub largest_found : (n : ℕ) → 0 < largest_of f n → (i : ℕ) × (i < n) × (f i ≡ largest_of f n)
  unfolding largest_of
  largest_found zero h = absurd (omega arith)
  largest_found (suc n) h =
      let earlier = largest_found n in
      by_test (leb (largest_of f n) (f n))
      (λ e. (n, omega arith, sym (max-eq_right (leb-true _ _ e))))
      (λ e. let more : f n < largest_of f n = leb-false _ _ e in
      let found = earlier (omega arith) in
      (found.0, omega arith, found.2 ∙ sym (max-eq_left (omega arith))))

  -- it is at most g exactly where each of them is
  pub largest_at_most : (n g : ℕ) → (largest_of f n ≤ g) ↔ ((i : ℕ) → i < n → f i ≤ g)
  largest_at_most n g = (
    λ h i low. le_trans (largest_bounds n i low) h,
    λ each. ⊎_elim (λ (none : largest_of f n ≡ 0). omega arith)
        (λ (some : 0 < largest_of f n). let found = largest_found n some in le_trans (le_of_eq (sym found.2)) (each found.0 found.1))
        (eq-zero-or-pos (largest_of f n)),
  )

-- two sequences with the same first numbers have the same largest
pub largest_same : (f g : ℕ → ℕ) (n : ℕ) → ((i : ℕ) → i < n → f i ≡ g i) → largest_of f n ≡ largest_of g n
unfolding largest_of
largest_same f g zero same = refl
largest_same f g (suc n) same = ap₂ max (largest_same f g n (λ i low. same i (omega arith))) (same n (omega arith))

-- where each number but 0 of a sequence is also one of another, the largest of the one is at most that of the other
pub largest_among : (f g : ℕ → ℕ) (n m : ℕ) → ((i : ℕ) → i < n → 0 < f i → (k : ℕ) × (k < m) × (g k ≡ f i)) → largest_of f n ≤ largest_of g m
largest_among f g n m among =
    (largest_at_most f n (largest_of g m)).1
    (λ i low. ⊎_elim (λ (none : f i ≡ 0). omega arith)
    (λ (some : 0 < f i). let found = among i low some in le_trans (le_of_eq (sym found.2)) (largest_bounds g m found.0 found.1))
    (eq-zero-or-pos (f i)))

-- whether an element of a list passes a test, by numbers
pub any_largest : {X : Type 0} (test : X → Bool) (xs : List X) (d : X) (n : ℕ) → n ≤ length xs
    → list_any test (take n xs) ≡ leb 1 (largest_of (λ i. cond (test (get_or xs i d)) 1 0) n)
unfolding largest_of
any_largest test xs d zero few = refl
any_largest test xs d (suc n) few =
    let earlier = any_largest test xs d n (omega arith) in
    let most = largest_of (λ i. cond (test (get_or xs i d)) 1 0) n in
    rw (← add-one n, list_any_more test xs n d (omega arith), earlier)
    (by_test (test (get_or xs n d))
    (λ e. rw e (by_test (leb 1 most) (λ f. rw f (sym (le-leb 1 (max most 1) (omega arith)))) (λ f. rw f (sym (le-leb 1 (max most 1) (omega arith))))))
    (λ e. rw e (by_test (leb 1 most) (λ f. rw f (sym (le-leb 1 (max most 0) (omega (arith, leb-true 1 most f)))))
    (λ f. rw f (sym (lt-leb 1 (max most 0) (omega (arith, leb-false 1 most f))))))))
