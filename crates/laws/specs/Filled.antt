-- A list whose first places are filled one after the other, and what then stands there.
use Prim.Native.Nat.{ℕ, zero, suc, ◌+◌, ◌-◌, ◌≤◌, ◌<◌}
use Rattle.std.proofs.Common.{add-one, arith, sym, ◌∙◌, ap, length-append, length-drop, get_or-set_other, ext_get_or, get_or-drop, get_or-append-add}
use Rattle.std.specs.Prelude.{List, ◌++◌, ◌≡◌, ltb, eqb, length, get_or, set, drop}
use Rattle.std.proofs.Math.Path.{refl}
use Rattle.std.proofs.Math.ListN.{length-set, get_or-append}
use Rattle.std.proofs.Math.Seq.{get_or-set_same}
use borrow.Author.Tests.{eqb-true, eqb-false, ltb-true, ltb-false}
use Rattle.laws.specs.Tests.{by_test}

-- l with f 0, .. f (n - 1) in its first n places
unfoldable pub filled : {A : Type 0} → (ℕ → A) → List A → ℕ → List A
filled f l zero = l
filled f l (suc n) = set (filled f l n) n (f n)

module _ {A : Type 0} (f : ℕ → A) (l : List A) where
  -- where a loop that counts up begins and turns
  pub filled_none : filled f l 0 ≡ l
  unfolding filled
  filled_none = refl

  pub filled_next : (n : ℕ) → filled f l (n + 1) ≡ set (filled f l n) n (f n)
  unfolding filled
  filled_next n = rw (add-one n)

  pub filled_length : (n : ℕ) → length (filled f l n) ≡ length l
  unfolding filled
  filled_length zero = refl
  filled_length (suc n) = rw length-set (filled_length n)

  pub filled_at : (n i : ℕ) (d : A) → i < n → n ≤ length l → get_or (filled f l n) i d ≡ f i
  unfolding filled
  filled_at zero i d low few = absurd (omega arith)
  filled_at (suc n) i d low few =
      let earlier = filled_at n i d in
      by_test (eqb i n)
      (λ e. let same : i ≡ n = eqb-true _ _ e in rw (same, get_or-set_same (filled f l n) n (f n) d (omega (arith, filled_length n))))
      (λ e. let differ = eqb-false _ _ e in rw (get_or-set_other (filled f l n) n i (f n) d differ) (earlier (omega arith) (omega arith)))

  -- later places stay
  pub filled_past : (n i : ℕ) (d : A) → n ≤ i → get_or (filled f l n) i d ≡ get_or l i d
  unfolding filled
  filled_past zero i d past = refl
  filled_past (suc n) i d past =
      let earlier = filled_past n i d in
      rw (get_or-set_other (filled f l n) n i (f n) d (omega arith)) (earlier (omega arith))

  -- two sequences that agree fill alike
  pub filled_same : (g : ℕ → A) (n : ℕ) → ((i : ℕ) → i < n → f i ≡ g i) → filled f l n ≡ filled g l n
  unfolding filled
  filled_same g zero same = refl
  filled_same g (suc n) same = rw (filled_same g n (λ i low. same i (omega arith)), same n (omega arith))

  -- where a list of n elements has f 0, .. f (n - 1), l filled with them is that list, and after it what stood there
  pub filled_front : (n : ℕ) (front : List A) (d : A) → length front ≡ n → n ≤ length l → ((i : ℕ) → i < n → get_or front i d ≡ f i)
      → filled f l n ≡ front ++ drop n l
  filled_front n front d long room same =
      let whole : length (front ++ drop n l) ≡ length l = length-append front (drop n l) ∙ omega (arith, length-drop n l) in
      ext_get_or d _ _ (filled_length n ∙ sym whole) (λ i h.
      by_test (ltb i n)
      (λ e. let low : i < n = ltb-true _ _ e in
      filled_at n i d low room ∙ sym (same i low) ∙ sym (get_or-append front (drop n l) d i (omega arith)))
      (λ e. let high : n ≤ i = ltb-false _ _ e in
      let there : i ≡ length front + (i - n) = omega arith in
      let place : n + (i - n) ≡ i = omega arith in
      filled_past n i d high
      ∙ sym (ap (λ k. get_or (front ++ drop n l) k d) there
      ∙ get_or-append-add front (drop n l) (i - n) d ∙ get_or-drop n l (i - n) d ∙ ap (λ k. get_or l k d) place)))
