-- What the first number of a range that passes a test means, where a search for it stops, turns and ends, and that equal tests find the same.
use Prim.Native.Nat.{ℕ, zero, suc, ◌+◌, ◌-◌, ◌≤◌, ◌<◌, zero-le}
use Rattle.std.proofs.Common.{sub-eq-zero_of_le, eq-or-lt_of_le, sym, ◌∙◌, leb-true, leb-false}
use native.Mathlib.Omega.{arith}
use Rattle.std.specs.Prelude.{Bool, true, false, ◌≡◌, refl, leb}
use Rattle.std.proofs.Math.Logic.{⊎_elim}
use Rattle.laws.specs.Tests.{by_test}
use Rattle.laws.specs.Search.{first_of, first_below}

module _ (f : ℕ → Bool) where
  of_found : (fuel t : ℕ) → f t ≡ true → first_of f (suc fuel) t ≡ t
  unfolding first_of
  of_found fuel t h = rw (h, first_of)

  of_next : (fuel t : ℕ) → f t ≡ false → first_of f (suc fuel) t ≡ first_of f fuel (t + 1)
  unfolding first_of
  of_next fuel t h = rw (h, first_of)

  one_more : {n t : ℕ} → t < n → n - t ≡ suc (n - (t + 1))
  one_more h = omega arith

  -- where a loop that counts t up to n stops, turns and ends
  pub first_found : (n t : ℕ) → t < n → f t ≡ true → first_below f n t ≡ t
  unfolding first_below
  first_found n t h p = rw (one_more h) (of_found (n - (t + 1)) t p)

  pub first_next : (n t : ℕ) → t < n → f t ≡ false → first_below f n t ≡ first_below f n (t + 1)
  unfolding first_below
  first_next n t h p = rw (one_more h) (of_next (n - (t + 1)) t p)

  pub first_out : (n t : ℕ) → n ≤ t → first_below f n t ≡ t
  unfolding first_below first_of
  first_out n t h = rw (sub-eq-zero_of_le h)

  of_range : (fuel t : ℕ) → (t ≤ first_of f fuel t) × (first_of f fuel t ≤ t + fuel)
  unfolding first_of
  of_range zero t = omega arith
  of_range (suc fuel) t =
      let later = of_range fuel (t + 1) in
      by_test (f t) (λ e. rw (of_found fuel t e) (omega arith)) (λ e. rw (of_next fuel t e) (omega arith))

  of_passes : (fuel t : ℕ) → first_of f fuel t < t + fuel → f (first_of f fuel t) ≡ true
  unfolding first_of
  of_passes zero t h = absurd (omega arith)
  of_passes (suc fuel) t h =
      let later = of_passes fuel (t + 1) in
      by_test (f t) (λ e. rw (of_found fuel t e) e)
      (λ e. let low : first_of f fuel (t + 1) < t + suc fuel = rw (of_next fuel t e) at h in rw (of_next fuel t e) (later (omega arith)))

  of_fails : (fuel t k : ℕ) → t ≤ k → k < first_of f fuel t → f k ≡ false
  unfolding first_of
  of_fails zero t k a b = absurd (omega arith)
  of_fails (suc fuel) t k a b =
      let later = of_fails fuel (t + 1) k in
      by_test (f t) (λ e. let none : k < t = rw (of_found fuel t e) at b in absurd (omega arith))
      (λ e. let next : k < first_of f fuel (t + 1) = rw (of_next fuel t e) at b in
      ⊎_elim (λ (same : t ≡ k). rw (← same) e) (λ (less : t < k). later (omega arith) next) (eq-or-lt_of_le a))

  -- what is found lies from t to n
  pub first_range : (n t : ℕ) → t ≤ n → (t ≤ first_below f n t) × (first_below f n t ≤ n)
  unfolding first_below
  first_range n t h = let r = of_range (n - t) t in omega arith

  -- it passes, unless it is n
  pub first_passes : (n t : ℕ) → t ≤ n → first_below f n t < n → f (first_below f n t) ≡ true
  unfolding first_below
  first_passes n t h low = of_passes (n - t) t (omega arith)

  -- no number from t on before it passes
  pub first_fails : (n t k : ℕ) → t ≤ k → k < first_below f n t → f k ≡ false
  unfolding first_below
  first_fails n t k a b = of_fails (n - t) t k a b

  -- of a test that stays passed: the numbers below n that pass are those from the first one on
  pub first_decides : ((k m : ℕ) → k ≤ m → f k ≡ true → f m ≡ true) → (n k : ℕ) → k < n → f k ≡ leb (first_below f n 0) k
  first_decides stays n k h =
      by_test (leb (first_below f n 0) k)
      (λ e. let low = leb-true _ _ e in stays _ k low (first_passes n 0 zero-le (omega arith)) ∙ sym e)
      (λ e. first_fails n 0 k zero-le (leb-false _ _ e) ∙ sym e)

-- two tests that agree from t on find the same
of_same : (f g : ℕ → Bool) (fuel t : ℕ) → ((k : ℕ) → t ≤ k → k < t + fuel → f k ≡ g k) → first_of f fuel t ≡ first_of g fuel t
unfolding first_of
of_same f g zero t same = refl
of_same f g (suc fuel) t same =
    let later = of_same f g fuel (t + 1) (λ k low high. same k (omega arith) (omega arith)) in
    let here : g t ≡ f t = sym (same t (omega arith) (omega arith)) in
    by_test (f t) (λ e. of_found f fuel t e ∙ sym (of_found g fuel t (here ∙ e)))
    (λ e. of_next f fuel t e ∙ later ∙ sym (of_next g fuel t (here ∙ e)))

pub first_same : (f g : ℕ → Bool) (n t : ℕ) → ((k : ℕ) → t ≤ k → k < n → f k ≡ g k) → first_below f n t ≡ first_below g n t
unfolding first_below
first_same f g n t same = of_same f g (n - t) t (λ k low high. same k low (omega arith))
