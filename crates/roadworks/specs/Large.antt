-- Numbers above 10,000 are all alike: the answer is that of the numbers, each cut to any limit of 10,000 or more, as a program that reads them does.
use Rattle.std.specs.Prelude.{ℕ, ◌≤◌, ◌<◌, min, Bool, ◌≡◌, leb}
use Rattle.std.proofs.Math.Nat.{min-eq_left, min-eq_right}
use Rattle.std.proofs.Common.{arith, sym, ◌∙◌}
use borrow.Author.Tests.{leb-true, leb-false}
use Rattle.laws.specs.Tests.{by_test}
use Rattle.roadworks.specs.declared.Approach.{Approach}

module _ (most : ℕ) (large : 10000 ≤ most) where
  -- a number that is at most 10,000 is as it was
  pub cut_same : (n : ℕ) → n ≤ 10000 → min n most ≡ n
  cut_same n low = min-eq_left (omega arith)

  -- a test that has one answer from 10,000 on has the same of a number and of what it is cut to
  pub cut_test : (f : ℕ → Bool) (x : Bool) → ((n : ℕ) → 10000 ≤ n → f n ≡ x) → (n : ℕ) → f (min n most) ≡ f n
  cut_test f x past n =
      by_test (leb n most) (λ e. rw (min-eq_left (leb-true n most e)))
      (λ e. let above : most < n = leb-false n most e in
      let is : min n most ≡ most = min-eq_right (omega arith) in
      rw is (past most large ∙ sym (past n (omega arith))))

  abbrev pub cut : Approach → Approach
  cut a = record { flow = min a.flow most; saturation = min a.saturation most; waiting = min a.waiting most }

  -- the waiting length alone
  abbrev pub short : Approach → Approach
  short a = record { flow = a.flow; saturation = a.saturation; waiting = min a.waiting most }
