-- A number for each of the numbers 1 to some size, as a list: a figure of one of them raises its place alone, so one pass finds the largest
-- figure of every one.
use Rattle.std.specs.Prelude.{ℕ, ◌+◌, ◌-◌, ◌<◌, max, cond, List, ◌≡◌, eqb, length, get_or, set}
use Rattle.std.proofs.Common.{arith, ◌∙◌, length-set, eqb-true, eq-eqb, ne_eqb}
use Rattle.std.proofs.lemmas.Bool.{eqb-false}
use Rattle.laws.specs.Raised.{raised_at}
use Rattle.laws.specs.Ranges.{Between}
use Rattle.laws.specs.Tests.{by_test}

-- number 1, .. number size in their order
pub record ByNumber (size : ℕ) (number : ℕ → ℕ) (l : List ℕ) : Type 0 where
  pub long : length l ≡ size
  pub each : (i : ℕ) → i < size → get_or l i 0 ≡ number (i + 1)

module _ {size : ℕ} where
  pub by_number_same : (number other : ℕ → ℕ) (l : List ℕ) → ByNumber size number l → ((f : ℕ) → number f ≡ other f) → ByNumber size other l
  by_number_same number other l by same = record { long = by.long; each = λ i low. by.each i low ∙ same (i + 1) }

  -- a figure x of p
  pub raised : (number : ℕ → ℕ) (p x y : ℕ) (l : List ℕ) → ByNumber size number l → Between 1 size p → y ≡ max (get_or l (p - 1) 0) x
      → ByNumber size (λ f. max (number f) (cond (eqb p f) x 0)) (set l (p - 1) y)
  raised number p x y l before range e =
      record {
        long = length-set l (p - 1) y ∙ before.long;
        each = λ i low.
            let own : eqb (p - 1) i ≡ eqb p (i + 1) =
            by_test (eqb p (i + 1)) (λ q. rw q (eq-eqb (p - 1) i (omega (arith, eqb-true p (i + 1) q))))
            (λ q. rw q (ne_eqb (p - 1) i (λ s. eqb-false p (i + 1) q (omega arith)))) in
            rw (e, ← before.each i low, ← own) (raised_at l (p - 1) i x (rw before.long (omega arith)));
      }
