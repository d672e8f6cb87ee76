-- A list of numbers in which one is raised to another, where that is larger.
use Rattle.std.specs.Prelude.{ℕ, ◌<◌, max, cond, List, ◌≡◌, eqb, length, get_or, set}
use Rattle.std.proofs.Common.{zero-le, sym, ◌∙◌, get_or-set_same, get_or-set_other, eqb-true}
use Rattle.std.proofs.Math.Nat.{max-eq_left}
use Rattle.std.proofs.lemmas.Bool.{eqb-false}
use Rattle.laws.specs.Tests.{by_test}

-- what stands at place q once the number at place p is raised
pub raised_at : (l : List ℕ) (p q x : ℕ) → p < length l → get_or (set l p (max (get_or l p 0) x)) q 0 ≡ max (get_or l q 0) (cond (eqb p q) x 0)
raised_at l p q x low =
    by_test (eqb p q)
    (λ e. rw (e, ← eqb-true p q e) (get_or-set_same l p (max (get_or l p 0) x) 0 low))
    (λ e. rw e (get_or-set_other l p q (max (get_or l p 0) x) 0 (λ s. eqb-false p q e (sym s)) ∙ sym (max-eq_left zero-le)))
