-- The first place from here on where the answer is no is the first of all.
use Rattle.std.proofs.Common.{◌≡◌, ◌+◌, ◌<◌, ℕ, Bool, not}
use Rattle.laws.specs.Search.{first_below}
use Rattle.fields.specs.Verdict.{first_failing}
use Rattle.fields.proofs.ask_each.Given as goal

abbrev pub invariant-loop-i : goal.invariant-loop-i
invariant-loop-i g l =
    (holds : ℕ → Bool)
    → ((i : ℕ) (b : Bool) → i < l.fn.n → goal.F-post g l.answer i b → b ≡ holds (i + 1))
    → first_below (λ k. not (holds (k + 1))) l.fn.n l.i ≡ first_failing holds l.fn.n
