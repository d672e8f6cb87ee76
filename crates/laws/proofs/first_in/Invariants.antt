-- The first number from here on is the first of all.
use Rattle.std.proofs.Common.{◌≡◌, ◌≤◌, ◌<◌, ℕ, Bool}
use Rattle.laws.specs.Search.{first_below}
use Rattle.laws.proofs.first_in.Given as goal

abbrev pub invariant-loop-i : goal.invariant-loop-i
invariant-loop-i g l =
    (passes : ℕ → Bool)
    → ((i : ℕ) (b : Bool) → l.fn.range.start ≤ i → i < l.fn.range.end → goal.F-post g l.test i b → b ≡ passes i)
    → first_below passes l.fn.range.end l.i ≡ first_below passes l.fn.range.end l.fn.range.start
