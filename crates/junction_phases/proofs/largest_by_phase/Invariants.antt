-- The invariant is that each phase has the largest figure of its streams among those passed.
use Rattle.std.proofs.Common.{◌≡◌, ◌<◌, ℕ}
use Rattle.limits.specs.Limits.{most_phases}
use Rattle.laws.specs.ByNumber.{ByNumber}
use Rattle.junction_phases.specs.lemmas.Tabled.{largest_in}
use Rattle.junction_phases.proofs.largest_by_phase.Given as goal

abbrev pub invariant-loop-i : goal.invariant-loop-i
invariant-loop-i g l =
    (of : ℕ → ℕ)
    → ((i x : ℕ) → i < l.n → goal.F-post g l.figure i x → x ≡ of i)
    → ByNumber most_phases (largest_in l.fn.streams of l.i) l.largest
