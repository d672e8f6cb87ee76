-- The invariant is that the starts of the first i streams are moved, and nothing else.
use Rattle.std.proofs.Common.{◌≡◌}
use Rattle.offsets.specs.Shifting.{shifted}
use Rattle.offsets.proofs.shift_starts.Given as goal

abbrev pub invariant-loop-i : goal.invariant-loop-i
invariant-loop-i l = l.plan ≡ shifted l.initial.plan l.offset l.i
