-- Each read puts its bytes within what is left of the buffer, and one that puts none is the last.
use Rattle.std.proofs.Common.{◌-◌, ◌≤◌, length}
use Rattle.stored_cases.proofs.read_cases.Given as goal

abbrev pub invariant-loop-size : goal.invariant-loop-size
invariant-loop-size l = l.size ≤ length l.room

abbrev pub decreases-loop-size : goal.decreases-loop-size
decreases-loop-size l = length l.initial.room - l.size
