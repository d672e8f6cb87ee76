-- The number has nineteen digits at most.
use Rattle.std.proofs.Common.{◌≤◌}
use Rattle.case_text.proofs.decimal.Given as goal

abbrev pub invariant-loop-byte : goal.invariant-loop-byte
invariant-loop-byte l = l.n ≤ 9999999999999999999
