-- The bytes that are there stand within the buffer, which stays as long as it was.
use Rattle.std.proofs.Common.{◌≤◌, length, ◌≡◌}
use Rattle.case_text.proofs.repeat_last.Given as goal

abbrev pub invariant-loop : goal.invariant-loop
invariant-loop l = (length l.room ≡ length l.fn.room) × (l.n ≤ length l.fn.room)
