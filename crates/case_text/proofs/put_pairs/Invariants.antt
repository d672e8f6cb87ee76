-- The bytes that are there stand within the buffer, which stays as long as it was.
use Rattle.std.proofs.Common.{◌≤◌, length, ◌≡◌}
use Rattle.case_text.proofs.put_pairs.Given as goal

abbrev pub invariant-loop-pair : goal.invariant-loop-pair
invariant-loop-pair l =
    (goal.iterator-loop-pair).can_next l.pair-iterator
    × (goal.iterator-loop-pair).is_finite l.pair-iterator
    × (length l.room ≡ length l.fn.room)
    × (l.n ≤ length l.fn.room)
