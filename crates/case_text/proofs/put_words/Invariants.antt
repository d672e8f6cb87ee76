-- The bytes that are there stand within the buffer, which stays as long as it was.
use Rattle.std.proofs.Common.{◌≤◌, length, ◌≡◌}
use Rattle.case_text.proofs.put_words.Given as goal

abbrev pub invariant-loop-word : goal.invariant-loop-word
invariant-loop-word l =
    (goal.iterator-loop-word).can_next l.word-iterator
    × (goal.iterator-loop-word).is_finite l.word-iterator
    × (length l.room ≡ length l.fn.room)
    × (l.size ≤ length l.fn.room)
