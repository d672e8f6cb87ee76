-- The exact clearing condition of formula (19), said once: of two streams, a clearing distance of the earlier and a reaching distance of
-- the later, in decimetres, and the seconds from the end of the earlier's green to the beginning of the later's.
use Rattle.std.specs.Prelude.{ℕ, true, ◌≡◌}
use Rattle.streams.specs.declared.Stream.{Stream}
use Rattle.times.specs.Comparison.{within}
use Rattle.times.specs.Times.{leaving, reaching}
use Rattle.exact_times.specs.Numbers.{Within}

-- the last participant of the earlier leaves no later than the first of the later reaches: the leaving time is at most these seconds plus the
-- reaching time, as numbers, roots included
unfoldable pub LeavesInTime : Stream → Stream → ℕ → ℕ → ℕ → Type 0
LeavesInTime earlier later clearing reach seconds = Within (leaving earlier.kind clearing) (reaching later.kind reach) seconds

-- the same by document 01's letter: compared over whole numbers, denominators multiplied out, roots by squares, a side below 0 being below
-- every root. That both are one is `letter_same` of proofs/Streams.antt.
unfoldable pub LeavesByLetter : Stream → Stream → ℕ → ℕ → ℕ → Type 0
LeavesByLetter earlier later clearing reach seconds = within (leaving earlier.kind clearing) (reaching later.kind reach) seconds ≡ true
