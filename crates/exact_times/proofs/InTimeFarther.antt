-- Who leaves in time with a longer clearing distance does with a shorter, and so the entry from a stream that moves is never less with the
-- longer (document 02, 2026-02).
use Rattle.std.specs.Prelude.{ℕ, ◌+◌, ◌*◌, ◌≤◌}
use Rattle.std.proofs.Common.{le_refl, le_trans}
use Rattle.streams.specs.declared.Kind.{Kind}
use Rattle.streams.specs.declared.Stream.{Stream}
use Rattle.times.specs.Entry.{entry}
use Rattle.times.specs.Least.{Moves}
use Rattle.times.specs.Times.{leaving, reaching}
use Rattle.times.specs.declared.Time.{Time}
use Rattle.exact_times.specs.Leaves.{LeavesInTime, LeavesByLetter}
use Rattle.exact_times.specs.Numbers.{Within}
use Rattle.exact_times.proofs.Streams.{letter_same, entry_exact}
use Rattle.exact_times.proofs.Farther.{leaves_later}

-- so, whatever the reaching time and the gap, who leaves in time with the longer distance does with the shorter
pub leaves_farther : (k : Kind) (l m : ℕ) → l ≤ m → (reach : Time) (gap : ℕ) → Within (leaving k m) reach gap → Within (leaving k l) reach gap
leaves_farther k l m farther reach gap all a b b-pos h = leaves_later l m farther (gap * b + a) b k (all a b b-pos h)

module _ (earlier later : Stream) (l m : ℕ) (farther : l ≤ m) where
  pub in_time_farther : (reach seconds : ℕ) → LeavesInTime earlier later m reach seconds → LeavesInTime earlier later l reach seconds
  unfolding LeavesInTime
  in_time_farther reach seconds = leaves_farther earlier.kind l m farther (reaching later.kind reach) seconds

  module _ (moves : Moves earlier.kind) where
    -- by document 01's letter
    pub letter_farther : (reach seconds : ℕ) → LeavesByLetter earlier later m reach seconds → LeavesByLetter earlier later l reach seconds
    letter_farther reach seconds h =
        (letter_same earlier later l reach seconds moves).1
        (in_time_farther reach seconds ((letter_same earlier later m reach seconds moves).0 h))

    -- the entry with the longer distance, of at most 999 dm, is never less
    pub entry_farther : m ≤ 999 → (reach : ℕ) → entry earlier later l reach ≤ entry earlier later m reach
    entry_farther low reach =
        (entry_exact earlier later l reach moves (le_trans farther low) _).1
        (in_time_farther reach _ ((entry_exact earlier later m reach moves low _).0 (le_refl _)))
