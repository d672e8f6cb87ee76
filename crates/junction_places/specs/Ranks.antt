-- The count that gives a stream of a junction its flow, by its rank (document 01, "The junction file"; document 02, 2026-04).
use Rattle.std.specs.Prelude.{ℕ}
use Rattle.laws.specs.Largest.{largest_of}
use Rattle.junction.specs.declared.Junction.{Junction}
use Rattle.counts.specs.Newest.{rank}
use Rattle.counts.specs.declared.Wanted.{Wanted}
use Rattle.junction_places.specs.Places.{count_at}

-- what the stream with a number is counted by: a count of it, not after the design day, in the period that is planned
abbrev pub wanted_for : Junction → ℕ → Wanted
wanted_for j n = record { stream = n; day = j.day; period = j.period }

-- the rank, for the stream with a number, of the count at a place
unfoldable pub rank_at : Junction → ℕ → ℕ → ℕ
rank_at j n i = rank (wanted_for j n) (count_at j i)

-- the rank of the count that gives the stream with a number its flow; 0 where none is usable
unfoldable pub newest_rank : Junction → ℕ → ℕ
newest_rank j n = largest_of (rank_at j n) j.held.counts
