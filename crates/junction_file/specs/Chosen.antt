-- The count that gives a car of a junction its flow (document 01, "The junction file"; document 02, 2026-04): of those of the period that is
-- planned, the greatest count day not after the design day; of equals, the larger flow.
use Rattle.std.specs.Prelude.{ℕ, ◌<◌, ◌↔◌, ◌≡◌}
use Rattle.counts.proofs.Chosen as choice
use Rattle.counts.specs.Chosen as counts
use Rattle.counts.specs.Newest.{rank_day, rank_flow}
use Rattle.junction.specs.declared.Junction.{Junction}
use Rattle.junction_places.specs.Places.{count_at}
use Rattle.junction_places.specs.Ranks.{wanted_for, rank_at, newest_rank}

module _ (j : Junction) (n : ℕ) where
  -- the count at a place is of the stream with a number, not after the design day, in the period that is planned, with a flow in range
  abbrev pub UsableCount : ℕ → Type 0
  UsableCount = counts.UsableCount (wanted_for j n) (count_at j) j.held.counts

  -- a day and a flow are those of a usable count in the file; no usable count is newer; of the newest none is larger
  abbrev pub Chosen : ℕ → ℕ → Type 0
  Chosen = counts.Chosen (wanted_for j n) (count_at j) j.held.counts

  -- where the rank is not 0, it is that of the count that gives the stream its flow
  pub chosen : 0 < newest_rank j n → Chosen (rank_day (newest_rank j n)) (rank_flow (newest_rank j n))
  unfolding newest_rank rank_at
  chosen h = choice.chosen (wanted_for j n) (count_at j) j.held.counts h

  -- it is 0 where there is no usable count, and only there
  pub none_usable : (newest_rank j n ≡ 0) ↔ ((i : ℕ) → UsableCount i → ⊥)
  unfolding newest_rank rank_at
  none_usable = choice.none_usable (wanted_for j n) (count_at j) j.held.counts
