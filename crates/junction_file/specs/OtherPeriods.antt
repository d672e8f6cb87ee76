-- Counts of other periods give no stream its flow (document 02, 2026-04): two junctions with the same counts in the period that is planned have,
-- for each stream, the same newest count.
use Rattle.std.specs.Prelude.{ℕ, ◌≡◌}
use Rattle.std.proofs.Common.{◌∙◌, ap}
use Rattle.counts.proofs.OtherPeriods.{highest_same}
use Rattle.counts.specs.Chosen.{highest}
use Rattle.counts.specs.OtherPeriods as counts
use Rattle.counts.specs.declared.Count.{Count}
use Rattle.junction.specs.declared.Junction.{Junction}
use Rattle.junction_places.specs.Places.{count_at}
use Rattle.junction_places.specs.Ranks.{wanted_for, rank_at, newest_rank}

-- a junction has a count
abbrev pub Counted : Junction → Count → Type 0
Counted j = counts.Listed (count_at j) j.held.counts

-- the same day, the same period, and in that period the same counts
pub record SameInPeriod (j k : Junction) : Type 0 where
  pub day : j.day ≡ k.day
  pub period : j.period ≡ k.period
  pub counts : counts.SameInPeriod j.period (count_at j) j.held.counts (count_at k) k.held.counts

pub newest_in_period : (j k : Junction) → SameInPeriod j k → (n : ℕ) → newest_rank j n ≡ newest_rank k n
unfolding newest_rank rank_at
newest_in_period j k same n =
    let wanted : wanted_for j n ≡ wanted_for k n = rw (same.day, same.period) in
    highest_same (wanted_for j n) (count_at j) (count_at k) j.held.counts k.held.counts same.counts
    ∙ ap (λ w. highest w (count_at k) k.held.counts) wanted
