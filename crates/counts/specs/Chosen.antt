-- What the choice of a count means (document 01, "The junction file"; document 02, 2026-04), over any n counts, each at a place from 0.
use Rattle.std.specs.Prelude.{ℕ, ◌≤◌, ◌<◌, ◌≡◌}
use Rattle.laws.specs.Largest.{largest_of}
use Rattle.counts.specs.Newest.{rank}
use Rattle.counts.specs.Usable.{Usable}
use Rattle.counts.specs.declared.Count.{Count}
use Rattle.counts.specs.declared.Wanted.{Wanted}

module _ (w : Wanted) (counts : ℕ → Count) (n : ℕ) where
  -- the count at a place is usable
  pub record UsableCount (i : ℕ) : Type 0 where
    pub held : i < n
    pub usable : Usable w (counts i)

  -- a day and a flow are those of a usable count; no usable count is newer; of the newest none is larger
  pub record Chosen (day flow : ℕ) : Type 0 where
    pub place : ℕ
    pub listed : UsableCount place
    pub on_day : (counts place).day ≡ day
    pub with_flow : (counts place).flow ≡ flow
    pub newest : (k : ℕ) → UsableCount k → (counts k).day ≤ day
    pub largest : (k : ℕ) → UsableCount k → (counts k).day ≡ day → (counts k).flow ≤ flow

  abbrev rank_at : ℕ → ℕ
  rank_at i = rank w (counts i)

  -- the highest rank
  abbrev pub highest : ℕ
  highest = largest_of rank_at n
