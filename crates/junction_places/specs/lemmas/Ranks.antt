-- The rank of the newest count of every number, by one pass over the counts: a count changes the rank of its own stream alone.
use Rattle.std.specs.Prelude.{ℕ, ◌+◌, ◌<◌, max, List, ◌≢◌, ◌≡◌, eqb, length, get_or, set, replicate}
use Rattle.std.proofs.Common.{zero-le, sym, ◌∙◌, length-set, get_or-set_same, get_or-set_other, ne_eqb, eqb-true}
use Rattle.std.proofs.Math.Nat.{max-eq_left}
use Rattle.std.proofs.lemmas.List.{length-replicate, get_or-replicate}
use Rattle.std.proofs.lemmas.Bool.{eqb-false}
use Rattle.laws.proofs.Largest.{largest_none, largest_next}
use Rattle.laws.specs.Largest.{largest_of}
use Rattle.laws.specs.Tests.{by_test}
use Rattle.counts.specs.Newest.{usable, rank}
use Rattle.junction.specs.declared.Junction.{Junction}
use Rattle.junction_places.specs.Places.{count_at}
use Rattle.junction_places.specs.Ranks.{rank_at}

-- at each number of one byte the largest rank of the first k counts
pub record RanksOf (j : Junction) (k : ℕ) (ranks : List ℕ) : Type 0 where
  pub long : length ranks ≡ 256
  pub each : (n : ℕ) → n < 256 → get_or ranks n 0 ≡ largest_of (rank_at j n) k

pub ranks_begin : (j : Junction) → RanksOf j 0 (replicate 256 0)
ranks_begin j =
    record { long = length-replicate {A = ℕ} 256 0; each = λ n low. get_or-replicate {A = ℕ} 256 n 0 0 low ∙ sym (largest_none (rank_at j n)) }

module _ (j : Junction) (k : ℕ) where
  rank_other : (n : ℕ) → (count_at j k).stream ≢ n → rank_at j n k ≡ 0
  unfolding rank_at rank usable
  rank_other n h = rw (ne_eqb _ _ h)

  pub ranks_turn : (s r : ℕ) (ranks : List ℕ) → RanksOf j k ranks → s ≡ (count_at j k).stream → s < 256
      → r ≡ max (get_or ranks s 0) (rank_at j s k) → RanksOf j (k + 1) (set ranks s r)
  ranks_turn s r ranks before own low e =
      record {
        long = length-set ranks s r ∙ before.long;
        each = λ n small. by_test (eqb n s)
            (λ t. let same : n ≡ s = eqb-true _ _ t in
            rw (same, get_or-set_same ranks s r 0 (rw before.long low), largest_next (rank_at j s) k, e, before.each s low))
            (λ t. let differ : n ≢ s = eqb-false _ _ t in
            rw (get_or-set_other ranks s n r 0 differ, largest_next (rank_at j n) k, rank_other n (λ q. differ (sym (own ∙ q))), before.each n small)
            (sym (max-eq_left zero-le)));
      }
