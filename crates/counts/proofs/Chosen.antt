-- The highest rank is that of the count to be chosen, and 0 exactly where there is no usable count.
use Rattle.std.specs.Prelude.{ℕ, ◌+◌, ◌*◌, ◌≤◌, ◌<◌, ◌↔◌, ◌≡◌}
use Rattle.std.proofs.Common.{eq-zero-or-pos, arith, ⊎_elim, ◌∙◌}
use Rattle.std.proofs.Math.Path.{sym}
use Rattle.laws.proofs.Largest.{largest_bounds, largest_found}
use Rattle.counts.specs.Newest.{rank, rank_day, rank_flow}
use Rattle.counts.specs.Usable.{usable_rank, ranked_usable}
use Rattle.counts.specs.declared.Count.{Count}
use Rattle.counts.specs.declared.Wanted.{Wanted}
use Rattle.counts.specs.Chosen.{UsableCount, Chosen, highest}

module _ (w : Wanted) (counts : ℕ → Count) (n : ℕ) where
  -- no usable count has a higher rank than the highest
  rank_bounds : (k : ℕ) → UsableCount w counts n k → (counts k).day * 65536 + (counts k).flow ≤ highest w counts n
  rank_bounds k u = rw (usable_rank w (counts k) u.usable) at (largest_bounds (λ i. rank w (counts i)) n k u.held)

  -- where the highest rank is not 0, it is that of the count to be chosen
  pub chosen : 0 < highest w counts n → Chosen w counts n (rank_day (highest w counts n)) (rank_flow (highest w counts n))
  unfolding rank_day rank_flow
  chosen h =
      let found = largest_found (λ i. rank w (counts i)) n h in
      let i = found.0 in
      let u = ranked_usable w (counts i) (rw found.2 h) in
      let flow = u.flow in
      let same : (counts i).day * 65536 + (counts i).flow ≡ highest w counts n = sym (usable_rank w (counts i) u) ∙ found.2 in
      record {
        place = i;
        listed = record { held = found.1; usable = u };
        on_day = omega arith;
        with_flow = omega arith;
        newest = λ k v. omega (arith, rank_bounds k v);
        largest = λ k v e. omega (arith, rank_bounds k v);
      }

  -- it is 0 where there is no usable count, and only there
  pub none_usable : (highest w counts n ≡ 0) ↔ ((i : ℕ) → UsableCount w counts n i → ⊥)
  none_usable = (
    λ e i u. omega (arith, rank_bounds i u, u.usable.flow),
    λ none. ⊎_elim (λ (zero : highest w counts n ≡ 0). zero)
        (λ (some : 0 < highest w counts n). absurd (none _ (chosen some).listed))
        (eq-zero-or-pos (highest w counts n)),
  )
