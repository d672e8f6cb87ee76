-- The same counts in the period asked for give the same highest rank.
use Rattle.std.specs.Prelude.{ℕ, ◌≤◌, ◌≡◌, refl}
use Rattle.std.proofs.Common.{le_antisymm, ap}
use Rattle.laws.proofs.Largest.{largest_among}
use Rattle.counts.specs.Chosen.{highest}
use Rattle.counts.specs.Newest.{rank}
use Rattle.counts.specs.Usable.{ranked_usable}
use Rattle.counts.specs.declared.Count.{Count}
use Rattle.counts.specs.declared.Wanted.{Wanted}
use Rattle.counts.specs.OtherPeriods.{Listed, SameInPeriod}

module _ (w : Wanted) where
  at_most : (counts others : ℕ → Count) (n m : ℕ) → ((c : Count) → c.period ≡ w.period → Listed counts n c → Listed others m c)
      → highest w counts n ≤ highest w others m
  at_most counts others n m among =
      largest_among (λ i. rank w (counts i)) (λ i. rank w (others i)) n m
      (λ i low some.
      let usable = ranked_usable w (counts i) some in
      let found = among (counts i) usable.in_period (record { place = i; held = low; there = refl }) in
      (found.place, found.held, ap (rank w) found.there))

  pub highest_same : (counts others : ℕ → Count) (n m : ℕ) → SameInPeriod w.period counts n others m → highest w counts n ≡ highest w others m
  highest_same counts others n m same =
      le_antisymm (at_most counts others n m (λ c e. (same c e).0)) (at_most others counts m n (λ c e. (same c e).1))
