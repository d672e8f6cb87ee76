-- The annex's figures of a junction that was read: entries of pairs, needs, flows, saturation flows, flow ratios.
use Rattle.std.specs.Prelude.{ℕ, ◌≤◌, ◌<◌, ◌↔◌}
use Rattle.laws.proofs.Largest.{largest_at_most}
use Rattle.junction.specs.declared.Junction.{Junction}
use Rattle.junction_places.specs.Places.{zone_at}
use Rattle.junction_figures.specs.Figures.{zone_entry, pair_entry}

-- it is the least number that is at least the entry at each zone of the pair
pub pair_least : (j : Junction) (n m g : ℕ)
    → (pair_entry j n m ≤ g) ↔ ((i : ℕ) → i < j.held.zones → zone_entry j n m (zone_at j i) ≤ g)
unfolding pair_entry
pair_least j n m g = largest_at_most (λ i. zone_entry j n m (zone_at j i)) j.held.zones g
