-- Which pairs of streams are not checked: exactly those in different phases that share no zone.
use Prim.Native.Nat.{ℕ, ◌<◌}
use Rattle.std.proofs.Common.{true≢false}
use Rattle.std.specs.Prelude.{Bool, true, false, ◌||◌, ◌≡◌, refl}
use Rattle.junction.specs.declared.Junction.{Junction}
use Rattle.junction_places.specs.Places.{zone_at}
use Rattle.junction_figures.specs.Figures.{forward, backward}

-- no zone is of the two streams, whichever of them is the zone's stream a
abbrev pub ShareNoZone : Junction → ℕ → ℕ → Type 0
ShareNoZone j n m = (i : ℕ) → i < j.held.zones → (forward n m (zone_at j i) ≡ false) × (backward n m (zone_at j i) ≡ false)

pub neither : (a b : Bool) → (a || b) ≡ false → (a ≡ false) × (b ≡ false)
neither true b e = absurd (true≢false e)
neither false b e = (refl, e)
