-- The entries of every pair by one pass over the zones: a zone raises those of its pair, in both directions, and no others.
use Rattle.std.specs.Prelude.{ℕ, ◌<◌, max, false, ◌&&◌, ◌≡◌, eqb, get_or}
use Rattle.std.proofs.Common.{zero-le, arith, ne_eqb}
use Rattle.std.proofs.Math.Nat.{max-eq_left}
use Rattle.laws.specs.Largest.{largest_of}
use Rattle.laws.specs.Ranges.{Between}
use Rattle.laws.specs.Tests.{by_test, two_same}
use Rattle.limits.specs.Limits.{most_streams}
use Rattle.junction.specs.declared.Junction.{Junction}
use Rattle.junction.specs.declared.Side.{Side}
use Rattle.junction.specs.declared.Zone.{Zone}
use Rattle.junction_places.specs.Blank.{no_zone}
use Rattle.junction_places.specs.Places.{zone_at}
use Rattle.junction_file.specs.Taken.{SideRight, ZoneRight, Taken}
use Rattle.junction_file.specs.lemmas.Places.{zone_right}
use Rattle.junction_figures.specs.Figures.{zone_entry}
use Rattle.junction_figures.specs.Directions.{one_direction}
use Rattle.junction_figures.proofs.Directions.{both_directions}

module _ (j : Junction) where
  -- the entries over the first k zones
  abbrev pub entries_over : ℕ → ℕ → ℕ → ℕ
  entries_over k n m = largest_of (λ i. zone_entry j n m (zone_at j i)) k

  -- a number raised in one direction and then in the other is raised by the zone's entry
  pub two_directions : (z : Zone) → ZoneRight j z → (n m most : ℕ)
      → max (max most (one_direction j n m z.a z.b 0)) (one_direction j n m z.b z.a 0) ≡ max most (zone_entry j n m z)
  two_directions z right n m most =
      rw (both_directions j n m z)
      (by_test (eqb z.a.stream n && eqb z.b.stream m)
      (λ e.
      let is = two_same z.a.stream z.b.stream n m e in
      let back : eqb z.b.stream n ≡ false = ne_eqb z.b.stream n (λ s. absurd (omega (arith, right.below))) in
      rw (e, back) (max-eq_left zero-le))
      (λ e. let flat : max most 0 ≡ most = max-eq_left zero-le in rw (e, flat)))

  module _ (taken : Taken j) where
    -- the stream of a side has a number from 1 to 16
    pub placed : (x : Side) → SideRight j x → Between 1 most_streams x.stream
    placed x right = let few = taken.fields.few_streams in omega (arith, right.existing)

    pub zone_ends : (i : ℕ) → i < j.held.zones
        → let z = get_or j.zones i no_zone in
        Between 1 most_streams z.a.stream × Between 1 most_streams z.b.stream
    zone_ends i low = let right = zone_right j taken i low in (placed _ right.a, placed _ right.b)

    pub zone_first : (i : ℕ) → i < j.held.zones → Between 1 most_streams (get_or j.zones i no_zone).a.stream
    zone_first i low = (zone_ends i low).0

    pub zone_second : (i : ℕ) → i < j.held.zones → Between 1 most_streams (get_or j.zones i no_zone).b.stream
    zone_second i low = (zone_ends i low).1
