-- An entry at one zone goes by two streams and two distances, the one's clearing and the other's reaching distance (document 02, 2026-03): one
-- law over two sides, of which the directions from a to b and from b to a are instances. The other two distances change nothing, at a zone and
-- for the pair.
use Rattle.std.specs.Prelude.{ℕ, ◌<◌, ◌&&◌, cond, ◌⊎◌, ◌≡◌, eqb}
use Rattle.times.specs.Entry.{entry}
use Rattle.junction.specs.declared.Junction.{Junction}
use Rattle.junction.specs.declared.Side.{Side}
use Rattle.junction.specs.declared.Zone.{Zone}
use Rattle.junction_places.specs.Places.{stream_numbered, zone_at}

-- from stream n to stream m by two sides of a zone: where x is of n and y of m, the entry by the clearing distance of x and the reaching
-- distance of y; otherwise another number
abbrev pub one_direction : Junction → ℕ → ℕ → Side → Side → ℕ → ℕ
one_direction j n m x y other =
    cond (eqb x.stream n && eqb y.stream m) (entry (stream_numbered j n) (stream_numbered j m) x.clearing y.reaching) other

-- x and y are the sides of a zone, in either order
abbrev pub Sides : Zone → Side → Side → Type 0
Sides z x y = ((z.a ≡ x) × (z.b ≡ y)) ⊎ ((z.a ≡ y) × (z.b ≡ x))

-- two sides alike in what the direction from stream n to stream m uses: where they are of n and m, the one's clearing and the other's reaching
-- distance
abbrev pub SameUse : ℕ → ℕ → Side → Side → Side → Side → Type 0
SameUse n m x y x' y' = x.stream ≡ n → y.stream ≡ m → (x.clearing ≡ x'.clearing) × (y.reaching ≡ y'.reaching)

-- two zones: of the same streams, in either order of their sides
pub record SameZone (n m : ℕ) (z z' : Zone) : Type 0 where
  pub a : z.a.stream ≡ z'.a.stream
  pub b : z.b.stream ≡ z'.b.stream
  pub atob : SameUse n m z.a z.b z'.a z'.b
  pub btoa : SameUse n m z.b z.a z'.b z'.a

-- two junctions: with the same streams, and at each zone
pub record SameDirection (n m : ℕ) (j j' : Junction) : Type 0 where
  pub streams : j.streams ≡ j'.streams
  pub many_streams : j.held.streams ≡ j'.held.streams
  pub many_zones : j.held.zones ≡ j'.held.zones
  pub zones : (i : ℕ) → i < j.held.zones → SameZone n m (zone_at j i) (zone_at j' i)
