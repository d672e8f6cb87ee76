-- An entry at one zone goes by two streams and two distances, the one's clearing and the other's reaching distance (document 02, 2026-03): one
-- law over two sides, of which the directions from a to b and from b to a are instances. The other two distances change nothing, at a zone and
-- for the pair.
use Rattle.std.specs.Prelude.{ℕ, true, false, ◌&&◌, ◌≢◌, ◌≡◌, refl, eqb}
use Rattle.std.proofs.Common.{⊎_elim, sym, ◌∙◌, eq-eqb, ne_eqb}
use Rattle.std.proofs.Math.Path.{ap}
use Rattle.laws.specs.Largest.{largest_of}
use Rattle.laws.proofs.Largest.{largest_same}
use Rattle.laws.specs.Tests.{by_test, two_same}
use Rattle.times.specs.Entry.{entry}
use Rattle.junction.specs.declared.Junction.{Junction}
use Rattle.junction.specs.declared.Side.{Side}
use Rattle.junction.specs.declared.Zone.{Zone}
use Rattle.junction_places.specs.Places.{stream_numbered, numbered_by_streams, zone_at}
use Rattle.junction_figures.specs.Figures.{forward, backward, zone_entry, pair_entry}
use Rattle.junction_figures.specs.Directions.{one_direction, Sides, SameUse, SameZone, SameDirection}

-- at a zone: from a to b, otherwise from b to a, otherwise 0
pub both_directions : (j : Junction) (n m : ℕ) (z : Zone) → zone_entry j n m z ≡ one_direction j n m z.a z.b (one_direction j n m z.b z.a 0)
unfolding zone_entry forward backward
both_directions j n m z = refl

-- from the stream of one side to that of the other
pub one_direction_lem : (j : Junction) (z : Zone) (x y : Side) → Sides z x y → x.stream ≢ y.stream
    → zone_entry j x.stream y.stream z
    ≡ entry (stream_numbered j x.stream) (stream_numbered j y.stream) x.clearing y.reaching
one_direction_lem j z x y sides apart =
    let from : eqb x.stream x.stream ≡ true = eq-eqb x.stream x.stream refl in
    let to : eqb y.stream y.stream ≡ true = eq-eqb y.stream y.stream refl in
    let crossed : eqb y.stream x.stream ≡ false = ne_eqb y.stream x.stream (λ e. apart (sym e)) in
    both_directions j x.stream y.stream z
    ∙ ⊎_elim (λ w. rw (w.0, w.1, from, to)) (λ w. rw (w.0, w.1, crossed, from, to)) sides

module _ (n m : ℕ) (j j' : Junction) where
  module _ (streams : j.streams ≡ j'.streams) where
    direction_same : (x y x' y' : Side) (other other' : ℕ) → x.stream ≡ x'.stream → y.stream ≡ y'.stream → SameUse n m x y x' y'
        → other ≡ other' → one_direction j n m x y other ≡ one_direction j' n m x' y' other'
    direction_same x y x' y' other other' from to same rest =
        rw (← from, ← to)
        (by_test (eqb x.stream n && eqb y.stream m)
        (λ e.
        let is = two_same x.stream y.stream n m e in
        let clearing : x.clearing ≡ x'.clearing = (same is.0 is.1).0 in
        let reaching : y.reaching ≡ y'.reaching = (same is.0 is.1).1 in
        rw (e, numbered_by_streams j j' streams n, numbered_by_streams j j' streams m, clearing, reaching))
        (λ e. rw e rest))

    -- the other two distances change nothing at a zone
    pub others_unused : (z z' : Zone) → SameZone n m z z' → zone_entry j n m z ≡ zone_entry j' n m z'
    others_unused z z' same =
        let back = direction_same z.b z.a z'.b z'.a 0 0 same.b same.a same.btoa refl in
        both_directions j n m z
        ∙ direction_same z.a z.b z'.a z'.b _ _ same.a same.b same.atob back
        ∙ sym (both_directions j' n m z')

  -- and so for the pair
  pub pair_others_unused : SameDirection n m j j' → pair_entry j n m ≡ pair_entry j' n m
  unfolding pair_entry
  pair_others_unused same =
      largest_same (λ i. zone_entry j n m (zone_at j i)) (λ i. zone_entry j' n m (zone_at j' i)) j.held.zones
      (λ i low. others_unused same.streams (zone_at j i) (zone_at j' i) (same.zones i low))
      ∙ ap (largest_of (λ i. zone_entry j' n m (zone_at j' i))) same.many_zones
