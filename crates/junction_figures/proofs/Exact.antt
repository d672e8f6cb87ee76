-- The entry of a pair of streams of a taken junction, by the exact times: a gap is at least the entry exactly where, at each zone of the
-- pair, the last participant leaves no later than the first of the other reaches, that gap after the end of green.
use Rattle.std.specs.Prelude.{ℕ, ◌≤◌, ◌<◌, ◌&&◌, ◌↔◌, refl}
use Rattle.std.proofs.Common.{zero-le, arith}
use Rattle.std.proofs.lemmas.Bool.{false≢true}
use Rattle.std.proofs.Math.Dec.{eqb}
use Rattle.laws.specs.Tests.{by_test, two_same}
use Rattle.junction.specs.declared.Junction.{Junction}
use Rattle.junction.specs.declared.Zone.{Zone}
use Rattle.junction_places.specs.Places.{zone_at}
use Rattle.junction_file.specs.Taken.{ZoneRight, Taken}
use Rattle.junction_figures.specs.Figures.{forward, backward, zone_entry, pair_entry}
use Rattle.junction_figures.proofs.Figures.{pair_least}
use Rattle.junction_figures.specs.Exact.{EnoughAt, side_exact}

module _ (j : Junction) (t : Taken j) where
  -- a zone of streams n and m
  zone_exact : (n m gap : ℕ) (z : Zone) → ZoneRight j z → (zone_entry j n m z ≤ gap) ↔ EnoughAt j n m z gap
  unfolding zone_entry EnoughAt forward backward
  zone_exact n m gap z r =
      let onward = side_exact j t z.a z.b r.a gap in
      let back = side_exact j t z.b z.a r.b gap in
      by_test (eqb z.a.stream n && eqb z.b.stream m)
      (λ f.
      let is = two_same z.a.stream z.b.stream n m f in
      rw (f, ← is.0, ← is.1) (
        λ h. (λ e. onward.0 h, λ e. absurd (omega (arith, (two_same z.b.stream z.a.stream z.a.stream z.b.stream e).0, r.below))),
        λ both. onward.1 (both.0 refl),
      ))
      (λ f.
      by_test (eqb z.b.stream n && eqb z.a.stream m)
      (λ g.
      let is = two_same z.b.stream z.a.stream n m g in
      rw (f, g, ← is.0, ← is.1) (λ h. (λ e. absurd (false≢true e), λ e. back.0 h), λ both. back.1 (both.1 refl)))
      (λ g. rw (f, g) (λ h. (λ e. absurd (false≢true e), λ e. absurd (false≢true e)), λ both. zero-le)))

-- a gap is at least the entry from stream n to stream m exactly where it is enough at each of their zones, whichever of the two is the
-- zone's stream a
pub pair_exact : (j : Junction) → Taken j → (n m gap : ℕ)
    → (pair_entry j n m ≤ gap) ↔ ((i : ℕ) → i < j.held.zones → EnoughAt j n m (zone_at j i) gap)
pair_exact j t n m gap =
    let each = pair_least j n m gap in (
      λ h i low. (zone_exact j t n m gap (zone_at j i) (t.fields.zones i low)).0 (each.0 h i low),
      λ h. each.1 (λ i low. (zone_exact j t n m gap (zone_at j i) (t.fields.zones i low)).1 (h i low)),
    )
