-- The largest entry from the streams of a phase to those of another, over the zones: only pairs with a zone have an entry.
use Rattle.std.specs.Prelude.{ℕ, ◌+◌, ◌≤◌, ◌<◌, max, true, ◌&&◌, ◌↔◌, ◌≡◌}
use Rattle.std.proofs.Common.{zero-le, le_refl, le_antisymm, arith}
use Rattle.std.proofs.Math.Nat.{le_trans, le-max_left, le-max_right, max-le, add-sub_cancel}
use Rattle.std.proofs.Math.Dec.{eqb}
use Rattle.laws.proofs.Largest.{largest_at_most}
use Rattle.laws.specs.Largest.{largest_of}
use Rattle.laws.specs.Ranges.{Between}
use Rattle.laws.specs.Tests.{by_test, both, both_left, both_right, two_same}
use Rattle.junction.specs.declared.Junction.{Junction}
use Rattle.junction_places.specs.Places.{zone_at, zone_numbered, zone_numbered_at}
use Rattle.junction_file.specs.Taken.{Taken}
use Rattle.junction_figures.specs.Figures.{forward, backward, zone_entry, pair_entry}
use Rattle.junction_figures.proofs.Figures.{pair_least}
use Rattle.junction_phases.specs.JunctionPhases.{is_in, entry_between, phase_entry}
use Rattle.junction_phases.specs.Meaning.{only_at_most, entry_largest}

-- at a zone, both ways
unfoldable pub zone_figure : Junction → ℕ → ℕ → ℕ → ℕ
zone_figure j f g zone =
    let a = (zone_numbered j zone).a.stream in
    let b = (zone_numbered j zone).b.stream in
    max (entry_between j f g a b) (entry_between j f g b a)

unfoldable pub zones_entry : Junction → ℕ → ℕ → ℕ
zones_entry j f g = largest_of (λ i. zone_figure j f g (i + 1)) j.held.zones

module _ (j : Junction) where
  module _ (f g x : ℕ) where
    -- from a stream of phase f to one of phase g
    Pair : ℕ → ℕ → Type 0
    Pair n m = is_in j f n ≡ true → is_in j g m ≡ true → pair_entry j n m ≤ x

    between_at_most : (n m : ℕ) → (entry_between j f g n m ≤ x) ↔ Pair n m
    unfolding Pair entry_between
    between_at_most n m =
        let only = only_at_most (is_in j f n && is_in j g m) (pair_entry j n m) x in (
          λ h p q. only.0 h (both (is_in j f n) _ p q),
          λ h. only.1 (λ e. h (both_left (is_in j f n) _ e) (both_right (is_in j f n) _ e)),
        )

    -- at each zone, both ways
    zones_at_most : (zones_entry j f g ≤ x)
        ↔ ((i : ℕ) → i < j.held.zones
        → Pair (zone_at j i).a.stream (zone_at j i).b.stream × Pair (zone_at j i).b.stream (zone_at j i).a.stream)
    unfolding zones_entry zone_figure
    zones_at_most =
        let each = largest_at_most (λ i. zone_figure j f g (i + 1)) j.held.zones x in
        let at : (i : ℕ) → zone_numbered j (i + 1) ≡ zone_at j i = λ i. rw (zone_numbered_at j (i + 1) (omega arith), add-sub_cancel i 1) in (
          λ h i low.
              let most = rw (at i) at (each.0 h i low) in (
                (between_at_most _ _).0 (le_trans (le-max_left _ _) most),
                (between_at_most _ _).0 (le_trans (le-max_right _ _) most),
              ),
          λ h. each.1 (λ i low. rw (at i) (max-le ((between_at_most _ _).1 (h i low).0) ((between_at_most _ _).1 (h i low).1))),
        )

    -- a pair with a zone is at most x where its zone's pairs are, and one without has entry 0
    pair_at_most : zones_entry j f g ≤ x → (n m : ℕ) → Pair n m
    unfolding Pair zone_entry forward backward
    pair_at_most h n m p q =
        let zones = zones_at_most.0 h in
        (pair_least j n m x).1 (λ i low.
        let z = zone_at j i in
        let here = (pair_least j n m (pair_entry j n m)).0 (le_refl _) i low in
        by_test (eqb z.a.stream n && eqb z.b.stream m)
        (λ e. let is = two_same z.a.stream z.b.stream n m e in le_trans here ((rw (is.0, is.1) at (zones i low).0) p q))
        (λ e. by_test (eqb z.b.stream n && eqb z.a.stream m)
        (λ k. let is = two_same z.b.stream z.a.stream n m k in le_trans here ((rw (is.0, is.1) at (zones i low).1) p q))
        (λ k. rw (e, k) zero-le)))

  module _ (t : Taken j) where
    -- the largest entry from the streams of phase f to those of phase g is at most x exactly where the entry of each such pair is
    zones_largest : (f g x : ℕ)
        → (zones_entry j f g ≤ x)
        ↔ ((n m : ℕ) → Between 1 j.held.streams n → Between 1 j.held.streams m
        → is_in j f n ≡ true → is_in j g m ≡ true → pair_entry j n m ≤ x)
    unfolding Pair
    zones_largest f g x = (
      λ h n m here there. pair_at_most f g x h n m,
      λ h. (zones_at_most f g x).1 (λ i low.
          let z = t.fields.zones i low in
          (h _ _ z.a.existing z.b.existing, h _ _ z.b.existing z.a.existing)),
    )

    -- the zones' pairs are enough
    pub zones_enough : (f g : ℕ) → zones_entry j f g ≡ phase_entry j f g
    zones_enough f g =
        le_antisymm ((zones_largest f g (phase_entry j f g)).1 ((entry_largest j f g (phase_entry j f g)).0 (le_refl _)))
        ((entry_largest j f g (zones_entry j f g)).1 ((zones_largest f g (zones_entry j f g)).0 (le_refl _)))
