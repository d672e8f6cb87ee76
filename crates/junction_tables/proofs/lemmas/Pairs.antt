-- The entries of every pair by one pass over the zones: a zone raises those of its pair, in both directions, and no others.
use Rattle.std.specs.Prelude.{ℕ, ◌+◌, ◌-◌, ◌<◌, max, ◌&&◌, List, ◌≡◌, eqb, length, get_or, replicate}
use Rattle.std.proofs.Common.{arith, true≢false, sym, ◌∙◌, ap, length-set, eq-eqb, ne_eqb}
use Rattle.std.proofs.lemmas.List.{length-replicate, get_or-replicate}
use Rattle.laws.proofs.Largest.{largest_none, largest_next}
use Rattle.laws.specs.Raised.{raised_at}
use Rattle.laws.specs.Ranges.{Between}
use Rattle.laws.specs.Tests.{by_test, both, two_same}
use Rattle.times.specs.Entry.{entry}
use Rattle.limits.specs.Limits.{most_streams}
use Rattle.junction.specs.declared.Junction.{Junction}
use Rattle.junction.specs.declared.Side.{Side}
use Rattle.junction_places.specs.Blank.{no_stream, no_zone}
use Rattle.junction_places.specs.Places.{stream_numbered, zone_at}
use Rattle.junction_file.specs.Taken.{SideRight, Taken}
use Rattle.junction_file.specs.lemmas.Places.{number_place, zone_place, zone_right}
use Rattle.junction_figures.specs.Figures.{zone_entry, pair_entry}
use Rattle.junction_figures.specs.Directions.{one_direction}
use Rattle.junction_tables.specs.Pairs.{pairs, pair_place, ByPair, raised_to, conflict_by}
use Rattle.junction_tables.specs.Tables.{conflict_of}
use Rattle.junction_tables.specs.lemmas.Pairs.{entries_over, two_directions, placed, zone_ends}

by_pair_same : (number other : ℕ → ℕ → ℕ) (l : List ℕ) → ByPair number l → ((n m : ℕ) → number n m ≡ other n m) → ByPair other l
by_pair_same number other l by same = record { long = by.long; each = λ n m p q. by.each n m p q ∙ same n m }

-- each pair has a place of its own
own_place : (a b n m : ℕ) → Between 1 most_streams a → Between 1 most_streams b → Between 1 most_streams n → Between 1 most_streams m
    → eqb (pair_place a b) (pair_place n m) ≡ (eqb a n && eqb b m)
own_place a b n m ra rb rn rm =
    by_test (eqb a n && eqb b m)
    (λ e. let is = two_same a b n m e in rw e (eq-eqb (pair_place a b) (pair_place n m) (omega arith)))
    (λ e.
    rw e (ne_eqb (pair_place a b) (pair_place n m)
    (λ s.
    let first : a ≡ n = omega arith in
    let second : b ≡ m = omega arith in
    true≢false (sym (both (eqb a n) (eqb b m) (eq-eqb a n first) (eq-eqb b m second)) ∙ e))))

module _ (j : Junction) where
  pub entries_none : ByPair (entries_over j 0) (replicate pairs 0)
  entries_none =
      record {
        long = length-replicate {A = ℕ} pairs 0;
        each = λ n m p q. get_or-replicate {A = ℕ} pairs (pair_place n m) 0 0 (omega arith) ∙ sym (largest_none _);
      }

  pub entries_whole : (l : List ℕ) → ByPair (entries_over j j.held.zones) l → ByPair (pair_entry j) l
  unfolding pair_entry
  entries_whole l by = by

  module _ (taken : Taken j) where
    -- the conflict of a zone by the entries of every pair
    pub zone_conflict : (l : List ℕ) → ByPair (pair_entry j) l → (i : ℕ) → i < j.held.zones
        → let z = get_or j.zones i no_zone in
        conflict_by l z.a.stream z.b.stream ≡ conflict_of j (zone_at j i)
    zone_conflict l by i low =
        let a = (get_or j.zones i no_zone).a.stream in
        let b = (get_or j.zones i no_zone).b.stream in
        let ends = zone_ends j taken i low in
        simp (by.each a b ends.0 ends.1, by.each b a ends.1 ends.0) (ap (conflict_of j) (zone_place j taken i low))

    -- from the stream of one side to that of the other
    raised_direction : (number : ℕ → ℕ → ℕ) (l : List ℕ) → ByPair number l → (x y : Side) → SideRight j x → SideRight j y
        → ByPair (λ n m. max (number n m) (one_direction j n m x y 0))
        (raised_to l x.stream y.stream (entry (stream_numbered j x.stream) (stream_numbered j y.stream) x.clearing y.reaching))
    raised_direction number l before x y rx ry =
        let from = placed j taken x rx in
        let to = placed j taken y ry in
        let here = pair_place x.stream y.stream in
        let low : here < length l = rw before.long (omega arith) in
        record {
          long = length-set l here _ ∙ before.long;
          each = λ n m rn rm.
              raised_at l here (pair_place n m) _ low
              ∙ rw (before.each n m rn rm, own_place x.stream y.stream n m from to rn rm)
              (by_test (eqb x.stream n && eqb y.stream m)
              (λ e. let is = two_same x.stream y.stream n m e in rw (e, is.0, is.1))
              (λ e. rw e));
        }

    -- the zone at a place raises both entries of its pair
    pub zone_raises : (i : ℕ) → i < j.held.zones → (l : List ℕ) → ByPair (entries_over j i) l
        → let z = get_or j.zones i no_zone in
        let first = get_or j.streams (z.a.stream - 1) no_stream in
        let second = get_or j.streams (z.b.stream - 1) no_stream in
        ByPair (entries_over j (i + 1))
        (raised_to (raised_to l z.a.stream z.b.stream (entry first second z.a.clearing z.b.reaching))
        z.b.stream z.a.stream (entry second first z.b.clearing z.a.reaching))
    zone_raises i low l before =
        let z = get_or j.zones i no_zone in
        let right = zone_right j taken i low in
        rw (number_place j taken z.a.stream right.a.existing, number_place j taken z.b.stream right.b.existing)
        (by_pair_same _ _ _ (raised_direction _ _ (raised_direction _ l before z.a z.b right.a right.b) z.b z.a right.b right.a)
        (λ n m. (two_directions j) z right n m _ ∙ rw (largest_next (λ k. zone_entry j n m (zone_at j k)) i, zone_place j taken i low)))
