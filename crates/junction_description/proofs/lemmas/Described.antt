-- A junction file is taken exactly where it is, field by field, what documents 01 and 02 describe.
use Rattle.std.specs.Prelude.{ℕ, suc, ◌+◌, ◌≤◌, ◌<◌, true, List, ◌⊎◌, ◌≡◌}
use native.Mathlib.Omega.{arith}
use Rattle.std.proofs.Math.Bool.{false, and-eq-true_iff}
use Rattle.std.proofs.Common.{inl, inr, ⊎_elim}
use Rattle.std.proofs.Math.Path.{refl}
use Rattle.std.proofs.Math.Dec.{eqb}
use Rattle.std.proofs.Math.ListN.{length}
use borrow.Author.Tests.{eqb-true, eqb-false, ne_eqb, ltb-true, leb-true}
use Rattle.laws.specs.Ranges.{Between}
use Rattle.laws.specs.Tests.{by_test}
use Rattle.fields.specs.Bytes.{byte_at, fits}
use Rattle.junction.specs.declared.Junction.{Junction}
use Rattle.junction.specs.Layout.{heading_length, heading_in_range}
use Rattle.junction_places.specs.Blank.{blank}
use Rattle.junction_questions.specs.lemmas.Passed.{BodyPassed, field_passed}
use Rattle.junction_questions.specs.Questions.{in_order, length_right, in_range, within_limit, refers, count_refers}
use Rattle.junction_file.specs.Reading.{with_heading, with_stream, with_zone, with_count, with_field}
use Rattle.junction_description.specs.File.{place, tag, body, StreamField, ZoneField, CountField}
use Rattle.junction_description.specs.lemmas.Holds.{holds_heading, holds_stream, holds_zone, holds_count, zone_refers_lem, count_refers_lem}
use Rattle.junction_description.specs.lemmas.Steps.{Passes, begin, next}
use Rattle.junction_description.specs.lemmas.Described.{Part, one_more, one_fits, Some}

module _ (s : List ℕ) where
  pub part_stream : (j : Junction) (n : ℕ) → Part s j n 0 0 → fits s (place s (n + 1)) ≡ true → n < 16 → StreamField s (n + 1)
      → Part s (with_stream (body s (n + 1)) j) (n + 1) 0 0
  part_stream j n p fit low f =
      record {
        holds = holds_stream s j n p.holds low;
        within = λ i h. one_fits s n (λ k l. p.within k (omega arith)) fit i (omega arith);
        heading = p.heading;
        heading_long = p.heading_long;
        heading_ranged = p.heading_ranged;
        stream_fields = one_more (StreamField s) n p.stream_fields f;
        zone_fields = λ k w. absurd (omega arith);
        count_fields = λ k w. absurd (omega arith);
      }

  pub part_zone : (j : Junction) (n z : ℕ) → Part s j n z 0 → fits s (place s (n + z + 1)) ≡ true → z < 64 → ZoneField s n (n + z + 1)
      → Part s (with_zone (body s (n + z + 1)) j) n (z + 1) 0
  part_zone j n z p fit low f =
      let there : n + (z + 1) ≡ n + z + 1 = omega arith in
      record {
        holds = holds_zone s j n z p.holds low;
        within = λ i h. one_fits s (n + z) (λ k l. p.within k (omega arith)) fit i (omega arith);
        heading = p.heading;
        heading_long = p.heading_long;
        heading_ranged = p.heading_ranged;
        stream_fields = p.stream_fields;
        zone_fields = one_more (λ k. ZoneField s n (n + k)) z p.zone_fields (rw there f);
        count_fields = λ k w. absurd (omega arith);
      }

  pub part_count : (j : Junction) (n z c : ℕ) → Part s j n z c → fits s (place s (n + z + c + 1)) ≡ true → c < 128 → CountField s n (n + z + c + 1)
      → Part s (with_count (body s (n + z + c + 1)) j) n z (c + 1)
  part_count j n z c p fit low f =
      let there : n + z + (c + 1) ≡ n + z + c + 1 = omega arith in
      record {
        holds = holds_count s j n z c p.holds low;
        within = λ i h. one_fits s (n + z + c) (λ k l. p.within k (omega arith)) fit i (omega arith);
        heading = p.heading;
        heading_long = p.heading_long;
        heading_ranged = p.heading_ranged;
        stream_fields = p.stream_fields;
        zone_fields = p.zone_fields;
        count_fields = one_more (λ k. CountField s n (n + z + k)) c p.count_fields (rw there f);
      }

  -- the same, where a field comes after a part without later sorts
  stream_next : (j : Junction) (n z c i : ℕ) → z ≡ 0 → c ≡ 0 → i ≡ n + 1 → Part s j n z c → fits s (place s i) ≡ true → n < 16 → StreamField s i
      → Part s (with_stream (body s i) j) (n + 1) 0 0
  stream_next j n z c i no_z no_c at p fit low f =
      rw at (part_stream j n (rw (no_z, no_c) at p) (rw at at fit) low (rw at at f))

  zone_next : (j : Junction) (n z c i : ℕ) → c ≡ 0 → i ≡ n + z + 1 → Part s j n z c → fits s (place s i) ≡ true → z < 64 → ZoneField s n i
      → Part s (with_zone (body s i) j) n (z + 1) 0
  zone_next j n z c i no_c at p fit low f = rw at (part_zone j n z (rw no_c at p) (rw at at fit) low (rw at at f))

  -- the heading
  pub part_heading : fits s (place s 0) ≡ true → tag s 0 ≡ 1 → length (body s 0) ≡ heading_length → heading_in_range (body s 0) ≡ true
      → Part s (with_heading (body s 0) blank) 0 0 0
  part_heading fit one long ranged =
      record {
        holds = holds_heading s;
        within = λ i h. let first : i ≡ 0 = omega arith in rw first fit;
        heading = one;
        heading_long = long;
        heading_ranged = ranged;
        stream_fields = λ k w. absurd (omega arith);
        zone_fields = λ k w. absurd (omega arith);
        count_fields = λ k w. absurd (omega arith);
      }

  first_field : fits s (place s 0) ≡ true → BodyPassed (tag s 0) (body s 0) blank → Some s 1 (with_field (tag s 0) (body s 0) blank)
  unfolding in_order length_right in_range with_field
  first_field fit b =
      let one : tag s 0 ≡ 1 = eqb-true _ _ b.ordered in
      let long : length (body s 0) ≡ heading_length = eqb-true _ _ (rw one at b.long) in
      rw one (0, 0, 0, refl, part_heading fit one long (rw one at b.ranged))

  -- the fields after it
  module _ (j : Junction) (n z c i : ℕ) (at : i ≡ n + z + c + 1) (p : Part s j n z c) (fit : fits s (place s i) ≡ true)
      (b : BodyPassed (tag s i) (body s i) j) where
    ordered : Between 2 4 (tag s i) × (j.held.last ≤ tag s i)
    unfolding in_order
    ordered =
        let known : eqb j.held.last 0 ≡ false = ne_eqb _ _ (λ (e : j.held.last ≡ 0). let low = p.holds.some in omega arith) in
        let facts = simp and-eq-true_iff at (rw known at b.ordered) in
        omega (arith, leb-true)

    next_field : (Some s) (suc i) (with_field (tag s i) (body s i) j)
    unfolding with_field length_right in_range within_limit refers count_refers
    next_field =
        let o = ordered in
        let h = p.holds in
        by_test (eqb (tag s i) 2)
        (λ e. let two : tag s i ≡ 2 = eqb-true _ _ e in
        let no_z : z ≡ 0 = h.no_zones (omega arith) in
        let no_c : c ≡ 0 = h.no_counts (omega arith) in
        let low : n < 16 = rw h.streams_held at (ltb-true j.held.streams 16 (rw two at b.limited)) in
        let f : StreamField s i = record { tagged = two; long = rw two at b.long; ranged = rw two at b.ranged } in
        rw two (n + 1, 0, 0, omega arith, stream_next j n z c i no_z no_c (omega arith) p fit low f))
        (λ n2. let other2 = eqb-false (tag s i) 2 n2 in
        by_test (eqb (tag s i) 3)
        (λ e. let three : tag s i ≡ 3 = eqb-true _ _ e in
        let no_c : c ≡ 0 = h.no_counts (omega arith) in
        let low : z < 64 = rw h.zones_held at (ltb-true j.held.zones 64 (rw three at b.limited)) in
        let named = (zone_refers_lem s j n z c h (byte_at (body s i) 0) (byte_at (body s i) 1)).0 (rw three at b.referring) in
        let f : ZoneField s n i =
        record {
          tagged = three;
          long = eqb-true _ _ (rw three at b.long);
          ranged = rw three at b.ranged;
          a = named.0;
          b = named.1;
          below = named.2;
          apart = named.3;
        } in
        rw three (n, z + 1, 0, omega arith, zone_next j n z c i no_c (omega arith) p fit low f))
        (λ n3. let other3 = eqb-false (tag s i) 3 n3 in
        let four : tag s i ≡ 4 = omega arith in
        let low : c < 128 = rw h.counts_held at (ltb-true j.held.counts 128 (rw four at b.limited)) in
        let named = (count_refers_lem s j n z c h (byte_at (body s i) 0)).0 (rw four at b.referring) in
        let f : CountField s n i =
        record { tagged = four; long = eqb-true _ _ (rw four at b.long); ranged = rw four at b.ranged; existing = named.0; car = named.1 } in
        rw four (n, z, c + 1, omega arith, rw at (part_count j n z c p (rw at at fit) low (rw at at f)))))

  heading_next : (i : ℕ) (j : Junction) → i ≡ 0 → j ≡ blank → fits s (place s i) ≡ true → BodyPassed (tag s i) (body s i) j
      → Some s (suc i) (with_field (tag s i) (body s i) j)
  heading_next i j none is fit b = rw (none, is) (first_field (rw none at fit) (rw (none, is) at b))

  -- the fields that pass are right
  pub parts : {i : ℕ} {j : Junction} → Passes s i j → ((i ≡ 0) × (j ≡ blank)) ⊎ Some s i j
  parts begin = inl (refl, refl)
  parts (next {i = i} {j = j} p low e) =
      let f = field_passed s (place s i) j e in
      let b = f.1 in
      ⊎_elim (λ (none : (i ≡ 0) × (j ≡ blank)). inr (heading_next i j none.0 none.1 f.0 b))
      (λ (q : (n z c : ℕ) × (i ≡ n + z + c + 1) × Part s j n z c). inr (next_field j q.0 q.1 q.2 i q.3 q.4 f.0 b)) (parts p)
