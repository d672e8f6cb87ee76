-- What a junction says after some of its fields, by the bytes of those fields.
use Rattle.std.specs.Prelude.{ℕ, ◌+◌, ◌-◌, ◌≤◌, ◌<◌, true, List, ◌↔◌, ◌≡◌, refl, eqb, replicate}
use Rattle.std.proofs.Common.{arith, ◌∙◌}
use Rattle.std.proofs.Math.Bool.{and-eq-true_iff}
use Rattle.std.proofs.lemmas.Bool.{false≢true}
use Rattle.std.proofs.Math.Path.{sym, ap}
use borrow.Author.Tests.{eqb-true, eqb-false, ne_eqb, lt-ltb, ltb-true, le-leb, leb-true, not-true}
use Rattle.laws.specs.Filled.{filled, filled_next, filled_at}
use Rattle.laws.specs.Ranges.{Between}
use Rattle.laws.specs.Tests.{by_test, both, both_left, both_right}
use Rattle.fields.specs.Bytes.{byte_at}
use Rattle.counts.specs.declared.Count.{Count}
use Rattle.streams.specs.declared.Stream.{Stream}
use Rattle.junction.specs.declared.Junction.{Junction}
use Rattle.junction.specs.declared.Zone.{Zone}
use Rattle.junction.specs.Layout.{design_day, planned_period, kind_of, car_of, tram_of, pedestrian_of, cyclist_of, island_of, stream_of, zone_of, count_of}
use Rattle.limits.specs.Limits.{most_streams, most_zones, most_counts}
use Rattle.junction_places.specs.Blank.{no_stream, no_zone, no_count, blank}
use Rattle.junction_questions.specs.Questions.{zone_refers, car_refers, count_refers}
use Rattle.junction_places.specs.Places.{stream_at, count_at, stream_numbered, numbered, numbered_at}
use Rattle.streams.specs.Kinds.{is_car}
use Rattle.junction_file.specs.Reading.{with_heading, with_stream, with_zone, with_count}
use Rattle.junction_description.specs.File.{body}

-- the places of streams, zones and counts with what so many fields say; the first zone and the first count follow so many other fields
abbrev streams_in : List ℕ → ℕ → List Stream
streams_in s many = filled (λ i. stream_of (body s (i + 1))) (replicate most_streams no_stream) many

abbrev zones_in : List ℕ → ℕ → ℕ → List Zone
zones_in s before many = filled (λ i. zone_of (body s (before + i + 1))) (replicate most_zones no_zone) many

abbrev counts_in : List ℕ → ℕ → ℕ → List Count
counts_in s before many = filled (λ i. count_of (body s (before + i + 1))) (replicate most_counts no_count) many

-- the heading, so many streams, zones and counts were read
pub record Holds (s : List ℕ) (j : Junction) (streams zones counts : ℕ) : Type 0 where
  pub streams_held : j.held.streams ≡ streams
  pub zones_held : j.held.zones ≡ zones
  pub counts_held : j.held.counts ≡ counts
  pub few_streams : streams ≤ most_streams
  pub few_zones : zones ≤ most_zones
  pub few_counts : counts ≤ most_counts
  pub day : j.day ≡ design_day (body s 0)
  pub period : j.period ≡ planned_period (body s 0)
  pub stream_places : j.streams ≡ streams_in s streams
  pub zone_places : j.zones ≡ zones_in s streams zones
  pub count_places : j.counts ≡ counts_in s (streams + zones) counts
  -- the tag of the last field is that of the last sort of which there is one
  pub some : Between 1 4 j.held.last
  pub no_zones : j.held.last ≤ 2 → zones ≡ 0
  pub no_counts : j.held.last ≤ 3 → counts ≡ 0
  pub at_streams : zones ≡ 0 → counts ≡ 0 → j.held.last ≤ 2
  pub at_zones : counts ≡ 0 → j.held.last ≤ 3

module _ (s : List ℕ) where
  pub holds_heading : Holds s (with_heading (body s 0) blank) 0 0 0
  unfolding with_heading filled
  holds_heading =
      record {
        streams_held = refl;
        zones_held = refl;
        counts_held = refl;
        few_streams = omega arith;
        few_zones = omega arith;
        few_counts = omega arith;
        day = refl;
        period = refl;
        stream_places = refl;
        zone_places = refl;
        count_places = refl;
        some = omega arith;
        no_zones = λ h. refl;
        no_counts = λ h. refl;
        at_streams = λ a b. omega arith;
        at_zones = λ a. omega arith;
      }

  pub holds_stream : (j : Junction) (n : ℕ) → Holds s j n 0 0 → n < 16 → Holds s (with_stream (body s (n + 1)) j) (n + 1) 0 0
  unfolding with_stream filled
  holds_stream j n r low =
      record {
        streams_held = ap (λ k. k + 1) r.streams_held;
        zones_held = r.zones_held;
        counts_held = r.counts_held;
        few_streams = omega arith;
        few_zones = omega arith;
        few_counts = omega arith;
        day = r.day;
        period = r.period;
        stream_places = rw (r.streams_held, r.stream_places, filled_next (λ i. stream_of (body s (i + 1))) (replicate most_streams no_stream) n);
        zone_places = r.zone_places;
        count_places = r.count_places;
        some = omega arith;
        no_zones = λ h. refl;
        no_counts = λ h. refl;
        at_streams = λ a b. omega arith;
        at_zones = λ a. omega arith;
      }

  pub holds_zone : (j : Junction) (n z : ℕ) → Holds s j n z 0 → z < 64 → Holds s (with_zone (body s (n + z + 1)) j) n (z + 1) 0
  unfolding with_zone filled
  holds_zone j n z r low =
      record {
        streams_held = r.streams_held;
        zones_held = ap (λ k. k + 1) r.zones_held;
        counts_held = r.counts_held;
        few_streams = r.few_streams;
        few_zones = omega arith;
        few_counts = omega arith;
        day = r.day;
        period = r.period;
        stream_places = r.stream_places;
        zone_places = rw (r.zones_held, r.zone_places, filled_next (λ i. zone_of (body s (n + i + 1))) (replicate most_zones no_zone) z);
        count_places = r.count_places;
        some = omega arith;
        no_zones = λ h. absurd (omega arith);
        no_counts = λ h. refl;
        at_streams = λ a c. absurd (omega arith);
        at_zones = λ a. omega arith;
      }

  pub holds_count : (j : Junction) (n z c : ℕ) → Holds s j n z c → c < 128 → Holds s (with_count (body s (n + z + c + 1)) j) n z (c + 1)
  unfolding with_count
  holds_count j n z c r low =
      record {
        streams_held = r.streams_held;
        zones_held = r.zones_held;
        counts_held = ap (λ k. k + 1) r.counts_held;
        few_streams = r.few_streams;
        few_zones = r.few_zones;
        few_counts = omega arith;
        day = r.day;
        period = r.period;
        stream_places = r.stream_places;
        zone_places = r.zone_places;
        count_places = rw (r.counts_held, r.count_places, filled_next (λ i. count_of (body s (n + z + i + 1))) (replicate most_counts no_count) c);
        some = omega arith;
        no_zones = λ h. absurd (omega arith);
        no_counts = λ h. absurd (omega arith);
        at_streams = λ a b. absurd (omega arith);
        at_zones = λ a. absurd (omega arith);
      }

-- a stream is a car exactly where its kind is 1
pub kind_car : (b : List ℕ) → (is_car (kind_of b) ≡ true) ↔ (byte_at b 0 ≡ 1)
unfolding kind_of car_of tram_of pedestrian_of cyclist_of island_of
kind_car b =
    by_test (eqb (byte_at b 0) 1) (λ e. rw e (λ t. eqb-true _ _ e, λ k. refl))
    (λ n1. let other = eqb-false (byte_at b 0) 1 n1 in
    by_test (eqb (byte_at b 0) 2) (λ e. rw (n1, e) (λ t. absurd (false≢true t), λ k. absurd (other k)))
    (λ n2. by_test (eqb (byte_at b 0) 3) (λ e. rw (n1, n2, e) (λ t. absurd (false≢true t), λ k. absurd (other k)))
    (λ n3. by_test (eqb (byte_at b 0) 4) (λ e. rw (n1, n2, n3, e) (λ t. absurd (false≢true t), λ k. absurd (other k)))
    (λ n4. by_test (eqb (byte_at b 0) 5) (λ e. rw (n1, n2, n3, n4, e) (λ t. absurd (false≢true t), λ k. absurd (other k)))
    (λ n5. rw (n1, n2, n3, n4, n5) (λ t. absurd (false≢true t), λ k. absurd (other k)))))))

module _ (s : List ℕ) (j : Junction) (streams zones counts : ℕ) (r : Holds s j streams zones counts) where
  -- what stands at a place
  pub stream_there : (k : ℕ) → k < streams → stream_at j k ≡ stream_of (body s (k + 1))
  unfolding stream_at
  stream_there k h = rw (lt-ltb k 16 (omega (arith, r.few_streams)), r.stream_places) (filled_at _ _ streams k no_stream h r.few_streams)

  pub count_there : (k : ℕ) → k < counts → count_at j k ≡ count_of (body s (streams + zones + k + 1))
  unfolding count_at
  count_there k h = rw (lt-ltb k 128 (omega (arith, r.few_counts)), r.count_places) (filled_at _ _ counts k no_count h r.few_counts)

  stream_is : (n : ℕ) → Between 1 streams n → stream_numbered j n ≡ stream_of (body s n)
  stream_is n w =
      let there : n - 1 + 1 ≡ n = omega arith in
      numbered_at j n w.0 ∙ stream_there (n - 1) (omega arith) ∙ ap (λ k. stream_of (body s k)) there

  pub phase_is : (n : ℕ) → Between 1 streams n → (stream_numbered j n).phase ≡ byte_at (body s n) 1
  unfolding stream_of
  phase_is n w = ap Stream.phase (stream_is n w)

  pub car_is : (n : ℕ) → Between 1 streams n → (is_car (stream_numbered j n).kind ≡ true) ↔ (byte_at (body s n) 0 ≡ 1)
  unfolding stream_of
  car_is n w = rw (ap Stream.kind (stream_is n w)) (kind_car (body s n))

  number_is : (n : ℕ) → (numbered j.held.streams n ≡ true) ↔ Between 1 streams n
  unfolding numbered
  number_is n = (
    λ e. let facts = simp and-eq-true_iff at e in omega (arith, leb-true, r.streams_held),
    λ w. both _ _ (le-leb 1 n w.0) (le-leb n _ (omega (arith, r.streams_held))),
  )

  pub zone_refers_lem : (a b : ℕ)
      → (zone_refers j.held.streams a b (stream_numbered j a) (stream_numbered j b) ≡ true)
      ↔ (Between 1 streams a × Between 1 streams b × (a < b) × (byte_at (body s a) 1 ≡ byte_at (body s b) 1 → ⊥))
  unfolding zone_refers
  zone_refers_lem a b = (
    λ e. let facts = simp and-eq-true_iff at e in
        let wa = (number_is a).0 facts.0.0.0 in
        let wb = (number_is b).0 facts.0.0.1 in
        (wa, wb, ltb-true a b facts.0.1, λ same. eqb-false _ _ (not-true _ facts.1) (phase_is a wa ∙ same ∙ sym (phase_is b wb))),
    λ w. simp ((number_is a).1 w.0, (number_is b).1 w.1, lt-ltb a b w.2, phase_is a w.0, phase_is b w.1, ne_eqb _ _ w.3),
  )

  pub count_refers_lem : (n : ℕ) → (count_refers j n ≡ true) ↔ (Between 1 streams n × (byte_at (body s n) 0 ≡ 1))
  unfolding count_refers car_refers
  count_refers_lem n = (
    λ e. let w = (number_is n).0 (both_left (numbered j.held.streams n) _ e) in (w, (car_is n w).0 (both_right (numbered j.held.streams n) _ e)),
    λ w. both _ _ ((number_is n).1 w.0) ((car_is n w.0).1 w.1),
  )
