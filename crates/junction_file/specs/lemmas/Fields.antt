-- What the questions of a taken file's fields, and of the whole, say of its junction, step by step.
use Prim.Native.Nat.{ℕ, zero, suc, ◌+◌, ◌-◌, ◌≤◌, ◌<◌, zero-le}
use Rattle.std.proofs.Common.{pos_of_ne-zero, add-zero, true≢false, inl, inr, sym, ◌∙◌, get_or-set_same, get_or-set_other}
use native.Mathlib.Omega.{arith}
use Rattle.std.specs.Prelude.{Bool, false, not, List, ◌↔◌, ◌≡◌, leb, ltb, eqb, length, get_or, set}
use Rattle.std.proofs.Math.Bool.{true, and-eq-true_iff}
use Rattle.std.proofs.lemmas.Bool.{false≢true}
use Rattle.std.proofs.Math.Logic.{⊎_elim}
use Rattle.std.proofs.Math.Path.{refl}
use Rattle.std.proofs.Math.ListN.{length-set}
use borrow.Author.Tests.{leb-true, leb-false, ltb-true, ltb-false, eqb-true, eqb-false, lt-ltb, not-true, not-false}
use Rattle.laws.specs.Ranges.{Between, every_of, every_at}
use Rattle.laws.proofs.Search.{first_range, first_passes, first_fails}
use Rattle.laws.specs.Search.{first_below}
use Rattle.laws.specs.Tests.{by_test, either}
use Rattle.limits.specs.Limits.{least_period, greatest_period, most_phases}
use Rattle.fields.specs.Bytes.{byte_at, number_at, byte_in, number_in}
use Rattle.fields.specs.Verdict.{ask_passed, Passed}
use Rattle.counts.specs.declared.Count.{Count}
use Rattle.junction.specs.declared.Junction.{Junction}
use Rattle.junction_file.specs.Reading.{Reading}
use Rattle.junction.specs.declared.Side.{Side}
use Rattle.junction.specs.declared.Zone.{Zone}
use Rattle.junction.specs.Layout.{planned_period, heading_in_range, radius_in_range, shares_in_range, car_in_range, car_of, tram_in_range, tram_of, pedestrian_in_range, walk_of, pedestrian_of}
use Rattle.junction.specs.Layout.{cyclist_in_range, cyclist_of, island_in_range, island_of, stream_in_range, kind_of, stream_of, zone_in_range, zone_of, count_in_range, count_of}
use Rattle.junction_places.specs.Blank.{no_stream, no_zone, no_count, blank}
use Rattle.junction_questions.specs.lemmas.Passed.{BodyPassed, field_passed}
use Rattle.junction_questions.specs.Questions.{in_order, in_range, within_limit, refers, zone_refers, car_refers, named_by, field_verdict}
use Rattle.junction_questions.specs.Questions.{in_phase, first_in_phase, phase_used, phase_follows, phases_right, car_at, first_car, lacks_count, first_lacking, counts_verdict, whole_verdict}
use Rattle.junction_places.specs.Places.{stream_at, count_at, zone_at, stream_numbered, numbered_at, numbered}
use Rattle.streams.specs.Kinds.{is_car}
use Rattle.junction_places.specs.Ranks.{newest_rank}
use Rattle.junction_file.specs.Chosen.{chosen}
use Rattle.junction_file.specs.Reading.{with_heading, with_stream, with_zone, with_count, with_field, after_field, read_field}
use Rattle.junction_file.specs.Taken.{PedestrianRanges, StreamInRange, SideRight, ZoneRight, CountRight, FieldsRight, UsedPhase, PhasesRight, HasCar, HasFlow}

-- question 5 of a heading
heading_ranged_lem : (b : List ℕ) → heading_in_range b ≡ true → Between least_period greatest_period (planned_period b)
unfolding heading_in_range planned_period byte_in
heading_ranged_lem b h = let facts = simp and-eq-true_iff at h in omega (arith, leb-true)

-- question 3: a field that is no heading comes after one
heading_before : (last tag : ℕ) → in_order last tag ≡ true → eqb tag 1 ≡ false → 0 < last
unfolding in_order
heading_before last tag e other =
    pos_of_ne-zero (λ (none : last ≡ 0). true≢false (sym (rw none at e) ∙ other))

-- question 5 of a stream: a body in range gives figures in range
car_ranges : (b : List ℕ) → car_in_range b ≡ true → StreamInRange (record { phase = byte_at b 1; kind = car_of b })
unfolding car_in_range car_of byte_in number_in radius_in_range shares_in_range
car_ranges b h =
    let facts = simp and-eq-true_iff at h in
    record {
      phase = omega (arith, leb-true);
      figures =
          record {
            amber = omega (arith, leb-true);
            radius =
                ⊎_elim (λ e. inl (eqb-true _ _ e)) (λ e. let within = simp and-eq-true_iff at e in inr (omega (arith, leb-true)))
                (either (eqb (number_at b 4) 0) _ facts.0.0.0.0.0.1);
            width = omega (arith, leb-true);
            rows = omega (arith, leb-true);
            gradient = omega (arith, leb-true);
            conditions = omega (arith, leb-true);
            shares = omega (arith, leb-true);
            turning = ⊎_elim (λ e. inl (eqb-true _ _ e)) (λ e. inr (eqb-true _ _ e)) (either (eqb (number_at b 4) 0) _ facts.1.1);
          };
    }

tram_ranges : (b : List ℕ) → tram_in_range b ≡ true → StreamInRange (record { phase = byte_at b 1; kind = tram_of b })
unfolding tram_in_range tram_of byte_in number_in
tram_ranges b h = let facts = simp and-eq-true_iff at h in omega (arith, leb-true)

walk_ranges : (b : List ℕ) → pedestrian_in_range b ≡ true → Between 1 most_phases (byte_at b 1) × PedestrianRanges (walk_of b)
unfolding pedestrian_in_range walk_of byte_in number_in
walk_ranges b h = let facts = simp and-eq-true_iff at h in omega (arith, leb-true)

pedestrian_ranges : (b : List ℕ) → pedestrian_in_range b ≡ true → StreamInRange (record { phase = byte_at b 1; kind = pedestrian_of b })
unfolding pedestrian_of
pedestrian_ranges b h = let walk = walk_ranges b h in record { phase = walk.0; figures = walk.1 }

cyclist_ranges : (b : List ℕ) → cyclist_in_range b ≡ true → StreamInRange (record { phase = byte_at b 1; kind = cyclist_of b })
unfolding cyclist_in_range cyclist_of byte_in
cyclist_ranges b h = let facts = simp and-eq-true_iff at h in omega (arith, leb-true)

island_ranges : (b : List ℕ) → island_in_range b ≡ true → StreamInRange (record { phase = byte_at b 1; kind = island_of b })
unfolding island_in_range island_of number_in
island_ranges b h =
    let facts = simp and-eq-true_iff at h in
    let walk = walk_ranges b facts.0.0.0.0 in
    record {
      phase = walk.0;
      figures =
          record {
            walk = walk.1;
            wider = omega (arith, leb-true);
            island = omega (arith, leb-true);
            packet = omega (arith, leb-true);
            fives = eqb-true _ _ facts.1;
          };
    }

stream_ranges : (b : List ℕ) → stream_in_range b ≡ true → StreamInRange (stream_of b)
unfolding stream_in_range stream_of kind_of
stream_ranges b h =
    by_test (eqb (byte_at b 0) 1) (λ e. rw e (car_ranges b (rw e at h)))
    (λ n1. by_test (eqb (byte_at b 0) 2) (λ e. rw (n1, e) (tram_ranges b (rw (n1, e) at h)))
    (λ n2. by_test (eqb (byte_at b 0) 3) (λ e. rw (n1, n2, e) (pedestrian_ranges b (rw (n1, n2, e) at h)))
    (λ n3. by_test (eqb (byte_at b 0) 4) (λ e. rw (n1, n2, n3, e) (cyclist_ranges b (rw (n1, n2, n3, e) at h)))
    (λ n4. by_test (eqb (byte_at b 0) 5) (λ e. rw (n1, n2, n3, n4, e) (island_ranges b (rw (n1, n2, n3, n4, e) at h)))
    (λ n5. absurd (false≢true (rw (n1, n2, n3, n4, n5) at h)))))))

-- questions 5 and 7 of a zone and of a count
zone_right : (b : List ℕ) (j : Junction) → zone_in_range b ≡ true
    → zone_refers j.held.streams (byte_at b 0) (byte_at b 1) (named_by j b 0) (named_by j b 1) ≡ true → ZoneRight j (zone_of b)
unfolding zone_in_range zone_of number_in zone_refers numbered
zone_right b j h e =
    let ranged = simp and-eq-true_iff at h in
    let facts = simp and-eq-true_iff at e in
    record {
      a = omega (arith, leb-true);
      b = omega (arith, leb-true);
      below = omega (arith, ltb-true);
      apart = eqb-false _ _ (not-true _ facts.1);
    }

count_right : (b : List ℕ) (j : Junction) → count_in_range b ≡ true → car_refers j.held.streams (byte_at b 0) (named_by j b 0) ≡ true → CountRight j (count_of b)
unfolding count_in_range count_of number_in byte_in car_refers numbered
count_right b j h e =
    let ranged = simp and-eq-true_iff at h in
    let facts = simp and-eq-true_iff at e in
    record { existing = omega (arith, leb-true); car = facts.1; flow = omega (arith, leb-true); period = omega (arith, leb-true) }

-- what is right of a zone or a count stays so where the streams that there are stay as they are
record Grown (j k : Junction) : Type 0 where
  more : j.held.streams ≤ k.held.streams
  same : (i : ℕ) → i < j.held.streams → stream_at k i ≡ stream_at j i

module _ (j k : Junction) (g : Grown j k) where
  numbered_same : (n : ℕ) → Between 1 j.held.streams n → stream_numbered k n ≡ stream_numbered j n
  numbered_same n h = numbered_at k n h.0 ∙ g.same (n - 1) (omega arith) ∙ sym (numbered_at j n h.0)

  side_grown : (x : Side) → SideRight j x → SideRight k x
  side_grown x r = omega arith

  zone_grown : (z : Zone) → ZoneRight j z → ZoneRight k z
  zone_grown z r =
      record {
        a = side_grown z.a r.a;
        b = side_grown z.b r.b;
        below = r.below;
        apart = rw (numbered_same z.a.stream r.a.existing, numbered_same z.b.stream r.b.existing) r.apart;
      }

  count_grown : (c : Count) → CountRight j c → CountRight k c
  count_grown c r =
      record {
        existing = omega arith;
        car = rw (numbered_same c.stream r.existing) r.car;
        flow = r.flow;
        period = r.period;
      }

-- where one more is set behind the first n, what holds of those and of it holds of all
places : {A : Type 0} (P : A → Type 0) (l : List A) (n : ℕ) (x d : A) → n < length l → ((i : ℕ) → i < n → P (get_or l i d)) → P x → (i : ℕ) → i < n + 1
    → P (get_or (set l n x) i d)
places P l n x d room old new i h =
    by_test (eqb i n) (λ e. let same : i ≡ n = eqb-true _ _ e in rw (same, get_or-set_same l n x d room) new)
    (λ e. let differ = eqb-false _ _ e in rw (get_or-set_other l n i x d differ) (old i (omega arith)))

module _ (b : List ℕ) (j : Junction) (r : FieldsRight j) where
  heading_grown : Grown j (with_heading b j)
  unfolding with_heading stream_at
  heading_grown = record { more = omega arith; same = λ i h. refl }

  with_heading_right : heading_in_range b ≡ true → FieldsRight (with_heading b j)
  unfolding with_heading stream_at count_at zone_at
  with_heading_right h =
      record {
        stream_places = r.stream_places;
        zone_places = r.zone_places;
        count_places = r.count_places;
        few_streams = r.few_streams;
        few_zones = r.few_zones;
        few_counts = r.few_counts;
        headed = λ some. omega arith;
        period = λ read. heading_ranged_lem b h;
        streams = r.streams;
        zones = λ i h. zone_grown j (with_heading b j) heading_grown _ (r.zones i h);
        counts = λ i h. count_grown j (with_heading b j) heading_grown _ (r.counts i h);
      }

  stream_grown : Grown j (with_stream b j)
  unfolding with_stream stream_at
  stream_grown =
      record {
        more = omega arith;
        same = λ i h. rw (get_or-set_other j.streams j.held.streams i (stream_of b) no_stream (omega arith));
      }

  with_stream_right : 0 < j.held.last → stream_in_range b ≡ true → j.held.streams < 16 → FieldsRight (with_stream b j)
  unfolding with_stream stream_at count_at zone_at
  with_stream_right headed h room =
      record {
        stream_places = rw length-set r.stream_places;
        zone_places = r.zone_places;
        count_places = r.count_places;
        few_streams = omega arith;
        few_zones = r.few_zones;
        few_counts = r.few_counts;
        headed = λ some. omega arith;
        period = λ read. r.period headed;
        streams = λ i l.
            rw (lt-ltb i 16 (omega arith))
            (places StreamInRange j.streams j.held.streams (stream_of b) no_stream (omega (arith, r.stream_places))
            (λ k m. rw (lt-ltb k 16 (omega arith)) at (r.streams k m)) (stream_ranges b h) i l);
        zones = λ i h. zone_grown j (with_stream b j) stream_grown _ (r.zones i h);
        counts = λ i h. count_grown j (with_stream b j) stream_grown _ (r.counts i h);
      }

  zones_grown : Grown j (with_zone b j)
  unfolding with_zone stream_at
  zones_grown = record { more = omega arith; same = λ i h. refl }

  with_zone_right : 0 < j.held.last → zone_in_range b ≡ true → j.held.zones < 64
      → zone_refers j.held.streams (byte_at b 0) (byte_at b 1) (named_by j b 0) (named_by j b 1) ≡ true → FieldsRight (with_zone b j)
  unfolding with_zone stream_at count_at zone_at
  with_zone_right headed h room e =
      let grown = zone_grown j (with_zone b j) zones_grown in
      record {
        stream_places = r.stream_places;
        zone_places = rw length-set r.zone_places;
        count_places = r.count_places;
        few_streams = r.few_streams;
        few_zones = omega arith;
        few_counts = r.few_counts;
        headed = λ some. omega arith;
        period = λ read. r.period headed;
        streams = r.streams;
        zones = λ i l.
            rw (lt-ltb i 64 (omega arith))
            (places (ZoneRight (with_zone b j)) j.zones j.held.zones (zone_of b) no_zone (omega (arith, r.zone_places))
            (λ k m. grown _ (rw (lt-ltb k 64 (omega arith)) at (r.zones k m))) (grown _ (zone_right b j h e)) i l);
        counts = λ i h. count_grown j (with_zone b j) zones_grown _ (r.counts i h);
      }

  counts_grown : Grown j (with_count b j)
  unfolding with_count stream_at
  counts_grown = record { more = omega arith; same = λ i h. refl }

  with_count_right : 0 < j.held.last → count_in_range b ≡ true → j.held.counts < 128 → car_refers j.held.streams (byte_at b 0) (named_by j b 0) ≡ true → FieldsRight (with_count b j)
  unfolding with_count stream_at count_at zone_at
  with_count_right headed h room e =
      let grown = count_grown j (with_count b j) counts_grown in
      record {
        stream_places = r.stream_places;
        zone_places = r.zone_places;
        count_places = rw length-set r.count_places;
        few_streams = r.few_streams;
        few_zones = r.few_zones;
        few_counts = omega arith;
        headed = λ some. omega arith;
        period = λ read. r.period headed;
        streams = r.streams;
        zones = λ i h. zone_grown j (with_count b j) counts_grown _ (r.zones i h);
        counts = λ i l.
            rw (lt-ltb i 128 (omega arith))
            (places (CountRight (with_count b j)) j.counts j.held.counts (count_of b) no_count (omega (arith, r.count_places))
            (λ k m. grown _ (rw (lt-ltb k 128 (omega arith)) at (r.counts k m))) (grown _ (count_right b j h e)) i l);
      }

pub with_field_right : (tag : ℕ) (b : List ℕ) (j : Junction) → BodyPassed tag b j → FieldsRight j → FieldsRight (with_field tag b j)
unfolding with_field in_range within_limit refers
with_field_right tag b j p r =
    by_test (eqb tag 1) (λ e. rw e (with_heading_right b j r (rw e at p.ranged)))
    (λ n1. let headed = heading_before _ tag p.ordered n1 in
    by_test (eqb tag 2)
    (λ e. rw (n1, e) (with_stream_right b j r headed (rw (n1, e) at p.ranged) (ltb-true _ _ (rw (n1, e) at p.limited))))
    (λ n2. by_test (eqb tag 3)
    (λ e. rw (n1, n2, e)
    (with_zone_right b j r headed (rw (n1, n2, e) at p.ranged) (ltb-true _ _ (rw (n1, n2, e) at p.limited))
    (rw (n1, n2, e) at p.referring)))
    (λ n3. rw (n1, n2, n3)
    (with_count_right b j r headed (rw (n1, n2, n3) at p.ranged) (ltb-true _ _ (rw (n1, n2, n3) at p.limited))
    (rw (n1, n2, n3) at p.referring)))))

pub blank_right : FieldsRight blank
blank_right =
    record {
      stream_places = refl;
      zone_places = refl;
      count_places = refl;
      few_streams = omega arith;
      few_zones = omega arith;
      few_counts = omega arith;
      headed = λ some. absurd (omega arith);
      period = λ read. absurd (omega arith);
      streams = λ i h. absurd (omega arith);
      zones = λ i h. absurd (omega arith);
      counts = λ i h. absurd (omega arith);
    }

-- an answer that refuses nothing has a junction with a property, and it passes the questions of the whole
abbrev pub Reached : (Junction → Type 0) → ℕ → Reading → Type 0
Reached P size r = r.verdict ≡ Passed → P r.junction × (whole_verdict size r.junction ≡ Passed)

module _ (P : Junction → Type 0) (step : (tag : ℕ) (b : List ℕ) (j : Junction) → BodyPassed tag b j → P j → P (with_field tag b j)) where
  pub field_reached : (s : List ℕ) (at : ℕ) (j : Junction) → P j → field_verdict s at j ≡ Passed → P (read_field s at j).junction
  unfolding read_field after_field
  field_reached s at j p e = rw e (step _ _ j (field_passed s at j e).1 p)

module _ (j : Junction) where
  pub used_phase : (p : ℕ) → (phase_used j p ≡ true) ↔ UsedPhase j p
  unfolding phase_used first_in_phase in_phase
  used_phase p = (
    λ e. let low = ltb-true _ _ e in
        record {
          place = first_in_phase j p;
          held = low;
          phase = eqb-true _ _ (first_passes (in_phase j p) j.held.streams 0 zero-le low);
        },
    λ u. by_test (phase_used j p) (λ e. e)
        (λ e. let late : j.held.streams ≤ first_in_phase j p = ltb-false _ _ e in
        let none = first_fails (in_phase j p) j.held.streams 0 u.place zero-le (omega arith) in absurd (eqb-false _ _ none u.phase)),
  )

  module _ (r : FieldsRight j) (h : phases_right j ≡ true) where
    -- question 8: phases 1 to some 2 or more all used?
    phase_before : (p : ℕ) → 3 ≤ p → p ≤ 6 → phase_used j p ≡ true → phase_used j (p - 1) ≡ true
    unfolding phases_right phase_follows
    phase_before p low high u =
        let facts = simp and-eq-true_iff at h in
        let all : every_of (phase_follows j) 4 3 ≡ true = simp (facts.1, facts.0.1, facts.0.0.1, facts.0.0.0.1) in
        ⊎_elim (λ e. absurd (true≢false (sym u ∙ not-true _ e))) (λ e. e)
        (either (not (phase_used j p)) _ (every_at (phase_follows j) 4 3 all p low (omega arith)))

    phases_down : (k f : ℕ) → 2 ≤ f → f + k ≤ 6 → phase_used j (f + k) ≡ true → phase_used j f ≡ true
    phases_down zero f low high u = rw add-zero at u
    phases_down (suc k) f low high u =
        let one : f + suc k - 1 ≡ f + k = omega arith in
        phases_down k f low (omega arith) (rw one at (phase_before (f + suc k) (omega arith) high u))

    unused : ℕ → Bool
    unused p = not (phase_used j (p + 1))

    -- the last phase: no stream is in the one after it
    last_phase : ℕ
    last_phase = first_below unused 6 2

    last_range : Between 2 6 last_phase
    unfolding last_phase
    last_range = first_range unused 6 2 (omega arith)

    phase_to_last : (p : ℕ) → UsedPhase j p → Between 1 last_phase p
    unfolding unused last_phase
    phase_to_last p u =
        let six : Between 1 6 p = rw u.phase at (r.streams u.place u.held).phase in
        by_test (leb p last_phase) (λ e. (six.0, leb-true _ _ e))
        (λ e. let past : last_phase < p = leb-false _ _ e in
        let there : last_phase + 1 + (p - (last_phase + 1)) ≡ p = omega arith in
        let next = phases_down (p - (last_phase + 1)) (last_phase + 1) (omega (arith, last_range)) (omega arith) (rw there ((used_phase p).1 u)) in
        absurd (true≢false (sym next ∙ not-true _ (first_passes unused 6 2 (omega arith) (omega arith)))))

    phase_from_first : (p : ℕ) → Between 1 last_phase p → UsedPhase j p
    unfolding unused last_phase phases_right
    phase_from_first p w =
        let facts = simp and-eq-true_iff at h in
        (used_phase p).0
        (by_test (eqb p 1) (λ e. rw (eqb-true p 1 e) facts.0.0.0.0.0)
        (λ n1. by_test (eqb p 2) (λ e. rw (eqb-true p 2 e) facts.0.0.0.0.1)
        (λ n2. let differ1 = eqb-false p 1 n1 in
        let differ2 = eqb-false p 2 n2 in
        let there : p - 1 + 1 ≡ p = omega arith in
        rw there at (not-false (phase_used j (p - 1 + 1)) (first_fails unused 6 2 (p - 1) (omega arith) (omega arith))))))

    pub phases_right_lem : PhasesRight j
    phases_right_lem = record { last = last_phase; two_or_more = last_range; used = λ p. (phase_to_last p, phase_from_first p) }

-- question 8: a car present?
pub whole_car : (j : Junction) → ltb (first_car j) j.held.streams ≡ true → HasCar j
unfolding first_car car_at
whole_car j e =
    let low = ltb-true _ _ e in
    record { place = first_car j; held = low; car = first_passes (car_at j) j.held.streams 0 zero-le low }

-- question 9: has each car a usable count in the period?
pub car_flow : (j : Junction) → counts_verdict j ≡ Passed → (i : ℕ) → i < j.held.streams → is_car (stream_at j i).kind ≡ true → HasFlow j (i + 1)
unfolding counts_verdict first_lacking lacks_count car_at
car_flow j v i h car =
    let all : j.held.streams ≤ first_lacking j = leb-true _ _ (ask_passed (leb j.held.streams (first_lacking j)) 9 _ _ v).0 in
    let has : (newest_rank j (i + 1) ≡ 0) → ⊥ = eqb-false _ _ (rw car at (first_fails (lacks_count j) j.held.streams 0 i zero-le (omega arith))) in
    let counted = pos_of_ne-zero has in
    let found = chosen j (i + 1) counted in
    record { counted = counted; flow = omega (arith, found.listed, found.with_flow) }
