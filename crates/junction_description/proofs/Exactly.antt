-- A junction file is taken exactly where it is, field by field, what documents 01 and 02 describe.
use Prim.Native.Nat.{ℕ, zero, suc, ◌+◌, ◌-◌, ◌≤◌, ◌<◌, zero-le}
use Rattle.std.proofs.Math.Numerals.{add-one}
use native.Mathlib.Omega.{arith}
use Rattle.std.proofs.Math.Bool.{true, false, true≢false}
use Rattle.std.specs.Prelude.{List, ◌↔◌, ◌≡◌, ltb}
use Rattle.std.proofs.Common.{⊎_elim, ◌∙◌}
use Rattle.std.proofs.Math.Path.{refl, sym, ap, subst}
use Rattle.std.proofs.Math.Dec.{leb, eqb}
use Rattle.std.proofs.Math.ListN.{length}
use borrow.Author.Tests.{eq-eqb, ne_eqb, lt-ltb, ltb-false, le-leb, leb-false}
use Rattle.laws.specs.Ranges.{Between}
use Rattle.laws.proofs.Search.{first_passes, first_fails}
use Rattle.laws.specs.Tests.{by_test}
use Rattle.limits.specs.Limits.{most_streams, most_zones, most_counts}
use Rattle.fields.specs.Bytes.{byte_at, fits_within}
use Rattle.fields.specs.Verdict.{Passed}
use Rattle.junction.specs.declared.Junction.{Junction}
use Rattle.junction.specs.Layout.{design_day, planned_period, count_in_range}
use Rattle.junction_places.specs.Blank.{blank}
use Rattle.junction_questions.specs.lemmas.Passed.{BodyPassed}
use Rattle.junction_questions.specs.Questions.{in_order, length_right, in_range, within_limit, refers, count_refers}
use Rattle.junction_questions.specs.Questions.{phase_used, phase_follows, phases_right, car_at, first_car, lacks_count, first_lacking, counts_verdict, whole, whole_verdict}
use Rattle.junction_places.specs.Places.{stream_at}
use Rattle.streams.specs.Kinds.{is_car}
use Rattle.junction_places.specs.Ranks.{newest_rank}
use Rattle.junction_file.specs.Chosen.{UsableCount, chosen, none_usable}
use Rattle.junction_file.specs.Reading.{with_heading, with_stream, with_zone, with_count, with_field, at_end, reading}
use Rattle.junction_file.proofs.TakenFile.{taken}
use Rattle.junction_file.specs.lemmas.Fields.{used_phase}
use Rattle.junction_description.specs.lemmas.Described.{Part, Some}
use Rattle.junction_description.proofs.lemmas.Described.{part_stream, part_zone, part_count, part_heading, parts}
use Rattle.junction_description.specs.File.{place, body, ZoneField, CountField, UsableFor, JunctionFile}
use Rattle.junction_description.specs.lemmas.Holds.{Holds, zone_refers_lem, count_refers_lem}
use Rattle.junction_description.specs.lemmas.Steps.{Passes, begin, taken_read, read_all}
use Rattle.junction_description.specs.Exactly.{car_at_lem, used_at, count_stream, count_day_lem, count_period, flow_ranged, period_ranged, not_blank, car_there, Upto, passing}

-- what a junction says of its streams and counts, by bytes; streams from 1 on, places from 0 on
module _ (s : List ℕ) (j : Junction) (streams zones counts : ℕ) (r : Holds s j streams zones counts) where
  -- a usable count of stream n
  pub usable_there : (n i : ℕ) → UsableCount j n i → (i < counts) × UsableFor s n (streams + zones + i + 1)
  unfolding design_day planned_period
  usable_there n i u =
      let low : i < counts = omega (arith, u.held, r.counts_held) in
      let c = u.usable in (
        low,
        record {
          of = sym (count_stream s j streams zones counts r i low) ∙ c.of_stream;
          not_after = omega (arith, count_day_lem s j streams zones counts r i low, c.not_after, r.day);
          in_period = sym (count_period s j streams zones counts r i low) ∙ c.in_period ∙ r.period;
        },
      )

  pub there_usable : (n i : ℕ) (low : i < counts) → count_in_range (body s (streams + zones + i + 1)) ≡ true → UsableFor s n (streams + zones + i + 1) → UsableCount j n i
  unfolding design_day planned_period
  there_usable n i low ranged u =
      record {
        held = omega (arith, r.counts_held);
        usable =
            record {
              of_stream = count_stream s j streams zones counts r i low ∙ u.of;
              not_after = omega (arith, count_day_lem s j streams zones counts r i low, u.not_after, r.day);
              in_period = count_period s j streams zones counts r i low ∙ u.in_period ∙ sym r.period;
              period = period_ranged s j streams zones counts r i low ranged;
              flow = flow_ranged s j streams zones counts r i low ranged;
            };
      }

-- a file that is taken is what the paper describes
module _ (s : List ℕ) (v : (reading s).verdict ≡ Passed) where
  module _ (n z c : ℕ) (h : Holds s (reading s).junction n z c) where
    counted_there : (m : ℕ) → Between 1 n m → byte_at (body s m) 0 ≡ 1 → (k : ℕ) × Between 1 c k × UsableFor s m (n + z + k)
    counted_there m w one =
        let j = (reading s).junction in
        let flow = (taken s v).flows (m - 1) (omega (arith, h.streams_held)) ((car_at_lem s j n z c h m w).1 one) in
        let there : m - 1 + 1 ≡ m = omega arith in
        let found = chosen j m (rw there at flow.counted) in
        let usable = usable_there s j n z c h m found.place found.listed in
        let at : n + z + (found.place + 1) ≡ n + z + found.place + 1 = omega arith in
        (found.place + 1, omega (arith, usable.0), rw at usable.1)

  file_of : (n z c : ℕ) → (taken_read s v).fields ≡ n + z + c + 1 → Part s (reading s).junction n z c → JunctionFile s n z c
  file_of n z c at p =
      let t = taken s v in
      let h = p.holds in
      let j = (reading s).junction in
      let last = n + z + c in
      let number : 1 + n + z + c ≡ suc last = omega arith in
      let inside : place s (suc last) ≤ length s = unfold place in (fits_within s (place s last) (p.within last (omega arith))).1 in
      let end : length s ≤ place s (suc last) = rw (at, add-one last) at (taken_read s v).end in
      record {
        size = (taken_read s v).size;
        few_streams = h.few_streams;
        few_zones = h.few_zones;
        few_counts = h.few_counts;
        within = λ i l. p.within i (omega arith);
        ends = rw number (omega arith);
        heading = p.heading;
        heading_long = p.heading_long;
        heading_ranged = p.heading_ranged;
        stream_fields = p.stream_fields;
        zone_fields = p.zone_fields;
        count_fields = p.count_fields;
        last = t.phases.last;
        two_or_more = t.phases.two_or_more;
        phases = λ f. (λ u. (t.phases.used f).0 ((used_at s j n z c h f).1 u), λ w. (used_at s j n z c h f).0 ((t.phases.used f).1 w));
        car = car_there s v n z c h;
        counted = counted_there n z c h;
      }

  -- all of its fields, by their sorts
  pub taken_part : Some s (taken_read s v).fields (reading s).junction
  taken_part =
      ⊎_elim (λ (none : ((taken_read s v).fields ≡ 0) × ((reading s).junction ≡ blank)). absurd (not_blank s v none.1))
      (λ (q : Some s (taken_read s v).fields (reading s).junction). q)
      (parts s (taken_read s v).passes)

  pub taken_described : (n z c : ℕ) × JunctionFile s n z c
  taken_described = let q = taken_part in (q.0, q.1, q.2, file_of q.0 q.1 q.2 q.3 q.4)

-- a file that is what the paper describes is taken
module _ (s : List ℕ) where
  module _ (n z c : ℕ) (f : JunctionFile s n z c) where
    to_heading : (j : Junction) × Passes s 1 j × Part s j 0 0 0
    unfolding with_field in_order length_right in_range within_limit refers
    to_heading =
        let one = f.heading in
        let fit = f.within 0 (omega arith) in
        let b : BodyPassed 1 (body s 0) blank =
        record { ordered = refl; long = eq-eqb _ _ f.heading_long; ranged = f.heading_ranged; limited = refl; referring = refl } in
        (with_heading (body s 0) blank, rw one at (passing s 0 blank begin fit (rw one b)), part_heading s fit one f.heading_long f.heading_ranged)

    -- after the heading a tag from 2 to 4 that is not below the last is in its order
    in_order_lem : (j : Junction) (t : ℕ) → 1 ≤ j.held.last → Between 2 4 t → j.held.last ≤ t → in_order j.held.last t ≡ true
    unfolding in_order
    in_order_lem j t some w more =
        let known : eqb j.held.last 0 ≡ false = ne_eqb _ _ (λ (e : j.held.last ≡ 0). omega arith) in
        simp (known, le-leb 2 t w.0, le-leb t 4 w.1, le-leb _ t more)

    stream_step : (k : ℕ) → k < n → (j : Junction) → Passes s (k + 1) j → Part s j k 0 0
        → (x : Junction) × Passes s (k + 1 + 1) x × Part s x (k + 1) 0 0
    unfolding with_field length_right in_range within_limit refers
    stream_step k low j p r =
        let i = k + 1 in
        let at = f.stream_fields i (omega arith) in
        let fit = f.within i (omega arith) in
        let few = f.few_streams in
        let h = r.holds in
        let last = h.at_streams refl refl in
        let b : BodyPassed 2 (body s i) j =
        record {
          ordered = in_order_lem j 2 h.some.0 (omega arith) last;
          long = at.long;
          ranged = at.ranged;
          limited = lt-ltb j.held.streams most_streams (omega (arith, h.streams_held));
          referring = refl;
        } in
        let q : Passes s (suc i) (with_stream (body s i) j) = rw at.tagged at (passing s i j p fit (rw at.tagged b)) in
        (with_stream (body s i) j, rw (add-one i) q, part_stream s j k r fit (omega arith) at)

    zone_step : (k : ℕ) → k < z → (j : Junction) → Passes s (n + k + 1) j → Part s j n k 0
        → (x : Junction) × Passes s (n + k + 1 + 1) x × Part s x n (k + 1) 0
    unfolding with_field length_right in_range within_limit refers
    zone_step k low j p r =
        let i = n + k + 1 in
        let place_is : n + (k + 1) ≡ i = omega arith in
        let at : ZoneField s n i = rw place_is at (f.zone_fields (k + 1) (omega arith)) in
        let fit = f.within i (omega arith) in
        let few = f.few_zones in
        let h = r.holds in
        let last = h.at_zones refl in
        let b : BodyPassed 3 (body s i) j =
        record {
          ordered = in_order_lem j 3 h.some.0 (omega arith) last;
          long = eq-eqb _ _ at.long;
          ranged = at.ranged;
          limited = lt-ltb j.held.zones most_zones (omega (arith, h.zones_held));
          referring = (zone_refers_lem s j n k 0 h (byte_at (body s i) 0) (byte_at (body s i) 1)).1 (at.a, at.b, at.below, at.apart);
        } in
        let q : Passes s (suc i) (with_zone (body s i) j) = rw at.tagged at (passing s i j p fit (rw at.tagged b)) in
        (with_zone (body s i) j, rw (add-one i) q, part_zone s j n k r fit (omega arith) at)

    count_step : (k : ℕ) → k < c → (j : Junction) → Passes s (n + z + k + 1) j → Part s j n z k
        → (x : Junction) × Passes s (n + z + k + 1 + 1) x × Part s x n z (k + 1)
    unfolding with_field length_right in_range within_limit refers count_refers
    count_step k low j p r =
        let i = n + z + k + 1 in
        let place_is : n + z + (k + 1) ≡ i = omega arith in
        let at : CountField s n i = rw place_is at (f.count_fields (k + 1) (omega arith)) in
        let fit = f.within i (omega arith) in
        let few = f.few_counts in
        let h = r.holds in
        let last = h.some.1 in
        let b : BodyPassed 4 (body s i) j =
        record {
          ordered = in_order_lem j 4 h.some.0 (omega arith) last;
          long = eq-eqb _ _ at.long;
          ranged = at.ranged;
          limited = lt-ltb j.held.counts most_counts (omega (arith, h.counts_held));
          referring = (count_refers_lem s j n z k h (byte_at (body s i) 0)).1 (at.existing, at.car);
        } in
        let q : Passes s (suc i) (with_count (body s i) j) = rw at.tagged at (passing s i j p fit (rw at.tagged b)) in
        (with_count (body s i) j, rw (add-one i) q, part_count s j n z k r fit (omega arith) at)

    stream_upto : (k : ℕ) → suc k ≤ n → Upto s k 0 0 → Upto s (suc k) 0 0
    stream_upto k h u =
        let (x, p, r) = stream_step k h u.junction (subst (λ i. Passes s i u.junction) (omega arith) u.passes) u.part in
        record { junction = x; passes = subst (λ i. Passes s i x) (omega arith) p; part = subst (λ m. Part s x m 0 0) (add-one k) r }

    zone_upto : (k : ℕ) → suc k ≤ z → Upto s n k 0 → Upto s n (suc k) 0
    zone_upto k h u =
        let (x, p, r) = zone_step k h u.junction (subst (λ i. Passes s i u.junction) (omega arith) u.passes) u.part in
        record { junction = x; passes = subst (λ i. Passes s i x) (omega arith) p; part = subst (λ m. Part s x n m 0) (add-one k) r }

    count_upto : (k : ℕ) → suc k ≤ c → Upto s n z k → Upto s n z (suc k)
    count_upto k h u =
        let (x, p, r) = count_step k h u.junction u.passes u.part in
        record { junction = x; passes = subst (λ i. Passes s i x) (omega arith) p; part = subst (λ m. Part s x n z m) (add-one k) r }

    begins : Upto s 0 0 0
    begins = let (x, p, r) = to_heading in record { junction = x; passes = p; part = r }

    to_streams : (k : ℕ) → k ≤ n → Upto s k 0 0
    to_streams zero h = begins
    to_streams (suc k) h = stream_upto k h (to_streams k (omega arith))

    to_zones : (k : ℕ) → k ≤ z → Upto s n k 0
    to_zones zero h = to_streams n (omega arith)
    to_zones (suc k) h = zone_upto k h (to_zones k (omega arith))

    to_counts : (k : ℕ) → k ≤ c → Upto s n z k
    to_counts zero h = to_zones z (omega arith)
    to_counts (suc k) h = count_upto k h (to_counts k (omega arith))

    -- the questions of the whole
    module _ (j : Junction) (r : Part s j n z c) where
      phase_used_lem : (p : ℕ) → Between 1 f.last p → phase_used j p ≡ true
      phase_used_lem p w = (used_phase j p).1 ((used_at s j n z c r.holds p).1 ((f.phases p).1 w))

      phase_follows_lem : (p : ℕ) → 3 ≤ p → phase_follows j p ≡ true
      unfolding phase_follows
      phase_follows_lem p low =
          by_test (phase_used j p)
          (λ e. let w = (f.phases p).0 ((used_at s j n z c r.holds p).0 ((used_phase j p).0 e)) in rw (e, phase_used_lem (p - 1) (omega arith)))
          (λ e. rw e)

      phases_hold : phases_right j ≡ true
      unfolding phases_right
      phases_hold =
          let two = f.two_or_more in
          simp (phase_used_lem 1 (omega arith), phase_used_lem 2 (omega arith), phase_follows_lem 3 (omega arith), phase_follows_lem 4 (omega arith), phase_follows_lem 5 (omega arith), phase_follows_lem 6 (omega arith))

      car_held : ltb (first_car j) j.held.streams ≡ true
      unfolding first_car car_at
      car_held =
          let h = r.holds in
          let (k, w, one) = f.car in
          by_test (ltb (first_car j) j.held.streams) (λ e. e)
          (λ e. let late : j.held.streams ≤ first_car j = ltb-false _ _ e in
          let none = first_fails (car_at j) j.held.streams 0 (k - 1) zero-le (omega (arith, h.streams_held)) in
          absurd (true≢false (sym ((car_at_lem s j n z c h k w).1 one) ∙ none)))

      none_lacks : (i : ℕ) → i < n → lacks_count j i ≡ false
      unfolding lacks_count car_at
      none_lacks i low =
          let h = r.holds in
          let there : i + 1 - 1 ≡ i = omega arith in
          by_test (is_car (stream_at j i).kind)
          (λ e. let one : byte_at (body s (i + 1)) 0 ≡ 1 = (car_at_lem s j n z c h (i + 1) (omega arith)).0 (rw there e) in
          let (k, w, u) = f.counted (i + 1) (omega arith) one in
          let at : n + z + (k - 1) + 1 ≡ n + z + k = omega arith in
          let ranged = (f.count_fields k w).ranged in
          let usable : UsableCount j (i + 1) (k - 1) = there_usable s j n z c h (i + 1) (k - 1) (omega arith) (rw at ranged) (rw at u) in
          let some : eqb (newest_rank j (i + 1)) 0 ≡ false = ne_eqb _ _ (λ none. (none_usable j (i + 1)).0 none (k - 1) usable) in
          rw (e, some))
          (λ e. rw e)

      whole_passes : whole_verdict (length s) j ≡ Passed
      unfolding whole_verdict whole counts_verdict first_lacking
      whole_passes =
          let h = r.holds in
          let known : eqb j.held.last 0 ≡ false = ne_eqb _ _ (λ (e : j.held.last ≡ 0). omega (arith, h.some)) in
          let all : leb j.held.streams (first_lacking j) ≡ true =
          by_test (leb j.held.streams (first_lacking j)) (λ e. e)
          (λ e. let low = leb-false j.held.streams (first_lacking j) e in
          let lacks = first_passes (lacks_count j) j.held.streams 0 zero-le low in
          absurd (true≢false (sym lacks ∙ none_lacks (first_lacking j) (omega (arith, h.streams_held))))) in
          simp (known, phases_hold, car_held, all)

    all_fields : Upto s n z c
    all_fields = to_counts c (omega arith)

    read_through : reading s ≡ at_end (length s) all_fields.junction
    read_through =
        let number : n + z + c + 1 ≡ 1 + n + z + c = omega arith in
        read_all s f.size (n + z + c + 1) all_fields.junction all_fields.passes (rw number (omega (arith, f.ends)))

    described_taken : (reading s).verdict ≡ Passed
    unfolding at_end
    described_taken = ap (λ r. r.verdict) read_through ∙ whole_passes all_fields.junction all_fields.part

    -- its junction is made of as many streams, zones and counts
    pub described_part : Part s (reading s).junction n z c
    unfolding at_end
    described_part = subst (λ j. Part s j n z c) (sym (ap (λ r. r.junction) read_through)) all_fields.part

-- nothing is refused exactly where the file is what the paper describes
pub taken_exactly : (s : List ℕ) → ((reading s).verdict ≡ Passed) ↔ ((streams zones counts : ℕ) × JunctionFile s streams zones counts)
taken_exactly s = (λ v. taken_described s v, λ f. described_taken s f.0 f.1 f.2 f.3)
