-- In all but its need a crossing with an island counts as a pedestrian (document 02, 2026-01). A junction is compared with the same junction
-- drawn without islands, each kind 5 as kind 3 with the figures that both have: entries, rules 16 and 17, questions 8 and 9, the phases with their
-- cars, y and M, and the needs of all other streams are the same.
use Prim.Native.Nat.{ℕ, ◌+◌, ◌-◌, ◌≤◌, min}
use Rattle.std.proofs.Common.{le_refl, true≢false, sym, ◌∙◌}
use Rattle.std.proofs.Math.Nat.{le-max_left}
use Rattle.std.specs.Prelude.{true, false, map, ◌≡◌, refl, leb, eqb}
use Rattle.std.proofs.Math.Bool.{and-false}
use Rattle.std.proofs.Math.Path.{ap}
use Rattle.std.proofs.Math.Dec.{ltb}
use Rattle.std.proofs.Math.ListN.{get_or-map}
use Rattle.laws.proofs.Largest.{largest_same}
use Rattle.laws.proofs.Search.{first_same}
use Rattle.limits.specs.Limits.{most_streams, most_phases}
use Rattle.laws.specs.Ranges.{Between}
use Rattle.laws.specs.Tests.{by_test}
use Rattle.streams.specs.declared.IslandFigures.{IslandFigures}
use Rattle.streams.specs.declared.Kind.{Kind}
use Rattle.streams.specs.declared.Kind.TheVariants.{Car, Tram, Pedestrian, Cyclist, Island}
use Rattle.streams.specs.declared.Stream.{Stream}
use Rattle.streams.specs.Kinds.{is_car, is_pedestrian_or_tram}
use Rattle.times.specs.Entry.{entry}
use Rattle.times.specs.Times.{leaving, reaching}
use Rattle.flows.specs.Needs.{island_need, kind_need, need_at}
use Rattle.junction.specs.declared.Junction.{Junction}
use Rattle.junction_places.specs.Blank.{no_stream}
use Rattle.junction_places.specs.Places.{stream_at, count_at, stream_numbered, zone_at, zone_numbered, numbered}
use Rattle.junction_places.specs.Ranks.{newest_rank, rank_at}
use Rattle.junction_questions.specs.Questions.{car_refers, count_refers, in_phase, first_in_phase, phase_used, phase_follows, phases_right, car_at, first_car, lacks_count, first_lacking, counts_verdict, whole, whole_verdict}
use Rattle.junction_figures.specs.Figures.{zone_entry, pair_entry, stream_need, kind_saturation, stream_flow, stream_saturation, stream_ratio}
use Rattle.junction_phases.specs.JunctionPhases.{is_in, car_in, has_cars, phase_ratio, phase_count, next_phase, entry_between, phase_entry, intergreen, has_pedestrian_or_tram}
use Rattle.junction_phases.specs.Meaning.{pedestrian_or_tram_none}
use Rattle.plan_file.specs.declared.Plan.{Plan}
use Rattle.plan_rules.specs.Rules.{capacity_met, zone_met}

-- a kind, a stream and a junction without islands
abbrev pub plain : Kind → Kind
plain (Car c) = Car c
plain (Tram t) = Tram t
plain (Pedestrian p) = Pedestrian p
plain (Cyclist y) = Cyclist y
plain (Island i) = Pedestrian i.walk

abbrev pub plain_stream : Stream → Stream
plain_stream s = record { phase = s.phase; kind = plain s.kind }

abbrev pub without_islands : Junction → Junction
without_islands j =
    record { day = j.day; period = j.period; held = j.held; streams = map plain_stream j.streams; zones = j.zones; counts = j.counts }

pub record AsPedestrian (j : Junction) : Type 0 where
  -- it leaves and reaches as a pedestrian, (5, 12) and (17, 18), so that every entry stays
  pub leaves : (i : IslandFigures) (l : ℕ) → leaving (Island i) l ≡ leaving (Pedestrian i.walk) l
  pub reaches : (i : IslandFigures) (r : ℕ) → reaching (Island i) r ≡ reaching (Pedestrian i.walk) r
  pub entries : (n m : ℕ) → pair_entry (without_islands j) n m ≡ pair_entry j n m
  -- it has no capacity rule, 16; and every plan meets the rules 16 and 17 as without islands
  pub no_capacity : (n : ℕ) (i : IslandFigures) → (stream_numbered j n).kind ≡ Island i → (p : Plan) → capacity_met j p n ≡ true
  pub capacities : (p : Plan) (n : ℕ) → capacity_met (without_islands j) p n ≡ capacity_met j p n
  pub zones : (p : Plan) (n : ℕ) → zone_met (without_islands j) p n ≡ zone_met j p n
  -- it has no count, 7
  pub no_count : (n : ℕ) (i : IslandFigures) → (stream_numbered j n).kind ≡ Island i → count_refers j n ≡ false
  pub counts : (n : ℕ) → count_refers (without_islands j) n ≡ count_refers j n
  -- 8 and 9 are answered as without islands
  pub whole_file : (size : ℕ) → whole_verdict size (without_islands j) ≡ whole_verdict size j
  -- (33) holds where it is there
  pub by_33 : (n : ℕ) (i : IslandFigures) → Between 1 j.held.streams n → (stream_numbered j n).kind ≡ Island i → has_pedestrian_or_tram j ≡ true
  pub by_33_same : has_pedestrian_or_tram (without_islands j) ≡ has_pedestrian_or_tram j
  -- the number of phases, and cars, y and M of each, stay
  pub phases : phase_count (without_islands j) ≡ phase_count j
  pub cars : (f : ℕ) → has_cars (without_islands j) f ≡ has_cars j f
  pub ratios : (f : ℕ) → phase_ratio (without_islands j) f ≡ phase_ratio j f
  pub intergreens : (f : ℕ) → intergreen (without_islands j) f ≡ intergreen j f
  -- the need of every other stream stays, and its own is never less
  pub others : (n cycle : ℕ) → plain (stream_numbered j n).kind ≡ (stream_numbered j n).kind
      → stream_need (without_islands j) n cycle ≡ stream_need j n cycle
  pub needs : (n cycle : ℕ) → stream_need (without_islands j) n cycle ≤ stream_need j n cycle

-- a kind and the same without an island are alike in all but the need
record Alike (k : Kind) : Type 0 where
  leaves : (l : ℕ) → leaving (plain k) l ≡ leaving k l
  reaches : (r : ℕ) → reaching (plain k) r ≡ reaching k r
  saturation : kind_saturation (plain k) ≡ kind_saturation k
  car : is_car (plain k) ≡ is_car k
  by_33 : is_pedestrian_or_tram (plain k) ≡ is_pedestrian_or_tram k
  need : (cycle : ℕ) → kind_need cycle (plain k) ≤ kind_need cycle k

unchanged : (k : Kind) → plain k ≡ k → Alike k
unchanged k e =
    record {
      leaves = λ l. rw e;
      reaches = λ r. rw e;
      saturation = rw e;
      car = rw e;
      by_33 = rw e;
      need = λ cycle. rw e (le_refl _);
    }

alike : (k : Kind) → Alike k
unfolding leaving reaching kind_need island_need
alike (Car c) = unchanged (Car c) refl
alike (Tram t) = unchanged (Tram t) refl
alike (Pedestrian p) = unchanged (Pedestrian p) refl
alike (Cyclist y) = unchanged (Cyclist y) refl
alike (Island i) =
    record { leaves = λ l. refl; reaches = λ r. refl; saturation = refl; car = refl; by_33 = refl; need = λ cycle. le-max_left _ _ }

entry_plain : (s t : Stream) (clearing reach : ℕ) → entry (plain_stream s) (plain_stream t) clearing reach ≡ entry s t clearing reach
unfolding entry
entry_plain s t clearing reach = rw ((alike s.kind).leaves clearing, (alike t.kind).reaches reach)

module _ (j : Junction) where
  place_plain : (i : ℕ) → stream_at (without_islands j) i ≡ plain_stream (stream_at j i)
  unfolding stream_at
  place_plain i =
      by_test (ltb i most_streams) (λ l. rw l (get_or-map plain_stream j.streams i no_stream)) (λ l. rw l refl)

  stream_plain : (n : ℕ) → stream_numbered (without_islands j) n ≡ plain_stream (stream_numbered j n)
  unfolding stream_numbered
  stream_plain n = by_test (eqb n 0) (λ e. rw e refl) (λ e. rw e (place_plain (n - 1)))

  entries_plain : (n m : ℕ) → pair_entry (without_islands j) n m ≡ pair_entry j n m
  unfolding pair_entry zone_entry zone_at
  entries_plain n m =
      largest_same _ _ j.held.zones
      (λ i low. rw (stream_plain n, stream_plain m) (simp (entry_plain (stream_numbered j n) (stream_numbered j m))))

  capacities_plain : (p : Plan) (n : ℕ) → capacity_met (without_islands j) p n ≡ capacity_met j p n
  unfolding capacity_met stream_saturation stream_flow newest_rank rank_at count_at
  capacities_plain p n = rw (stream_plain n, (alike (stream_numbered j n).kind).car, (alike (stream_numbered j n).kind).saturation)

  zones_plain : (p : Plan) (n : ℕ) → zone_met (without_islands j) p n ≡ zone_met j p n
  unfolding zone_met zone_numbered zone_at
  zones_plain p n = simp entries_plain

  counts_plain : (n : ℕ) → count_refers (without_islands j) n ≡ count_refers j n
  unfolding count_refers car_refers
  counts_plain n = rw (stream_plain n, (alike (stream_numbered j n).kind).car)

  phase_used_plain : (f : ℕ) → phase_used (without_islands j) f ≡ phase_used j f
  unfolding phase_used first_in_phase in_phase
  phase_used_plain f =
      ap (λ i. ltb i j.held.streams) (first_same _ _ j.held.streams 0 (λ i low high. rw (place_plain i)))

  car_at_plain : (i : ℕ) → car_at (without_islands j) i ≡ car_at j i
  unfolding car_at
  car_at_plain i = rw (place_plain i, (alike (stream_at j i).kind).car)

  first_car_plain : first_car (without_islands j) ≡ first_car j
  unfolding first_car
  first_car_plain = first_same _ _ j.held.streams 0 (λ i low high. car_at_plain i)

  first_lacking_plain : first_lacking (without_islands j) ≡ first_lacking j
  unfolding first_lacking lacks_count newest_rank rank_at count_at
  first_lacking_plain = first_same _ _ j.held.streams 0 (λ i low high. rw (car_at_plain i))

  whole_plain : (size : ℕ) → whole_verdict size (without_islands j) ≡ whole_verdict size j
  unfolding whole_verdict whole phases_right phase_follows counts_verdict
  whole_plain size = simp (phase_used_plain, first_car_plain, first_lacking_plain)

  by_33_plain : has_pedestrian_or_tram (without_islands j) ≡ has_pedestrian_or_tram j
  unfolding has_pedestrian_or_tram
  by_33_plain =
      ap (leb 1) (largest_same _ _ j.held.streams (λ i low. rw (stream_plain (i + 1), (alike (stream_numbered j (i + 1)).kind).by_33)))

  in_plain : (f n : ℕ) → is_in (without_islands j) f n ≡ is_in j f n
  unfolding is_in
  in_plain f n = rw (stream_plain n)

  car_in_plain : (f n : ℕ) → car_in (without_islands j) f n ≡ car_in j f n
  unfolding car_in
  car_in_plain f n = rw (in_plain f n, stream_plain n, (alike (stream_numbered j n).kind).car)

  cars_plain : (f : ℕ) → has_cars (without_islands j) f ≡ has_cars j f
  unfolding has_cars
  cars_plain f = ap (leb 1) (largest_same _ _ j.held.streams (λ i low. rw (car_in_plain f (i + 1))))

  ratio_plain : (n : ℕ) → stream_ratio (without_islands j) n ≡ stream_ratio j n
  unfolding stream_ratio stream_saturation stream_flow newest_rank rank_at count_at
  ratio_plain n = rw (stream_plain n, (alike (stream_numbered j n).kind).saturation)

  ratios_plain : (f : ℕ) → phase_ratio (without_islands j) f ≡ phase_ratio j f
  unfolding phase_ratio
  ratios_plain f = largest_same _ _ j.held.streams (λ i low. rw (car_in_plain f (i + 1), ratio_plain (i + 1)))

  count_plain : phase_count (without_islands j) ≡ phase_count j
  unfolding phase_count
  count_plain = ap (λ n. min n most_phases) (largest_same _ _ j.held.streams (λ i low. rw (stream_plain (i + 1))))

  between_plain : (f g n m : ℕ) → entry_between (without_islands j) f g n m ≡ entry_between j f g n m
  unfolding entry_between
  between_plain f g n m = rw (in_plain f n, in_plain g m, entries_plain n m)

  phase_entry_plain : (f g : ℕ) → phase_entry (without_islands j) f g ≡ phase_entry j f g
  unfolding phase_entry
  phase_entry_plain f g =
      largest_same _ _ j.held.streams
      (λ i low. largest_same _ _ j.held.streams (λ k lower. between_plain f g (i + 1) (k + 1)))

  intergreens_plain : (f : ℕ) → intergreen (without_islands j) f ≡ intergreen j f
  unfolding intergreen next_phase
  intergreens_plain f = rw (count_plain, phase_entry_plain f (next_phase j f))

  needs_plain : (n cycle : ℕ) → stream_need (without_islands j) n cycle ≤ stream_need j n cycle
  unfolding stream_need need_at
  needs_plain n cycle = rw (stream_plain n) ((alike (stream_numbered j n).kind).need cycle)

  others_plain : (n cycle : ℕ) → plain (stream_numbered j n).kind ≡ (stream_numbered j n).kind
      → stream_need (without_islands j) n cycle ≡ stream_need j n cycle
  unfolding stream_need need_at
  others_plain n cycle e = rw (stream_plain n, e)

  no_capacity_plain : (n : ℕ) (i : IslandFigures) → (stream_numbered j n).kind ≡ Island i → (p : Plan) → capacity_met j p n ≡ true
  unfolding capacity_met
  no_capacity_plain n i is p = rw is

  no_count_plain : (n : ℕ) (i : IslandFigures) → (stream_numbered j n).kind ≡ Island i → count_refers j n ≡ false
  unfolding count_refers car_refers
  no_count_plain n i is = rw is (and-false (numbered j.held.streams n))

  by_33_there : (n : ℕ) (i : IslandFigures) → Between 1 j.held.streams n → (stream_numbered j n).kind ≡ Island i
      → has_pedestrian_or_tram j ≡ true
  by_33_there n i range is =
      by_test (has_pedestrian_or_tram j) (λ e. e)
      (λ e. absurd (true≢false (sym (ap is_pedestrian_or_tram is) ∙ (pedestrian_or_tram_none j).0 e n range)))

-- in all else kind 5 counts as a pedestrian
pub as_pedestrian : (j : Junction) → AsPedestrian j
unfolding leaving reaching
as_pedestrian j =
    record {
      leaves = λ i l. refl;
      reaches = λ i r. refl;
      entries = entries_plain j;
      no_capacity = no_capacity_plain j;
      capacities = capacities_plain j;
      zones = zones_plain j;
      no_count = no_count_plain j;
      counts = counts_plain j;
      whole_file = whole_plain j;
      by_33 = by_33_there j;
      by_33_same = by_33_plain j;
      phases = count_plain j;
      cars = cars_plain j;
      ratios = ratios_plain j;
      intergreens = intergreens_plain j;
      others = others_plain j;
      needs = needs_plain j;
    }
