-- The largest figures by the streams and the tables alone are those of the junction.
use Prim.Native.Nat.{ℕ, ◌+◌, ◌-◌, ◌≤◌, ◌<◌, min, max}
use native.Mathlib.Omega.{arith}
use Rattle.std.specs.Prelude.{Bool, ◌&&◌, List, ◌≡◌, leb, eqb, get_or, set}
use Rattle.std.proofs.Math.Bool.{cond}
use Rattle.std.proofs.Common.{◌∙◌, eqb-true}
use Rattle.std.proofs.Math.Path.{ap}
use Rattle.limits.specs.Limits.{most_phases}
use Rattle.laws.specs.ByNumber.{ByNumber, by_number_same, raised}
use Rattle.laws.proofs.Largest.{largest_same}
use Rattle.laws.specs.Largest.{largest_of}
use Rattle.laws.specs.Ranges.{Between}
use Rattle.laws.specs.Tests.{by_test}
use Rattle.streams.specs.declared.Stream.{Stream}
use Rattle.flows.specs.Needs.{need_at}
use Rattle.flows.specs.Saturation.{flow_ratio}
use Rattle.junction.specs.declared.Junction.{Junction}
use Rattle.junction_places.specs.Blank.{no_stream}
use Rattle.junction_places.specs.Places.{stream_numbered, numbered_at, zone_at, zone_numbered_at}
use Rattle.streams.specs.Kinds.{is_car, is_pedestrian_or_tram}
use Rattle.junction_file.specs.Taken.{Taken}
use Rattle.junction_figures.specs.Figures.{stream_need, stream_ratio}
use Rattle.junction_file.specs.lemmas.Places.{stream_place_lem, number_place}
use Rattle.junction_tables.specs.lemmas.Places.{load_place, conflict_place}
use Rattle.junction_tables.specs.Tables.{no_conflict, conflict_of, conflicts_of, no_load, loads_of}
use Rattle.junction_tables.specs.declared.Conflict.{Conflict}
use Rattle.junction_tables.specs.declared.Conflicts.{Conflicts}
use Rattle.junction_tables.specs.declared.Loads.{Loads}
use Rattle.junction_phases.specs.JunctionPhases.{largest_stream, is_in, car_in, phase_ratio, phase_need, phase_count}
use Rattle.junction_phases.specs.JunctionPhases.{has_pedestrian_or_tram, phase_after, next_phase, entry_between, phase_entry}
use Rattle.junction_phases.specs.lemmas.Zones.{zone_figure, zones_entry, zones_enough}

-- of the first n streams, the largest figure of those of phase f; the needed greens at a cycle; the flow ratios of cars
abbrev pub largest_in : List Stream → (ℕ → ℕ) → ℕ → ℕ → ℕ
largest_in streams figure n f = largest_of (λ i. cond (eqb (get_or streams i no_stream).phase f) (figure i) 0) n

abbrev pub needs_by : List Stream → ℕ → ℕ → ℕ → ℕ
needs_by streams t = largest_in streams (λ i. need_at t (get_or streams i no_stream))

abbrev pub ratios_by : List Stream → Loads → ℕ → ℕ → ℕ
ratios_by streams loads =
    largest_in streams (λ i. cond (is_car (get_or streams i no_stream).kind)
    (flow_ratio (get_or loads.of i no_load).flow (get_or loads.of i no_load).saturation) 0)

-- the phase of the stream with a number, from 1
abbrev phase_of : List Stream → ℕ → ℕ
phase_of streams n = (get_or streams (n - 1) no_stream).phase

-- an entry from phase f to phase g that counts where g is the next of so many phases
abbrev pub onward : ℕ → ℕ → ℕ → ℕ → ℕ
onward count f g entry = cond (eqb g (phase_after count f)) entry 0

-- the larger entry at a zone, with its streams in phases a and b, that leads from phase f to phase g
abbrev zone_figure_by : ℕ → ℕ → ℕ → ℕ → Conflict → ℕ
zone_figure_by f g a b c = max (cond (eqb a f && eqb b g) c.atob 0) (cond (eqb b f && eqb a g) c.btoa 0)

-- the larger one that leads from phase f to the next, and the largest of the first n zones
abbrev entry_by : List Stream → ℕ → ℕ → Conflict → ℕ
entry_by streams count f c = zone_figure_by f (phase_after count f) (phase_of streams c.a) (phase_of streams c.b) c

abbrev pub entries_by : List Stream → Conflicts → ℕ → ℕ → ℕ → ℕ
entries_by streams conflicts count n f = largest_of (λ i. entry_by streams count f (get_or conflicts.of i no_conflict)) n

-- each of the first n streams is in a phase of the six
pub record StreamPhases (streams : List Stream) (n : ℕ) : Type 0 where
  pub few : n ≤ 16
  pub each : (i : ℕ) → i < n → Between 1 6 (get_or streams i no_stream).phase

-- the streams of a zone are among the sixteen, each in a phase of the six; so are those of the first n zones
pub record ZonePhases (streams : List Stream) (c : Conflict) : Type 0 where
  pub a : Between 1 16 c.a
  pub b : Between 1 16 c.b
  pub phase_a : Between 1 6 (phase_of streams c.a)
  pub phase_b : Between 1 6 (phase_of streams c.b)

pub record ZonesPhases (streams : List Stream) (conflicts : Conflicts) (n : ℕ) : Type 0 where
  pub few : n ≤ 64
  pub each : (i : ℕ) → i < n → ZonePhases streams (get_or conflicts.of i no_conflict)

-- a number that counts where two tests pass
two_tests : (p q : Bool) (x : ℕ) → cond p (cond q x 0) 0 ≡ cond (p && q) x 0
two_tests p q x = by_test p (λ e. rw e) (λ e. rw e)

-- the way from phase a to phase b counts for phase a
one_way : (count f a b x : ℕ) → cond (eqb a f) (onward count a b x) 0 ≡ cond (eqb a f && eqb b (phase_after count f)) x 0
one_way count f a b x = by_test (eqb a f) (λ e. rw (e, eqb-true a f e)) (λ e. rw e)

-- a zone raises the entries of the phases of its streams, one after the other
pub zone_raised : (number : ℕ → ℕ) (l : List ℕ) (streams : List Stream) (c : Conflict) (count y z : ℕ)
    → ByNumber most_phases number l → ZonePhases streams c
    → let a = phase_of streams c.a in
    let b = phase_of streams c.b in
    y ≡ max (get_or l (a - 1) 0) (onward count a b c.atob)
    → z ≡ max (get_or (set l (a - 1) y) (b - 1) 0) (onward count b a c.btoa)
    → ByNumber most_phases (λ f. max (number f) (entry_by streams count f c)) (set (set l (a - 1) y) (b - 1) z)
zone_raised number l streams c count y z before zone atob btoa =
    let a = phase_of streams c.a in
    let b = phase_of streams c.b in
    by_number_same _ _ _ (raised _ b _ z _ (raised number a _ y l before zone.phase_a atob) zone.phase_b btoa)
    (λ f. rw (one_way count f a b c.atob, one_way count f b a c.btoa) (omega arith))

module _ (j : Junction) (taken : Taken j) where
  figures_tabled : (by figure : ℕ → ℕ) → ((i : ℕ) → i < j.held.streams → by i ≡ figure (i + 1))
      → largest_of by j.held.streams ≡ largest_stream j figure
  figures_tabled by figure same = largest_same by _ j.held.streams same

  pub count_tabled : min (largest_of (λ i. (get_or j.streams i no_stream).phase) j.held.streams) 6 ≡ phase_count j
  unfolding phase_count
  count_tabled = ap (λ n. min n 6) (figures_tabled _ (λ n. (stream_numbered j n).phase) (λ i low. rw (stream_place_lem j taken i low)))

  pub pedestrian_or_tram_tabled : leb 1 (largest_of (λ i. cond (is_pedestrian_or_tram (get_or j.streams i no_stream).kind) 1 0) j.held.streams)
      ≡ has_pedestrian_or_tram j
  unfolding has_pedestrian_or_tram
  pedestrian_or_tram_tabled =
      ap (leb 1) (figures_tabled _ (λ n. cond (is_pedestrian_or_tram (stream_numbered j n).kind) 1 0) (λ i low. rw (stream_place_lem j taken i low)))

  pub needs_tabled : (t f : ℕ) → needs_by j.streams t j.held.streams f ≡ phase_need j f t
  unfolding phase_need is_in stream_need
  needs_tabled t f = figures_tabled _ (λ n. cond (is_in j f n) (stream_need j n t) 0) (λ i low. rw (stream_place_lem j taken i low))

  pub ratios_tabled : (f : ℕ) → ratios_by j.streams (loads_of j) j.held.streams f ≡ phase_ratio j f
  unfolding phase_ratio is_in car_in stream_ratio
  ratios_tabled f =
      figures_tabled _ (λ n. cond (car_in j f n) (stream_ratio j n) 0) (λ i low.
      rw (stream_place_lem j taken i low, load_place j taken i low) (two_tests (eqb (stream_numbered j (i + 1)).phase f) _ _))

  number_phase : (n : ℕ) → Between 1 j.held.streams n → phase_of j.streams n ≡ (stream_numbered j n).phase
  number_phase n exists = ap (λ s. s.phase) (number_place j taken n exists)

  zone_tabled : (f g i : ℕ) → i < j.held.zones
      → zone_figure_by f g (phase_of j.streams (zone_at j i).a.stream) (phase_of j.streams (zone_at j i).b.stream) (conflict_of j (zone_at j i))
      ≡ zone_figure j f g (i + 1)
  unfolding zone_figure entry_between is_in
  zone_tabled f g i low =
      let there : i + 1 - 1 ≡ i = omega arith in
      let z = taken.fields.zones i low in
      rw (zone_numbered_at j (i + 1) (omega arith), there, number_phase _ z.a.existing, number_phase _ z.b.existing)

  zones_tabled : (f : ℕ) → entries_by j.streams (conflicts_of j) (phase_count j) j.held.zones f ≡ zones_entry j f (next_phase j f)
  unfolding zones_entry next_phase
  zones_tabled f = largest_same _ _ j.held.zones (λ i low. rw (conflict_place j taken i low) (zone_tabled f (next_phase j f) i low))

  pub entries_tabled : (f : ℕ) → entries_by j.streams (conflicts_of j) (phase_count j) j.held.zones f ≡ phase_entry j f (next_phase j f)
  unfolding next_phase
  entries_tabled f = zones_tabled f ∙ zones_enough j taken f (next_phase j f)

  -- the phases of its streams and of its zones' streams
  pub stream_phases : StreamPhases j.streams j.held.streams
  stream_phases =
      record {
        few = taken.fields.few_streams;
        each = λ i low.
            let there : i + 1 - 1 ≡ i = omega arith in
            rw (stream_place_lem j taken i low, numbered_at j (i + 1) (omega arith), there) (taken.fields.streams i low).phase;
      }

  pub zones_phases : ZonesPhases j.streams (conflicts_of j) j.held.zones
  zones_phases =
      record {
        few = taken.fields.few_zones;
        each = λ i low.
            let z = taken.fields.zones i low in
            let few = taken.fields.few_streams in
            rw (conflict_place j taken i low)
            (record {
              a = omega arith;
              b = omega arith;
              phase_a = stream_phases.each ((zone_at j i).a.stream - 1) (omega arith);
              phase_b = stream_phases.each ((zone_at j i).b.stream - 1) (omega arith);
            });
      }
