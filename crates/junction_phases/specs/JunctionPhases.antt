-- The phases of a junction: y, M and need of each (document 01, "Working out a plan"). Phases, streams and zones have numbers from 1.
use Rattle.std.specs.Prelude.{ℕ, ◌+◌, min, max, Bool, ◌&&◌, cond, leb, ltb, eqb, replicate}
use Rattle.laws.specs.Filled.{filled}
use Rattle.laws.specs.Largest.{largest_of}
use Rattle.junction.specs.declared.Junction.{Junction}
use Rattle.junction_places.specs.Places.{stream_numbered}
use Rattle.streams.specs.Kinds.{is_car, is_pedestrian_or_tram}
use Rattle.junction_figures.specs.Figures.{pair_entry, stream_need, stream_ratio}
use Rattle.phase_lengths.specs.Phases.{no_phase}
use Rattle.phase_lengths.specs.declared.Phases.{Phases}
use Rattle.phase_lengths.specs.declared.Phase.{Phase}
use Rattle.limits.specs.Limits.{most_phases}

-- the largest figure of the junction's streams
abbrev pub largest_stream : Junction → (ℕ → ℕ) → ℕ
largest_stream j figure = largest_of (λ i. figure (i + 1)) j.held.streams

-- some stream passes a test
abbrev pub some_stream : Junction → (ℕ → Bool) → Bool
some_stream j test = leb 1 (largest_stream j (λ n. cond (test n) 1 0))

-- stream n is in phase f; it is a car there
unfoldable pub is_in : Junction → ℕ → ℕ → Bool
is_in j f n = eqb (stream_numbered j n).phase f

unfoldable pub car_in : Junction → ℕ → ℕ → Bool
car_in j f n = is_in j f n && is_car (stream_numbered j n).kind

-- a phase has cars where some stream of it is one
unfoldable pub has_cars : Junction → ℕ → Bool
has_cars j f = some_stream j (car_in j f)

-- y of a phase is the largest of its cars'
unfoldable pub phase_ratio : Junction → ℕ → ℕ
phase_ratio j f = largest_stream j (λ n. cond (car_in j f n) (stream_ratio j n) 0)

-- the need of a phase is the largest of its streams' at a cycle
unfoldable pub phase_need : Junction → ℕ → ℕ → ℕ
phase_need j f cycle = largest_stream j (λ n. cond (is_in j f n) (stream_need j n cycle) 0)

-- phases 1 to the last; no file has more than six
unfoldable pub phase_count : Junction → ℕ
phase_count j = min (largest_stream j (λ n. (stream_numbered j n).phase)) most_phases

-- with pedestrians or trams
unfoldable pub has_pedestrian_or_tram : Junction → Bool
has_pedestrian_or_tram j = some_stream j (λ n. is_pedestrian_or_tram (stream_numbered j n).kind)

-- the first of so many follows the last
abbrev pub phase_after : ℕ → ℕ → ℕ
phase_after count f = cond (ltb f count) (f + 1) 1

unfoldable pub next_phase : Junction → ℕ → ℕ
next_phase j f = phase_after (phase_count j) f

-- the entry from stream n to stream m, where they are of phases f and g
unfoldable pub entry_between : Junction → ℕ → ℕ → ℕ → ℕ → ℕ
entry_between j f g n m = cond (is_in j f n && is_in j g m) (pair_entry j n m) 0

-- the largest entry from the streams of a phase to those of another
unfoldable pub phase_entry : Junction → ℕ → ℕ → ℕ
phase_entry j f g = largest_stream j (λ n. largest_stream j (λ m. entry_between j f g n m))

-- M of a phase: that to the streams of the next, at least 1 (house)
unfoldable pub intergreen : Junction → ℕ → ℕ
intergreen j f = max 1 (phase_entry j f (next_phase j f))

-- the phase at a place, from 0, at a cycle
unfoldable pub phase_at : Junction → ℕ → ℕ → Phase
phase_at j t i =
    record {
      cars = has_cars j (i + 1);
      ratio = phase_ratio j (i + 1);
      intergreen = intergreen j (i + 1);
      need = phase_need j (i + 1) t;
    }

unfoldable pub phases_at : Junction → ℕ → Phases
phases_at j t = record { count = phase_count j; of = filled (phase_at j t) (replicate most_phases no_phase) (phase_count j) }

-- a phase with another need
abbrev pub with_need : Phase → ℕ → Phase
with_need p need = record { cars = p.cars; ratio = p.ratio; intergreen = p.intergreen; need = need }
