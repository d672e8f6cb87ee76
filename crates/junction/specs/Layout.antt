-- The bodies of a junction file's fields: how long they are, which numbers are in range, and what they say (document 01, "The junction
-- file"; questions 4 and 5).
use Rattle.std.specs.Prelude.{ℕ, ◌+◌, ◌%◌, ◌≤◌, Bool, true, false, ◌&&◌, ◌||◌, cond, List, ◌≡◌, leb, eqb, length}
use Rattle.std.proofs.Common.{arith, ne_eqb}
use Rattle.limits.specs.Limits.{least_flow, greatest_flow, least_period, greatest_period, most_phases}
use Rattle.fields.specs.Bytes.{byte_at, number_at, byte_in, number_in}
use Rattle.streams.specs.declared.Kind.{Kind}
use Rattle.streams.specs.declared.Kind.TheVariants.{Car, Tram, Pedestrian, Cyclist, Island}
use Rattle.streams.specs.declared.PedestrianFigures.{PedestrianFigures}
use Rattle.streams.specs.declared.Stream.{Stream}
use Rattle.counts.specs.declared.Count.{Count}
use Rattle.junction.specs.declared.Zone.{Zone}

-- how long the bodies of 01, 03 and 04 are; a stream's length goes by its kind
abbrev pub heading_length : ℕ
heading_length = 5

abbrev pub zone_length : ℕ
zone_length = 10

abbrev pub count_length : ℕ
count_length = 8

-- 01 heading, 5 bytes: junction number (2), design day (2), the period that is planned (1; 1 to 4: document 02, 2026-04)
unfoldable pub design_day : List ℕ → ℕ
design_day b = number_at b 2

unfoldable pub planned_period : List ℕ → ℕ
planned_period b = byte_at b 4

unfoldable pub heading_in_range : List ℕ → Bool
heading_in_range b = byte_in b 4 least_period greatest_period

-- 02 stream: kind (1), phase (1; 1 to 6), then by kind.
-- 1 car, 13 bytes: amber (1; 3 to 5), start (1; 0 or 1), radius (2; 0 or 30 to 9,999), width in cm (2; 300 to 1,500), rows (1; 1 or 2),
-- gradient plus 10 (1; 0 to 20), conditions (1; 1 to 3), left and right shares (1 each; sum at most 100; both 0 if radius is not 0)
unfoldable pub radius_in_range : List ℕ → Bool
radius_in_range b = eqb (number_at b 4) 0 || number_in b 4 30 9999

unfoldable pub shares_in_range : List ℕ → Bool
shares_in_range b =
    leb (byte_at b 11 + byte_at b 12) 100 && (eqb (number_at b 4) 0 || eqb (byte_at b 11 + byte_at b 12) 0)

unfoldable pub car_in_range : List ℕ → Bool
car_in_range b =
    byte_in b 1 1 most_phases && byte_in b 2 3 5 && byte_in b 3 0 1 && radius_in_range b && number_in b 6 300 1500 && byte_in b 8 1 2 &&
    byte_in b 9 0 20 && byte_in b 10 1 3 && shares_in_range b

unfoldable pub car_of : List ℕ → Kind
car_of b =
    Car
    (record {
      amber = byte_at b 2;
      flying = eqb (byte_at b 3) 1;
      radius = number_at b 4;
      width = number_at b 6;
      rows = byte_at b 8;
      gradient = byte_at b 9;
      conditions = byte_at b 10;
      left = byte_at b 11;
      right = byte_at b 12;
    })

-- 2 tram, 6 bytes: running or from a stop (1; 0 or 1), length (2; 100 to 600), trams an hour (1; 1 to 34)
unfoldable pub tram_in_range : List ℕ → Bool
tram_in_range b = byte_in b 1 1 most_phases && byte_in b 2 0 1 && number_in b 3 100 600 && byte_in b 5 1 34

unfoldable pub tram_of : List ℕ → Kind
tram_of b = Tram (record { stop = eqb (byte_at b 2) 1; length = number_at b 3; hourly = byte_at b 5 })

-- 3 pedestrian, 9 bytes: speed (1; 12 to 15), crossing (2; 10 to 600), people an hour (2; 0 to 9,999), reach counted (1; 0 or 1), disturbed
-- (1; 0 or 1)
unfoldable pub pedestrian_in_range : List ℕ → Bool
pedestrian_in_range b =
    byte_in b 1 1 most_phases && byte_in b 2 12 15 && number_in b 3 10 600 && number_in b 5 0 9999 && byte_in b 7 0 1 && byte_in b 8 0 1

-- the figures that kinds 3 and 5 have
unfoldable pub walk_of : List ℕ → PedestrianFigures
walk_of b =
    record {
      speed = byte_at b 2;
      crossing = number_at b 3;
      hourly = number_at b 5;
      counted = eqb (byte_at b 7) 1;
      disturbed = eqb (byte_at b 8) 1;
    }

unfoldable pub pedestrian_of : List ℕ → Kind
pedestrian_of b = Pedestrian (walk_of b)

-- 4 cyclist, 3 bytes: reach counted (1; 0 or 1)
unfoldable pub cyclist_in_range : List ℕ → Bool
cyclist_in_range b = byte_in b 1 1 most_phases && byte_in b 2 0 1

unfoldable pub cyclist_of : List ℕ → Kind
cyclist_of b = Cyclist (record { counted = eqb (byte_at b 2) 1 })

-- 5 pedestrian over an island, 15 bytes (document 02, 2026-01): as 3, then wider carriageway and island (2 each; 10 to 600), packet (2; 20 to
-- 200, a multiple of 5)
unfoldable pub island_in_range : List ℕ → Bool
island_in_range b =
    pedestrian_in_range b && number_in b 9 10 600 && number_in b 11 10 600 && number_in b 13 20 200 && eqb (number_at b 13 % 5) 0

unfoldable pub island_of : List ℕ → Kind
island_of b = Island (record { walk = walk_of b; wider = number_at b 9; island = number_at b 11; packet = number_at b 13 })

-- a choice by the kind, with one for an unknown kind
abbrev pub by_kind : {A : Type 0} → ℕ → A → A → A → A → A → A → A
by_kind k car tram pedestrian cyclist island unknown =
    cond (eqb k 1) car
    (cond (eqb k 2) tram (cond (eqb k 3) pedestrian (cond (eqb k 4) cyclist (cond (eqb k 5) island unknown))))

-- 6 and more are unknown
pub by_unknown : {A : Type 0} (k : ℕ) → 6 ≤ k → (car tram pedestrian cyclist island unknown : A)
    → by_kind k car tram pedestrian cyclist island unknown ≡ unknown
by_unknown k h car tram pedestrian cyclist island unknown =
    simp (
      ne_eqb k 1 (λ e. omega arith),
      ne_eqb k 2 (λ e. omega arith),
      ne_eqb k 3 (λ e. omega arith),
      ne_eqb k 4 (λ e. omega arith),
      ne_eqb k 5 (λ e. omega arith),
    )

-- question 4 of a stream, after its kind is read: an empty body fails, an unknown kind is not judged
unfoldable pub stream_length_right : List ℕ → Bool
stream_length_right b =
    cond (eqb (length b) 0) false
    (by_kind (byte_at b 0) (eqb (length b) 13) (eqb (length b) 6) (eqb (length b) 9) (eqb (length b) 3) (eqb (length b) 15) true)

-- question 5 of a stream: an unknown kind is refused here
unfoldable pub stream_in_range : List ℕ → Bool
stream_in_range b =
    by_kind (byte_at b 0) (car_in_range b) (tram_in_range b) (pedestrian_in_range b) (cyclist_in_range b) (island_in_range b) false

-- an unknown kind, which question 5 refuses, is read as a cyclist
unfoldable pub kind_of : List ℕ → Kind
kind_of b = by_kind (byte_at b 0) (car_of b) (tram_of b) (pedestrian_of b) (cyclist_of b) (island_of b) (cyclist_of b)

unfoldable pub stream_of : List ℕ → Stream
stream_of b = record { phase = byte_at b 1; kind = kind_of b }

-- 03 zone, 10 bytes: streams a and b (1 each), clearing a, reaching a, clearing b, reaching b (2 each; 0 to 999)
unfoldable pub zone_in_range : List ℕ → Bool
zone_in_range b = number_in b 2 0 999 && number_in b 4 0 999 && number_in b 6 0 999 && number_in b 8 0 999

unfoldable pub zone_of : List ℕ → Zone
zone_of b =
    record {
      a = record { stream = byte_at b 0; clearing = number_at b 2; reaching = number_at b 4 };
      b = record { stream = byte_at b 1; clearing = number_at b 6; reaching = number_at b 8 };
    }

-- 04 count, 8 bytes: car stream (1), count day (2), file day (2), flow in E/h (2; 1 to 9,999), period (1; 1 to 4: document 02, 2026-04). The
-- file day is not kept
unfoldable pub count_in_range : List ℕ → Bool
count_in_range b = number_in b 5 least_flow greatest_flow && byte_in b 7 least_period greatest_period

unfoldable pub count_of : List ℕ → Count
count_of b = record { stream = byte_at b 0; day = number_at b 1; flow = number_at b 5; period = byte_at b 7 }
