-- A value for every constant of the annex, worked by hand from its formulas, and the limits of documents 01 and 02, in one table with one proof over
-- it. Where a constant could be a little more or less, the values stand on both sides of a whole second, or of a whole number.
use Rattle.std.specs.Prelude.{ℕ, Bool, true, false, List, [], ◌∷◌, map, ◌≡◌, refl}
use Rattle.limits.specs.Limits.{most_bytes, most_streams, most_zones, most_counts, most_phases, most_seconds, least_flow, greatest_flow}
use Rattle.limits.specs.Limits.{least_period, greatest_period}
use Rattle.streams.specs.declared.Kind.{Kind}
use Rattle.streams.specs.declared.Kind.TheVariants.{Car, Tram, Pedestrian, Cyclist, Island}
use Rattle.streams.specs.declared.Stream.{Stream}
use Rattle.times.specs.Entry.{entry}
use Rattle.flows.specs.Needs.{need_at}
use Rattle.flows.specs.Saturation.{straight_flow, turning_flow, saturation_flow, flow_ratio}
use Rattle.phase_lengths.specs.Phases.{no_phase, lost_time, first_length}
use Rattle.phase_lengths.specs.declared.Phase.{Phase}
use Rattle.phase_lengths.specs.declared.Phases.{Phases}
use Rattle.phase_greens.specs.Greens.{sharing, green_at, start_at}
use Rattle.worked_values.specs.Computed.{to_times, to_flows, to_phases}

of : Kind → Stream
of kind = record { phase = 1; kind = kind }

-- a car by amber, start and radius
car : ℕ → Bool → ℕ → Stream
unfolding of
car amber flying radius =
    of (Car (record { amber = amber; flying = flying; radius = radius; width = 350; rows = 1; gradient = 10; conditions = 2; left = 0; right = 0 }))

-- a tram by its case and length
tram : Bool → ℕ → Stream
unfolding of
tram stop length = of (Tram (record { stop = stop; length = length; hourly = 15 }))

-- a pedestrian of speed 12 by crossing, people an hour, and whether the reach is counted and the crossing disturbed
walker : ℕ → ℕ → Bool → Bool → Stream
unfolding of
walker crossing people counted disturbed =
    of (Pedestrian (record { speed = 12; crossing = crossing; hourly = people; counted = counted; disturbed = disturbed }))

-- one over an island by crossing, people an hour, whether the crossing is disturbed, wider carriageway, island and packet
over_island : ℕ → ℕ → Bool → ℕ → ℕ → ℕ → Stream
unfolding of
over_island crossing people disturbed wider island packet =
    of
    (Island
    (record {
      walk = record { speed = 15; crossing = crossing; hourly = people; counted = true; disturbed = disturbed };
      wider = wider;
      island = island;
      packet = packet;
    }))

cyclist : Bool → Stream
unfolding of
cyclist counted = of (Cyclist (record { counted = counted }))

-- the entry toward an uncounted pedestrian, so that it is the leaving time rounded up
clears : Stream → ℕ → ℕ
unfolding walker
clears i l = entry i (walker 70 200 false false) l 0

-- the entry from a straight car with amber 3 that leaves after exactly 5 s
after5 : Stream → ℕ → ℕ
unfolding car
after5 j r = entry (car 3 false 0) j 140 r

-- S of a car of width 350 by gradient plus 10, conditions, left and right share
saturation : ℕ → ℕ → ℕ → ℕ → ℕ
saturation gradient conditions left right =
    saturation_flow (record {
      amber = 3;
      flying = false;
      radius = 0;
      width = 350;
      rows = 1;
      gradient = gradient;
      conditions = conditions;
      left = left;
      right = right;
    })

-- a phase with cars by y and M, and one without by need and M
cars : ℕ → ℕ → Phase
cars ratio intergreen = record { cars = true; ratio = ratio; intergreen = intergreen; need = 8 }

without : ℕ → ℕ → Phase
without need intergreen = record { cars = false; ratio = 0; intergreen = intergreen; need = need }

-- the two phases of the whole case
whole_case : Phases
unfolding cars without
whole_case = record { count = 2; of = cars 3117 5 ∷ without 6 4 ∷ no_phase ∷ no_phase ∷ no_phase ∷ no_phase ∷ [] }

-- two phases with cars, y 3,000 and 1,000, and one without
three : Phases
unfolding cars without
three = record { count = 3; of = cars 3000 5 ∷ cars 1000 4 ∷ without 6 2 ∷ no_phase ∷ no_phase ∷ no_phase ∷ [] }

pub record Value : Type 0 where
  pub value : ℕ
  pub by_hand : ℕ

infixl 20 ◌is◌
◌is◌ : ℕ → ℕ → Value
v is w = record { value = v; by_hand = w }

unfoldable pub values : List Value
unfolding ◌is◌ of car tram walker over_island cyclist clears after5 saturation whole_case three
values =
    -- (7): 3 + (140 + 60)/100 = 5, one decimetre more is above 5
    (clears (car 3 false 0) 140 is 5) ∷ (clears (car 3 false 0) 141 is 6) ∷
    -- (8): 2 + (290 + 60)/70 = 7; (9): 2 + (290 + 60)/50 = 9
    (clears (car 3 false 151) 290 is 7) ∷ (clears (car 3 false 151) 291 is 8) ∷
    (clears (car 3 false 150) 290 is 9) ∷ (clears (car 3 false 150) 291 is 10) ∷
    -- (9'): 3.6 s raised to amber + 1
    (clears (car 5 false 0) 0 is 6) ∷
    -- (10): 5.1 + 9 × 100/1000 = 6; 5.1 + 9 × 989/1000 = 14.001
    (clears (tram false 100) 0 is 6) ∷ (clears (tram false 100) 1 is 7) ∷ (clears (tram false 600) 389 is 15) ∷
    -- (11): the root of 500/5 = 10, of 501/5 above it
    (clears (tram true 300) 200 is 10) ∷ (clears (tram true 300) 201 is 11) ∷
    -- (11'), with 10 s by (11) at 400: 11.1 + 1/111 beyond it; 11.1 + 99/111 below 12, 11.1 + 100/111 above it; 11.1 + 210/111 below 13,
    -- 11.1 + 211/111 above it
    (clears (tram true 100) 400 is 10) ∷ (clears (tram true 100) 401 is 12) ∷
    (clears (tram true 100) 499 is 12) ∷ (clears (tram true 100) 500 is 13) ∷
    (clears (tram true 100) 610 is 13) ∷ (clears (tram true 100) 611 is 14) ∷
    -- (11) at 400 where that is larger: the root of 720/5 = 12, of 721/5 above it, where (11') is 11.1 + 1/111; the root of 1,000/5 above 14 where
    -- (11') is 11.1 + 321/111, below 14; but 11.1 + 433/111, above 15, is larger than that root
    (clears (tram true 320) 401 is 12) ∷ (clears (tram true 321) 401 is 13) ∷
    (clears (tram true 600) 721 is 15) ∷ (clears (tram true 600) 833 is 16) ∷
    -- (12): 72/12 = 6; (12'): 1 + 40/40 = 2
    (clears (walker 70 200 false false) 72 is 6) ∷ (clears (walker 70 200 false false) 73 is 7) ∷
    (clears (cyclist false) 40 is 2) ∷ (clears (cyclist false) 41 is 3) ∷
    -- (12) over an island, by the stream's own speed: 75/15 = 5
    (clears (over_island 70 200 false 60 20 40) 75 is 5) ∷ (clears (over_island 70 200 false 60 20 40) 76 is 6) ∷
    -- (13): the root of 90/10, less 1, is 2; of 89/10 below it
    (after5 (car 3 false 0) 75 is 3) ∷ (after5 (car 3 false 0) 74 is 4) ∷
    -- (15): the root of 45/5 is 3
    (after5 (tram true 300) 30 is 2) ∷ (after5 (tram true 300) 29 is 3) ∷
    -- (14), (16): 5.1 + 9 × 200/1000 less 9 × 100/1000 is 6
    (entry (tram false 100) (car 3 true 0) 100 100 is 6) ∷ (entry (tram false 100) (car 3 true 0) 100 99 is 7) ∷
    (entry (tram false 100) (tram false 300) 100 100 is 6) ∷ (entry (tram false 100) (tram false 300) 100 99 is 7) ∷
    -- 5.1 + 9 × 433/1000 less 9 × 999/1000 is 0.006
    (entry (tram false 100) (car 3 true 0) 333 999 is 1) ∷
    -- (18): 15/15 = 1; (18'): 50/50 = 1; 0 where not counted (17, 17')
    (after5 (walker 70 200 true false) 15 is 4) ∷ (after5 (walker 70 200 true false) 14 is 5) ∷
    (after5 (over_island 70 200 false 60 20 40) 15 is 4) ∷ (after5 (over_island 70 200 false 60 20 40) 14 is 5) ∷
    (after5 (cyclist true) 50 is 4) ∷ (after5 (cyclist true) 49 is 5) ∷ (after5 (cyclist false) 50 is 5) ∷
    -- needs: car 8, cyclist 6, tram 10 up to Table 3's 120 s, then 20
    (need_at 50 (car 3 false 0) is 8) ∷ (need_at 50 (cyclist false) is 6) ∷
    (need_at 120 (tram false 300) is 10) ∷ (need_at 121 (tram false 300) is 20) ∷
    -- (39): 120/12 = 10, 109/12 above 9; 160/16 = 10, 161/16 above it; 16 dm/s from 121 dm on, or up to 120 people
    (need_at 50 (walker 120 200 false false) is 10) ∷ (need_at 50 (walker 109 200 false false) is 10) ∷
    (need_at 50 (walker 160 200 false false) is 10) ∷ (need_at 50 (walker 161 200 false false) is 11) ∷
    (need_at 50 (walker 121 200 false false) is 8) ∷ (need_at 50 (walker 120 120 false false) is 8) ∷
    (need_at 50 (walker 120 121 false false) is 10) ∷
    -- (40): 3 s more if disturbed; at least 6
    (need_at 50 (walker 120 200 false true) is 13) ∷ (need_at 50 (walker 10 200 false false) is 6) ∷
    -- (39'): (60 + 20 + 40)/12 = 10; a decimetre more of carriageway or island, or the next packet, is above it; by 12 also where the crossing is
    -- by 16
    (need_at 50 (over_island 70 200 false 60 20 40) is 10) ∷ (need_at 50 (over_island 70 200 false 61 20 40) is 11) ∷
    (need_at 50 (over_island 70 200 false 60 21 40) is 11) ∷ (need_at 50 (over_island 70 200 false 60 20 45) is 11) ∷
    (need_at 50 (over_island 70 100 false 61 20 40) is 11) ∷
    -- 3 s more if disturbed; the crossing's 200/16 = 12.5 is larger than (70 + 20 + 50)/12 = 11.7; at least 6; (600 + 600 + 200)/12 = 116.7, and
    -- 3 s more
    (need_at 50 (over_island 70 200 true 60 20 40) is 13) ∷ (need_at 50 (over_island 200 500 false 70 20 50) is 13) ∷
    (need_at 50 (over_island 10 200 false 10 10 20) is 6) ∷ (need_at 50 (over_island 600 200 true 600 600 200) is 120) ∷
    -- (20): 21 × 541/4 = 2,840.25, and Table 1's last step
    (straight_flow 540 is 2700) ∷ (straight_flow 541 is 2840) ∷ (straight_flow 1500 is 7875) ∷
    -- (21): 7,200 × 30/181 = 1,193.3; (22): 12,000 × 30/181 = 1,988.9
    (turning_flow 30 1 is 1193) ∷ (turning_flow 30 2 is 1988) ∷
    -- 7,200 × 61/305 = 1,440 and 12,000 × 61/305 = 2,400; 7,200 × 65/321 = 1,457.9
    (turning_flow 61 1 is 1440) ∷ (turning_flow 61 2 is 2400) ∷ (turning_flow 65 1 is 1457) ∷
    -- (23): 1,925 × 1.30 = 2,502.5, × 0.70 = 1,347.5; Table 2: × 1.20 = 2,310, × 0.85 = 1,636.25
    (saturation 0 2 0 0 is 2502) ∷ (saturation 20 2 0 0 is 1347) ∷ (saturation 10 1 0 0 is 2310) ∷ (saturation 10 3 0 0 is 1636) ∷
    -- (25), (26): 1,925 × 400/430 = 1,790.6 with 10 % left, 400/410 = 1,878.0 with 10 % right, none below 10 %
    (saturation 10 2 10 0 is 1790) ∷ (saturation 10 2 0 10 is 1878) ∷ (saturation 10 2 9 0 is 1925) ∷
    -- (29): 6,000,000/1,925 = 3,116.8; a flow of S is 10,000 ten-thousandths
    (flow_ratio 600 1925 is 3117) ∷ (flow_ratio 1925 1925 is 10000) ∷
    -- (30), (31): 5 - 1 with cars, 6 + 4 without; 5 - 1 and 4 - 1 with cars, 6 + 2 without
    (lost_time whole_case is 14) ∷ (lost_time three is 15) ∷
    -- (33): 20² × (10,000 - 4,000) = 1,200,000 × 2; (32): 40 × (10,000 - 5,000) = 15,000 × 10 + 50,000
    (first_length true 4000 2 is 20) ∷ (first_length true 4001 2 is 21) ∷
    (first_length false 5000 10 is 40) ∷ (first_length false 5001 10 is 41) ∷
    -- (34) at T 38: 3,000 × 23/4,000 = 17.25 and 1,000 × 23/4,000 = 5.75; the second left over goes to phase 1
    -- (36): 17 + 1 - 1, 5 - 1, and the need; starts after 17 + 5 and 22 + 4 + 4
    (green_at three (sharing three 38) 0 is 17) ∷ (green_at three (sharing three 38) 1 is 4) ∷ (green_at three (sharing three 38) 2 is 6) ∷
    (start_at three (sharing three 38) 1 is 22) ∷ (start_at three (sharing three 38) 2 is 30) ∷
    -- the limits: bytes, streams, zones and counts of a junction file; phases; the longest cycle; a count's flow; a period (document 02, 2026-04)
    (most_bytes is 16384) ∷ (most_streams is 16) ∷ (most_zones is 64) ∷ (most_counts is 128) ∷ (most_phases is 6) ∷ (most_seconds is 180) ∷
    (least_flow is 1) ∷ (greatest_flow is 9999) ∷ (least_period is 1) ∷ (greatest_period is 4) ∷
    []

-- each value is the one worked by hand
pub every_value : map (λ (v : Value). v.value) values ≡ map (λ (v : Value). v.by_hand) values
unfolding values to_times to_flows to_phases
every_value = refl
