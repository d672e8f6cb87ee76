-- A file, or a pair of files, for every number that documents 01 and 02 list, from 2 to 24, with its place; one table with one proof for the judge,
-- and each refusal of the calculation and of the shift. 1 is of files longer than 16,384 bytes, which the first demand has for all of them.
use Rattle.std.specs.Prelude.{ℕ, zero, suc, List, [], ◌∷◌, ◌++◌, map, ◌≡◌, refl, take}
use Rattle.fields.specs.Verdict.{Verdict, Refused}
use Rattle.plan_judge.specs.Judgement.{judgement}
use Rattle.cycle_search.specs.Planning.{first_tried}
use Rattle.junction_file.specs.Reading.{reading}
use Rattle.offsets.specs.Shifting.{shift_verdict, shifted_plan}
use Rattle.planner.specs.WorkingOut.{worked}
use Rattle.whole_case.specs.Fields.{heading_for, heading, car, pedestrian, island, of_kind, cyclist, zone, count_for, count, cycle11, green12}
use Rattle.whole_case.specs.WholeCase.{WC, WI, WP, WT, plan_from, to_judge, to_shift, to_plan}

record Case : Type 0 where
  junction : List ℕ
  plan : List ℕ
  verdict : Verdict

case : List ℕ → List ℕ → Verdict → Case
case junction plan verdict = record { junction = junction; plan = plan; verdict = verdict }

-- so many cyclists of phase 1
cyclists : ℕ → List ℕ
unfolding cyclist
cyclists zero = []
cyclists (suc n) = cyclist 1 0 ++ cyclists n

-- two streams, fourteen cyclists, and one more field
seventeenth : List ℕ → List ℕ
unfolding cyclists
seventeenth field = heading ++ car 3 ++ pedestrian ++ cyclists 14 ++ field

table : List Case
unfolding case seventeenth WI WT heading_for heading car pedestrian island of_kind cyclist zone count_for count cycle11 green12
table =
    -- the last byte is cut off
    case (take 59 WC) WP (Refused 2 49) ∷
    -- a second heading
    case (heading ++ heading) WP (Refused 3 8) ∷
    -- a heading of 4 bytes and a count of 7, as before 2026-04
    case (1 ∷ 0 ∷ 4 ∷ 0 ∷ 7 ∷ 35 ∷ 40 ∷ []) WP (Refused 4 0) ∷
    case (heading ++ car 3 ++ pedestrian ++ zone 1 2 ++ 4 ∷ 0 ∷ 7 ∷ 1 ∷ 35 ∷ 40 ∷ 0 ∷ 0 ∷ 2 ∷ 88 ∷ []) WP (Refused 4 49) ∷
    -- kind 5 with the length of kind 3; kind 6 is unknown, whatever its length
    case (heading ++ car 3 ++ of_kind 5) WP (Refused 4 24) ∷
    case (heading ++ car 3 ++ of_kind 6) WP (Refused 5 24) ∷
    -- a packet of 22, between two multiples of 5
    case (heading ++ car 3 ++ island 60 20 22) WP (Refused 5 24) ∷
    -- amber 2
    case (heading ++ car 2 ++ pedestrian ++ zone 1 2 ++ count 40 600) WP (Refused 5 8) ∷
    -- period 0 in the heading, period 5 in the count
    case (heading_for 0 ++ car 3 ++ pedestrian ++ zone 1 2 ++ count 40 600) WP (Refused 5 0) ∷
    case (heading ++ car 3 ++ pedestrian ++ zone 1 2 ++ count_for 40 600 5) WP (Refused 5 49) ∷
    -- a seventeenth stream; and one with a number out of range, which comes first
    case (seventeenth (cyclist 1 0)) WP (Refused 6 120) ∷
    case (seventeenth (cyclist 1 7)) WP (Refused 5 120) ∷
    -- a zone with b before a
    case (heading ++ car 3 ++ pedestrian ++ zone 2 1 ++ count 40 600) WP (Refused 7 36) ∷
    -- an empty file
    case [] WP (Refused 8 0) ∷
    -- a count of the day after the design day
    case (heading ++ car 3 ++ pedestrian ++ zone 1 2 ++ count 41 600) WP (Refused 9 1) ∷
    -- a count of another period than the one that is planned
    case (heading_for 2 ++ car 3 ++ pedestrian ++ zone 1 2 ++ count 40 600) WP (Refused 9 1) ∷
    -- a plan cut to 6 bytes, to 5 bytes, and with a byte after it
    case WC (take 6 WP) (Refused 11 5) ∷
    case WC (take 5 WP) (Refused 12 5) ∷
    case WC (WP ++ 0 ∷ []) (Refused 12 21) ∷
    -- a cycle of 0
    case WC (cycle11 0 ++ green12 1 0 35 ++ green12 2 40 6) (Refused 13 0) ∷
    -- 5 s of green for the pedestrian, who needs 6
    case WC (cycle11 50 ++ green12 1 0 35 ++ green12 2 40 5) (Refused 15 2) ∷
    -- 9 s over the island, which needs 10
    case WI (cycle11 57 ++ green12 1 0 38 ++ green12 2 43 9) (Refused 15 2) ∷
    -- 8 s for the car, which needs them but has 600 × 50 to serve with 1,925 × 9
    case WC (cycle11 50 ++ green12 1 0 8 ++ green12 2 40 6) (Refused 16 1) ∷
    -- both: the need of stream 2 comes before the capacity of stream 1
    case WC (cycle11 50 ++ green12 1 0 8 ++ green12 2 40 5) (Refused 15 2) ∷
    -- a start of 39
    case WC (plan_from 39) (Refused 17 1) ∷
    -- the car 10 s after the stop tram, which (11') alone would let pass
    case WT (cycle11 64 ++ green12 1 0 40 ++ green12 2 44 10) (Refused 17 1) ∷
    []

every_case : map (λ c. judgement c.junction c.plan) table ≡ map (λ c. c.verdict) table
unfolding table to_judge
every_case = refl

-- the whole case with another flow
with_flow : ℕ → List ℕ
unfolding heading car pedestrian zone count
with_flow flow = heading ++ car 3 ++ pedestrian ++ zone 1 2 ++ count 40 flow

-- 2,500 E/h over S 1,925: Y is 12,988
refused_21 : worked (with_flow 2500) 21 ≡ record { verdict = Refused 21 0; cycle = 0; tried = 0; size = 0 }
unfolding with_flow to_plan
refused_21 = refl

-- 1,923 E/h: Y is 9,990, and T0 above 180
refused_22 : worked (with_flow 1923) 21 ≡ record { verdict = Refused 22 0; cycle = 0; tried = 0; size = 0 }
unfolding with_flow to_plan
refused_22 = refl

-- a byte too few for the plan
refused_23 : worked WC 20 ≡ record { verdict = Refused 23 0; cycle = 0; tried = 0; size = 0 }
unfolding to_plan
refused_23 = refl

-- an offset of the cycle, and one that 16 bits would cut to 10; no byte is altered
refused_24 : shift_verdict WC WP 50 ≡ Refused 24 0
unfolding to_shift
refused_24 = refl

refused_65546 : shift_verdict WC WP 65546 ≡ Refused 24 0
unfolding to_shift
refused_65546 = refl

kept_65546 : shifted_plan WC WP 65546 ≡ WP
unfolding to_shift
kept_65546 = refl

-- a start of 50 is asked before the offset
refused_13_first : shift_verdict WC (plan_from 50) 99 ≡ Refused 13 13
unfolding to_shift
refused_13_first = refl

-- two cars that conflict over 999 dm in phases 1 and 3, with a cyclist's phase after each: no neighbouring phases conflict
far_apart : List ℕ
unfolding heading cyclist
far_apart =
    heading ++ car_of 1 ++ cyclist 2 0 ++ car_of 3 ++ cyclist 4 0
    ++ (3 ∷ 0 ∷ 10 ∷ 1 ∷ 3 ∷ 3 ∷ 231 ∷ 0 ∷ 0 ∷ 0 ∷ 0 ∷ 0 ∷ 0 ∷ []) ++ count_of 1 ++ count_of 3
  where
    car_of : ℕ → List ℕ
    car_of phase = 2 ∷ 0 ∷ 13 ∷ 1 ∷ phase ∷ 3 ∷ 0 ∷ 0 ∷ 0 ∷ 1 ∷ 94 ∷ 1 ∷ 10 ∷ 2 ∷ 0 ∷ 0 ∷ []

    count_of : ℕ → List ℕ
    count_of stream = 4 ∷ 0 ∷ 8 ∷ stream ∷ 35 ∷ 40 ∷ 0 ∷ 0 ∷ 2 ∷ 88 ∷ 1 ∷ []

far_first : first_tried (reading far_apart).junction ≡ 70
unfolding far_apart to_plan
far_first = refl

-- each of the 111 lengths from 70 to 180 is tried, and none is accepted
far_none : worked far_apart 37 ≡ record { verdict = Refused 22 0; cycle = 0; tried = 0; size = 0 }
unfolding far_apart to_plan
far_none = refl
