-- The whole case of document 01, byte for byte, through the definitions: nothing that is promised of a file is empty.
use Rattle.std.specs.Prelude.{ℕ, List, [], ◌∷◌, ◌++◌, ◌≡◌, refl, replicate}
use Rattle.std.specs.Float.{binary64}
use Rattle.std.specs.Float.Ieee.{to_bits}
use Rattle.laws.specs.Filled.{filled}
use Rattle.laws.specs.Largest.{largest_of}
use Rattle.laws.specs.Search.{first_of, first_below}
use Rattle.fields.specs.Bytes.{byte_at, number_at, field_end, fits, body_of, byte_in, number_in}
use Rattle.fields.specs.Verdict.{first_failing, ask_each, Passed, Refused}
use Rattle.counts.specs.Newest.{usable, rank, rank_flow}
use Rattle.junction.specs.Layout.{design_day, planned_period, heading_in_range, radius_in_range, shares_in_range, car_in_range, car_of, tram_in_range, tram_of}
use Rattle.junction.specs.Layout.{pedestrian_in_range, walk_of, pedestrian_of, cyclist_in_range, cyclist_of, island_in_range, island_of}
use Rattle.junction.specs.Layout.{stream_length_right, stream_in_range, kind_of, stream_of, zone_in_range, zone_of, count_in_range, count_of}
use Rattle.junction_questions.specs.Questions.{in_order, length_right, in_range, within_limit}
use Rattle.junction_places.specs.Places.{stream_at, count_at, zone_at, stream_numbered, zone_numbered}
use Rattle.junction_questions.specs.Questions.{zone_refers, car_refers, refers, body_verdict, field_verdict, in_phase, first_in_phase, phase_used, phase_follows, phases_right, car_at}
use Rattle.junction_places.specs.Places.{numbered, exists}
use Rattle.junction_questions.specs.Questions.{count_refers, first_car, lacks_count, first_lacking, counts_verdict, whole, whole_verdict}
use Rattle.junction_places.specs.Ranks.{rank_at, newest_rank}
use Rattle.junction_file.specs.Reading.{with_heading, with_stream, with_zone, with_count, with_field, after_field, read_field, at_end, read_from, reading}
use Rattle.junction_figures.specs.Figures.{forward, backward, zone_entry, pair_entry, stream_need, stream_flow, stream_saturation, stream_ratio}
use Rattle.plan_file.specs.Plans.{due_verdict, cycle_expected, cycle_verdict, green_expected, green_in_range, green_verdict, greens_from, plan_verdict, green_at as file_green, plan_of, green_of}
use Rattle.plan_file.specs.Writing.{cycle_field, green_field, green_fields, plan_file, plan_size, has_room, written}
use Rattle.plan_rules.specs.Rules.{need_met, enough_capacity, capacity_met, off, zone_clear, zone_met, rules_verdict}
use Rattle.plan_judge.specs.Judgement.{plan_judgement, judgement}
use Rattle.phase_lengths.specs.Phases.{lost_time}
use Rattle.junction_phases.specs.JunctionPhases.{is_in, car_in, has_cars, phase_ratio, phase_need, phase_count, has_pedestrian_or_tram, next_phase, entry_between, phase_entry, intergreen, phase_at, phases_at}
use Rattle.cycle_search.specs.Planning.{ratios, first_tried, phase_green, plan_at, outcome, works, cycle_from, cycle, found}
use Rattle.offsets.specs.Shifting.{moved, start_place, with_number, shifted, file_verdict, shift_verdict, shifted_plan}
use Rattle.planner.specs.WorkingOut.{calculation, junction_verdict, junction_worked, junction_buffer, worked, buffer}
use Rattle.delays.specs.Answer.{car_asked, stream_figures, told, unless, delay_verdict, answer, refusal, refused_at, told_outcome, told_value, told_letter}
use Rattle.worked_values.specs.Computed.{to_times, to_flows, to_phases, to_delays}
use Rattle.whole_case.specs.Fields.{heading_for, heading, car, pedestrian, island, stop_tram, zone_by, zone, count_for, count, cycle11, green12}

-- WC: the junction file with design day 9,000, the car, the pedestrian, their zone, and 600 E/h counted on the design day, all in period 1
unfoldable pub WC : List ℕ
unfolding heading car pedestrian zone count
WC = heading ++ car 3 ++ pedestrian ++ zone 1 2 ++ count 40 600

-- WP: its plan file, with the second stream's start
unfoldable pub plan_from : ℕ → List ℕ
unfolding cycle11 green12
plan_from start = cycle11 50 ++ green12 1 0 35 ++ green12 2 start 6

unfoldable pub WP : List ℕ
unfolding plan_from
WP = plan_from 40

-- byte for byte; the plan's bytes are those that document 01 prints
wc_bytes : WC ≡ 1 ∷ 0 ∷ 5 ∷ 0 ∷ 7 ∷ 35 ∷ 40 ∷ 1 ∷
    2 ∷ 0 ∷ 13 ∷ 1 ∷ 1 ∷ 3 ∷ 0 ∷ 0 ∷ 0 ∷ 1 ∷ 94 ∷ 1 ∷ 10 ∷ 2 ∷ 0 ∷ 0 ∷
    2 ∷ 0 ∷ 9 ∷ 3 ∷ 2 ∷ 12 ∷ 0 ∷ 70 ∷ 0 ∷ 200 ∷ 0 ∷ 0 ∷
    3 ∷ 0 ∷ 10 ∷ 1 ∷ 2 ∷ 0 ∷ 140 ∷ 0 ∷ 75 ∷ 0 ∷ 70 ∷ 0 ∷ 0 ∷
    4 ∷ 0 ∷ 8 ∷ 1 ∷ 35 ∷ 40 ∷ 0 ∷ 0 ∷ 2 ∷ 88 ∷ 1 ∷ []
unfolding WC
wc_bytes = refl

wp_bytes : WP ≡ 17 ∷ 0 ∷ 2 ∷ 0 ∷ 50 ∷ 18 ∷ 0 ∷ 5 ∷ 1 ∷ 0 ∷ 0 ∷ 0 ∷ 35 ∷ 18 ∷ 0 ∷ 5 ∷ 2 ∷ 0 ∷ 40 ∷ 0 ∷ 6 ∷ []
unfolding WP
wp_bytes = refl

-- the definitions that a closed theorem computes with
unfoldable pub to_read : Unit {0}
unfolding WC WP plan_from reading read_from at_end read_field after_field with_field with_heading with_stream with_zone with_count
    field_verdict body_verdict in_order length_right in_range within_limit refers zone_refers car_refers numbered exists
    stream_numbered stream_at count_at zone_at whole_verdict whole counts_verdict first_lacking lacks_count newest_rank rank_at
    first_car car_at phases_right phase_follows phase_used first_in_phase in_phase largest_of first_below first_of rank usable
    design_day planned_period heading_in_range radius_in_range shares_in_range car_in_range car_of tram_in_range tram_of pedestrian_in_range walk_of pedestrian_of cyclist_in_range cyclist_of
    island_in_range island_of stream_length_right stream_in_range kind_of stream_of zone_in_range zone_of count_in_range count_of
    byte_at number_at field_end fits body_of byte_in number_in
to_read = tt

taken : (reading WC).verdict ≡ Passed
unfolding to_read
taken = refl

unfoldable pub to_judge : Unit {0}
unfolding to_read to_times to_flows filled first_failing ask_each rank_flow zone_numbered
    forward backward zone_entry pair_entry stream_need stream_flow stream_saturation stream_ratio
    due_verdict cycle_expected cycle_verdict green_expected green_in_range green_verdict greens_from plan_verdict file_green plan_of green_of
    need_met enough_capacity capacity_met off zone_clear zone_met rules_verdict plan_judgement judgement
to_judge = tt

saturation : stream_saturation (reading WC).junction 1 ≡ 1925
unfolding to_judge
saturation = refl

flow_ratio_lem : stream_ratio (reading WC).junction 1 ≡ 3117
unfolding to_judge
flow_ratio_lem = refl

entry_from_1 : pair_entry (reading WC).junction 1 2 ≡ 5
unfolding to_judge
entry_from_1 = refl

entry_from_2 : pair_entry (reading WC).junction 2 1 ≡ 4
unfolding to_judge
entry_from_2 = refl

formed : plan_verdict WP (reading WC).junction.held.streams ≡ Passed
unfolding to_judge
formed = refl

accepted : judgement WC WP ≡ Passed
unfolding to_judge
accepted = refl

too_early : judgement WC (plan_from 39) ≡ Refused 17 1
unfolding to_judge
too_early = refl

-- its car waits 3.455 s (document 02, 2026-05), by the value's 64 bits, at level A; the pedestrian, and a stream that is not there, get 9
unfoldable pub to_delay : Unit {0}
unfolding to_judge to_delays count_refers car_asked stream_figures told unless delay_verdict answer refusal refused_at told_outcome told_value told_letter
to_delay = tt

delay_outcome : told_outcome (answer WC WP 1) ≡ 1
unfolding to_delay
delay_outcome = refl

delay_value : to_bits binary64 (told_value (answer WC WP 1)) ≡ 0x400b_a3e6_c2ee_7cec
unfolding to_delay
delay_value = refl

delay_letter : told_letter (answer WC WP 1) ≡ 65
unfolding to_delay
delay_letter = refl

delay_of_no_car : answer WC WP 2 ≡ Refused 9 2
unfolding to_delay
delay_of_no_car = refl

delay_of_no_stream : answer WC WP 257 ≡ Refused 9 257
unfolding to_delay
delay_of_no_stream = refl

delay_too_early : answer WC (plan_from 39) 257 ≡ Refused 17 1
unfolding to_delay
delay_too_early = refl

-- shifted by 10 (document 02, 2026-06): the starts 0 and 40 become 10 and 0, since 40 + 10 is the cycle; and by 49 they become 49 and 39
unfoldable pub to_shift : Unit {0}
unfolding to_judge moved start_place with_number shifted file_verdict shift_verdict shifted_plan
to_shift = tt

shift_passed : shift_verdict WC WP 10 ≡ Passed
unfolding to_shift
shift_passed = refl

shifted_by_10 : shifted_plan WC WP 10 ≡ 17 ∷ 0 ∷ 2 ∷ 0 ∷ 50 ∷ 18 ∷ 0 ∷ 5 ∷ 1 ∷ 0 ∷ 10 ∷ 0 ∷ 35 ∷ 18 ∷ 0 ∷ 5 ∷ 2 ∷ 0 ∷ 0 ∷ 0 ∷ 6 ∷ []
unfolding to_shift
shifted_by_10 = refl

shifted_by_49 : shifted_plan WC WP 49 ≡ 17 ∷ 0 ∷ 2 ∷ 0 ∷ 50 ∷ 18 ∷ 0 ∷ 5 ∷ 1 ∷ 0 ∷ 49 ∷ 0 ∷ 35 ∷ 18 ∷ 0 ∷ 5 ∷ 2 ∷ 0 ∷ 39 ∷ 0 ∷ 6 ∷ []
unfolding to_shift
shifted_by_49 = refl

-- a plan that the judge refuses is shifted too
early_shifted : shifted_plan WC (plan_from 39) 11 ≡ 17 ∷ 0 ∷ 2 ∷ 0 ∷ 50 ∷ 18 ∷ 0 ∷ 5 ∷ 1 ∷ 0 ∷ 11 ∷ 0 ∷ 35 ∷ 18 ∷ 0 ∷ 5 ∷ 2 ∷ 0 ∷ 0 ∷ 0 ∷ 6 ∷ []
unfolding to_shift
early_shifted = refl

unfoldable pub to_plan : Unit {0}
unfolding to_judge to_phases cycle_field green_field green_fields plan_file plan_size has_room written
    is_in car_in has_cars phase_ratio phase_need phase_count has_pedestrian_or_tram next_phase entry_between phase_entry intergreen phase_at phases_at
    ratios first_tried phase_green plan_at outcome works cycle_from cycle found calculation junction_verdict junction_worked junction_buffer worked buffer
to_plan = tt

lost_time_lem : lost_time (phases_at (reading WC).junction 50) ≡ 14
unfolding to_plan
lost_time_lem = refl

first_length_lem : first_tried (reading WC).junction ≡ 50
unfolding to_plan
first_length_lem = refl

planned : worked WC 21 ≡ record { verdict = Passed; cycle = 50; tried = 1; size = 21 }
unfolding to_plan
planned = refl

-- every byte of the plan is written, and no other
left : buffer WC (replicate 23 255) ≡ WP ++ (255 ∷ 255 ∷ [])
unfolding to_plan
left = refl

-- WI: the whole case with an island in its crossing (document 02, 2026-01), B 60, u 20, P 40: (60 + 20 + 40)/12 s are needed
unfoldable pub WI : List ℕ
unfolding heading car island zone count
WI = heading ++ car 3 ++ island 60 20 40 ++ zone 1 2 ++ count 40 600

-- L is 5 - 1 + 10 + 4 = 18, T0 57, and the plan of 57 s is accepted; the car has 57 - 18 - 1
island_planned : worked WI 21 ≡ record { verdict = Passed; cycle = 57; tried = 1; size = 21 }
unfolding WI to_plan
island_planned = refl

island_left : buffer WI (replicate 21 255) ≡ cycle11 57 ++ green12 1 0 38 ++ green12 2 43 10
unfolding WI cycle11 green12 to_plan
island_left = refl

-- WT: the whole case with a stop tram of 325 dm for the pedestrian, which clears 401 dm (document 02, 2026-02): by (11) at 400 it leaves after
-- 12.04 s, and the car reaches after 2 s
unfoldable pub WT : List ℕ
unfolding heading car stop_tram zone_by count
WT = heading ++ car 3 ++ stop_tram 325 ++ zone_by 1 2 140 75 401 0 ++ count 40 600

-- so M is 4 and 11, L 4 - 1 + 10 + 11 = 24 and T0 65, and the plan of 65 s is accepted; the car has 65 - 24 - 1
floor_planned : worked WT 21 ≡ record { verdict = Passed; cycle = 65; tried = 1; size = 21 }
unfolding WT to_plan
floor_planned = refl

floor_left : buffer WT (replicate 21 255) ≡ cycle11 65 ++ green12 1 0 40 ++ green12 2 44 10
unfolding WT cycle11 green12 to_plan
floor_left = refl

-- the whole case with other distances in its zone (document 02, 2026-03)
unfoldable pub with_distances : ℕ → ℕ → ℕ → ℕ → List ℕ
unfolding heading car pedestrian zone_by count
with_distances clearing1 reaching1 clearing2 reaching2 =
    heading ++ car 3 ++ pedestrian ++ zone_by 1 2 clearing1 reaching1 clearing2 reaching2 ++ count 40 600

-- from 1 to 2 as before with the two distances of that direction, 140 and 0; from 2 to 1 the pedestrian leaves at once
there_alone : (pair_entry (reading (with_distances 140 999 0 0)).junction 1 2 ≡ 5) × (pair_entry (reading (with_distances 140 999 0 0)).junction 2 1 ≡ 0)
unfolding with_distances to_judge
there_alone = (refl, refl)

-- from 2 to 1 as before with the two distances of that direction, 70 and 75; from 1 to 2 the car leaves after amber + 1 s
back_alone : (pair_entry (reading (with_distances 0 75 70 999)).junction 2 1 ≡ 4) × (pair_entry (reading (with_distances 0 75 70 999)).junction 1 2 ≡ 4)
unfolding with_distances to_judge
back_alone = (refl, refl)

-- the whole case with 600 E/h counted in period 1 and another flow in period 2, both on the design day (document 02, 2026-04), planned in a
-- period
unfoldable pub two_periods : ℕ → ℕ → List ℕ
unfolding heading_for car pedestrian zone count_for
two_periods period flow = heading_for period ++ car 3 ++ pedestrian ++ zone 1 2 ++ count_for 40 600 1 ++ count_for 40 flow 2

-- in period 1 the plan is that of the whole case; in period 2, with 900 E/h, Y is 4,676 and T0 57
first_planned : worked (two_periods 1 900) 21 ≡ record { verdict = Passed; cycle = 50; tried = 1; size = 21 }
unfolding two_periods to_plan
first_planned = refl

first_left : buffer (two_periods 1 900) (replicate 21 255) ≡ WP
unfolding two_periods to_plan
first_left = refl

second_planned : worked (two_periods 2 900) 21 ≡ record { verdict = Passed; cycle = 57; tried = 1; size = 21 }
unfolding two_periods to_plan
second_planned = refl

second_left : buffer (two_periods 2 900) (replicate 21 255) ≡ cycle11 57 ++ green12 1 0 42 ++ green12 2 47 6
unfolding two_periods cycle11 green12 to_plan
second_left = refl

-- the whole case's plan has no room for 1,400 E/h, in whose period alone it is refused
first_accepted : judgement (two_periods 1 1400) WP ≡ Passed
unfolding two_periods to_judge
first_accepted = refl

second_refused : judgement (two_periods 2 1400) WP ≡ Refused 16 1
unfolding two_periods to_judge
second_refused = refl
