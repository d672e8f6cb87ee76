-- Document 01, "Questions in order", as lists: the questions of a junction file, of a plan file with its rules, and of the calculation; and
-- those of the C library's figures.
use Rattle.std.specs.Prelude.{ℕ, zero, suc, ◌+◌, ◌-◌, ◌≤◌, ◌<◌, Bool, true, false, ◌&&◌, not, cond, List, [], ◌∷◌, ◌++◌, ◌≡◌, leb, ltb, length}
use Rattle.laws.specs.Ranges.{Between}
use Rattle.fields.specs.Bytes.{byte_at, number_at, field_end, fits, body_of}
use Rattle.fields.specs.Verdict.{Passed}
use Rattle.counts.specs.declared.Wanted.{Wanted}
use Rattle.junction.specs.declared.Junction.{Junction}
use Rattle.junction_places.specs.Blank.{blank}
use Rattle.junction_questions.specs.Questions.{in_order, length_right, in_range, within_limit, refers, named_by, count_refers, lacks_count, whole}
use Rattle.junction_places.specs.Places.{exists}
use Rattle.junction_file.specs.Reading.{with_field, reading}
use Rattle.plan_file.specs.Plans.{cycle_expected, cycle_in_range, green_expected, green_in_range, plan_verdict, plan_of}
use Rattle.plan_file.specs.Writing.{has_room}
use Rattle.plan_rules.specs.Rules.{need_met, capacity_met, zone_met}
use Rattle.cycle_search.specs.Planning.{ratios, cycle}
use Rattle.phase_lengths.specs.Phases.{ratio_sum}
use Rattle.stretches.specs.Table.{listed}
use Rattle.roadworks.specs.Roadworks.{in_range as approach_in_range, asked_of, phases_of, cycle_of, enough_waiting}
use Rattle.roadworks.specs.declared.Approach.{Approach}
use Rattle.givendra.specs.LentList.{list_rank}
use Rattle.givendra.specs.declared.CountRecord.{CountRecord}
use Rattle.demands.specs.Asked.{Question, question, each}
use Rattle.limits.specs.Limits.{most_bytes, no_cycle}

-- a field of a junction file at a place, where the fields before it say j: 2 do three bytes and the body fit? 3 is the tag known and in its
-- order? 4 is the length right? 5 is each number in range? 6 is the count of its sort within limit? 7 do the streams that
-- a zone names exist, a below b, in different phases, and is that of a count a car?
unfoldable pub field_asked : List ℕ → ℕ → Junction → List Question
field_asked s at j =
    question 2 at (fits s at)
    ∷ question 3 at (in_order j.held.last (byte_at s at))
    ∷ question 4 at (length_right (byte_at s at) (body_of s at))
    ∷ question 5 at (in_range (byte_at s at) (body_of s at))
    ∷ question 6 at (within_limit (byte_at s at) j.held)
    ∷ question 7 at (refers (byte_at s at) j.held.streams (body_of s at) (named_by j (body_of s at) 0) (named_by j (body_of s at) 1)) ∷ []

-- stream n is no car or has a usable count in the period
unfoldable pub counted : Junction → ℕ → Bool
counted j n = not (lacks_count j (n - 1))

-- then 8 (file length): heading, phases and a car there? 9 (stream, lowest first): has each car a usable count in the period?
unfoldable pub whole_asked : ℕ → Junction → List Question
whole_asked size j = question 8 size (whole j) ∷ each (counted j) 9 j.held.streams

unfoldable pub fields_asked : ℕ → List ℕ → ℕ → Junction → List Question
fields_asked zero s at j = whole_asked (length s) j
fields_asked (suc fuel) s at j =
    cond (ltb at (length s))
    (field_asked s at j ++ fields_asked fuel s (field_end s at) (with_field (byte_at s at) (body_of s at) j))
    (whole_asked (length s) j)

-- the junction's questions: 1 (place 0) is it within 16,384 bytes? Then field by field
unfoldable pub junction_asked : List ℕ → List Question
junction_asked s = question 1 0 (leb (length s) most_bytes) ∷ fields_asked (length s) s 0 blank

-- a field of a plan file that is due at a place: 12 (file length) has the file not ended? 11 does it fit? 12 is it the expected one?
-- 13 are its numbers in range?
unfoldable pub due_asked : List ℕ → ℕ → Bool → Bool → List Question
due_asked s at expected in_range =
    question 12 (length s) (ltb at (length s)) ∷ question 11 at (fits s at) ∷ question 12 at expected ∷ question 13 at in_range ∷ []

unfoldable pub greens_asked : ℕ → List ℕ → ℕ → ℕ → List Question
greens_asked zero s at n = question 12 at (leb (length s) at) ∷ []
greens_asked (suc streams) s at n =
    due_asked s at (green_expected s at n) (green_in_range s at) ++ greens_asked streams s (field_end s at) (n + 1)

unfoldable pub plan_asked : List ℕ → ℕ → List Question
plan_asked s streams = due_asked s 0 (cycle_expected s) (cycle_in_range (number_at s 3)) ++ greens_asked streams s (field_end s 0) 1

-- 15 need (stream), 16 capacity (stream), 17 zone (its number), lowest first
unfoldable pub rules_asked : Junction → List ℕ → List Question
rules_asked j plan =
    each (need_met j (plan_of plan)) 15 j.held.streams
    ++ (each (capacity_met j (plan_of plan)) 16 j.held.streams
    ++ each (zone_met j (plan_of plan)) 17 j.held.zones)

-- the junction file is taken, and the plan file well-formed for it
abbrev pub Formed : List ℕ → List ℕ → Type 0
Formed junction plan = ((reading junction).verdict ≡ Passed) × (plan_verdict plan (reading junction).junction.held.streams ≡ Passed)

-- each of the numbers 1 to n meets a rule
abbrev pub Every : (ℕ → Bool) → ℕ → Type 0
Every holds n = (k : ℕ) → Between 1 n k → holds k ≡ true

-- of the numbers 1 to n, k breaks a rule, and every lower one meets it
pub record FirstOf (holds : ℕ → Bool) (n k : ℕ) : Type 0 where
  pub range : Between 1 n k
  pub fails : holds k ≡ false
  pub lower : (i : ℕ) → 1 ≤ i → i < k → holds i ≡ true

-- 21 is Y below 10,000? 22 is there a cycle? 23 does the lent buffer hold the plan file?
unfoldable pub calculation_asked : Junction → ℕ → List Question
calculation_asked j size =
    question 21 0 (ltb (ratios j) 10000) ∷ question 22 0 (ltb (cycle j) no_cycle) ∷ question 23 0 (has_room j.held.streams size) ∷ []

-- where a plan or calculation needs a junction, the junction's questions come first
abbrev pub judge_asked : List ℕ → List ℕ → List Question
judge_asked junction plan =
    let j = (reading junction).junction in
    junction_asked junction ++ (plan_asked plan j.held.streams ++ rules_asked j plan)

-- a delay's: after the judge's, 9 with the number asked for, is it an existing car?
abbrev pub delay_asked : List ℕ → List ℕ → ℕ → List Question
delay_asked junction plan n = judge_asked junction plan ++ (question 9 n (count_refers (reading junction).junction n) ∷ [])

-- a shift's (document 02, 2026-06): after the plan's, and without the rules, 24 at 0, is the offset below C?
abbrev pub shift_asked : List ℕ → List ℕ → ℕ → List Question
shift_asked junction plan offset =
    junction_asked junction ++ (plan_asked plan (reading junction).junction.held.streams ++ (question 24 0 (ltb offset (number_at plan 3)) ∷ []))

abbrev pub work_asked : List ℕ → ℕ → List Question
work_asked junction size = junction_asked junction ++ calculation_asked (reading junction).junction size

-- the C library's figures: after the junction's questions, 7 with the number asked for, does the stream exist? For a car's figures: is it an
-- existing car? For a need, then 13 at 0: is the cycle from 1 to 180?
abbrev pub intergreen_asked : List ℕ → ℕ → ℕ → List Question
intergreen_asked junction from to =
    let j = (reading junction).junction in
    junction_asked junction ++ (question 7 from (exists j from) ∷ question 7 to (exists j to) ∷ [])

abbrev pub need_asked : List ℕ → ℕ → ℕ → List Question
need_asked junction n cycle =
    let j = (reading junction).junction in
    junction_asked junction ++ (question 7 n (exists j n) ∷ question 13 0 (cycle_in_range cycle) ∷ [])

abbrev pub car_asked : List ℕ → ℕ → List Question
car_asked junction n = junction_asked junction ++ (question 7 n (count_refers (reading junction).junction n) ∷ [])

-- the lent list: 9, place the stream asked for, is a record usable?
abbrev pub list_asked : List CountRecord → Wanted → List Question
list_asked list w = question 9 w.stream (leb 1 (list_rank w list)) ∷ []

-- portable signals (document 02, 2026-07), each at 0: 25 are stretch and speed listed? 26 is each flow and each S from 1 to 9,999? 21 is Y below
-- 10,000? 22 is there a cycle? 27 is each available waiting length above the needed one?
unfoldable pub portable_asked : ℕ → ℕ → Approach → Approach → List Question
portable_asked stretch speed a b =
    let w = asked_of stretch speed a b in
    question 25 0 (listed stretch speed)
    ∷ question 26 0 (approach_in_range a && approach_in_range b)
    ∷ question 21 0 (ltb (ratio_sum (phases_of w)) 10000)
    ∷ question 22 0 (ltb (cycle_of w) no_cycle)
    ∷ question 27 0 (enough_waiting a (cycle_of w) && enough_waiting b (cycle_of w)) ∷ []
