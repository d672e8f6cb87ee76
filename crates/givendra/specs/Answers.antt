-- The answers to programs in other languages: the paper's number and place of the verdict, and the figures, 0 where something is refused.
use Rattle.planner.specs.declared.WorkedOut.{WorkedOut}
use Rattle.fields.specs.declared.Refusal.{Refusal}
use Rattle.std.specs.Prelude.{ℕ, cond, List, Result, Ok, Err}
use Rattle.fields.specs.Verdict.{number_of, place_of, is_refused, ask, first_refusal, Verdict, Passed}
use Rattle.junction.specs.declared.Junction.{Junction}
use Rattle.junction_questions.specs.Questions.{count_refers}
use Rattle.junction_places.specs.Places.{exists}
use Rattle.junction_file.specs.Reading.{reading}
use Rattle.junction_figures.specs.Figures.{pair_entry, stream_need, stream_saturation, stream_ratio}
use Rattle.plan_file.specs.Plans.{cycle_in_range}
use Rattle.plan_judge.specs.Judgement.{judgement}
use Rattle.offsets.specs.Shifting.{shift_verdict}
use Rattle.planner.specs.WorkingOut.{worked}
use Rattle.service_level.specs.Delays.{outcome, value, letter}
use Rattle.service_level.specs.declared.Service.{Service}
use Rattle.service_level.specs.declared.Level.{Level}
use Rattle.delays.specs.Answer.{answer, refusal, refused_at, told_outcome, told_value, told_letter, Delayed}
use Rattle.roadworks.specs.Roadworks.{portable, refusal as portable_refusal, refused_at as portable_at, figures as portable_figures, Portable}
use Rattle.roadworks.specs.declared.Approach.{Approach}
use Rattle.roadworks.specs.declared.Timing.{Timing}
use Rattle.givendra.specs.declared.JudgeAnswer.{JudgeAnswer}
use Rattle.givendra.specs.declared.PlanAnswer.{PlanAnswer}
use Rattle.givendra.specs.declared.JunctionAnswer.{JunctionAnswer}
use Rattle.givendra.specs.declared.Figure.{Figure}
use Rattle.givendra.specs.declared.DelayAnswer.{DelayAnswer}
use Rattle.givendra.specs.declared.PortableAnswer.{PortableAnswer}

-- the release: GIVENDRA_RELEASE of include/givendra.h
abbrev pub release : ℕ
release = 2

-- a verdict's number and place
unfoldable pub answer_of : Verdict → JudgeAnswer
answer_of v = record { place = place_of v; refusal = number_of v }

-- the judge's verdict
unfoldable pub judge_answer : List ℕ → List ℕ → JudgeAnswer
judge_answer junction plan = answer_of (judgement junction plan)

-- the verdict on a shift (document 02, 2026-06)
unfoldable pub shift_answer : List ℕ → List ℕ → ℕ → JudgeAnswer
shift_answer junction plan offset = answer_of (shift_verdict junction plan offset)

-- what is worked out, or the refusal, with 0 for the three numbers
abbrev pub worked_answer : Result WorkedOut Refusal → PlanAnswer
worked_answer (Ok w) = record { place = 0; refusal = 0; cycle = w.cycle; tried = w.tried; size = w.size }
worked_answer (Err r) = record { place = r.place; refusal = r.number; cycle = 0; tried = 0; size = 0 }

-- with a buffer of so many bytes
unfoldable pub plan_answer : List ℕ → ℕ → PlanAnswer
plan_answer junction size =
    record {
      place = place_of (worked junction size).verdict;
      refusal = number_of (worked junction size).verdict;
      cycle = (worked junction size).cycle;
      tried = (worked junction size).tried;
      size = (worked junction size).size;
    }

-- a number of the junction, 0 where the file is refused
abbrev unless_refused : Verdict → ℕ → ℕ
unless_refused v x = cond (is_refused v) 0 x

-- what a junction that is taken holds, or the refusal, with 0 for each number
abbrev pub read_answer : Result Junction Refusal → JunctionAnswer
read_answer (Ok j) =
    record {
      place = 0;
      refusal = 0;
      design_day = j.day;
      period = j.period;
      streams = j.held.streams;
      zones = j.held.zones;
      counts = j.held.counts;
    }
read_answer (Err r) =
    record { place = r.place; refusal = r.number; design_day = 0; period = 0; streams = 0; zones = 0; counts = 0 }

-- what a junction file holds
unfoldable pub junction_answer : List ℕ → JunctionAnswer
junction_answer junction =
    record {
      place = place_of (reading junction).verdict;
      refusal = number_of (reading junction).verdict;
      design_day = unless_refused (reading junction).verdict (reading junction).junction.day;
      period = unless_refused (reading junction).verdict (reading junction).junction.period;
      streams = unless_refused (reading junction).verdict (reading junction).junction.held.streams;
      zones = unless_refused (reading junction).verdict (reading junction).junction.held.zones;
      counts = unless_refused (reading junction).verdict (reading junction).junction.held.counts;
    }

-- a figure, and the verdict on what was asked
unfoldable pub figure : Verdict → ℕ → Figure
figure v x = record { place = place_of v; refusal = number_of v; value = unless_refused v x }

-- what is answered of a junction, or the refusal, with 0 for the figure
abbrev pub figure_answer : Result ℕ Refusal → Figure
figure_answer (Ok x) = record { place = 0; refusal = 0; value = x }
figure_answer (Err r) = record { place = r.place; refusal = r.number; value = 0 }

-- a function's own questions, after the junction's: 7, place the number asked for, does the stream exist?
unfoldable pub intergreen_verdict : Junction → ℕ → ℕ → Verdict
intergreen_verdict j from to = ask (exists j from) 7 from (ask (exists j to) 7 to Passed)

-- 7, then 13, place 0: is the cycle in range?
unfoldable pub need_verdict : Junction → ℕ → ℕ → Verdict
need_verdict j n cycle = ask (exists j n) 7 n (ask (cycle_in_range cycle) 13 0 Passed)

-- 7: is it an existing car?
unfoldable pub car_verdict : Junction → ℕ → Verdict
car_verdict j n = ask (count_refers j n) 7 n Passed

-- the entry from one stream to another, (19)
unfoldable pub intergreen_answer : List ℕ → ℕ → ℕ → Figure
intergreen_answer junction from to =
    figure (first_refusal (reading junction).verdict (intergreen_verdict (reading junction).junction from to))
    (pair_entry (reading junction).junction from to)

-- the needed green of a stream at a cycle
unfoldable pub need_answer : List ℕ → ℕ → ℕ → Figure
need_answer junction n cycle =
    figure (first_refusal (reading junction).verdict (need_verdict (reading junction).junction n cycle))
    (stream_need (reading junction).junction n cycle)

-- the saturation flow of a car stream, (28)
unfoldable pub saturation_answer : List ℕ → ℕ → Figure
saturation_answer junction n =
    figure (first_refusal (reading junction).verdict (car_verdict (reading junction).junction n))
    (stream_saturation (reading junction).junction n)

-- the flow ratio y of a car stream
unfoldable pub ratio_answer : List ℕ → ℕ → Figure
ratio_answer junction n =
    figure (first_refusal (reading junction).verdict (car_verdict (reading junction).junction n))
    (stream_ratio (reading junction).junction n)

-- what is told of a car stream in a plan (document 02, 2026-05)
abbrev pub told_answer : Service → Level → DelayAnswer
told_answer s l = record { place = 0; refusal = 0; outcome = outcome s; level = letter l; value = value s }

abbrev pub answer_of_delay : Delayed → DelayAnswer
answer_of_delay x =
    record { place = refused_at x; refusal = refusal x; outcome = told_outcome x; level = told_letter x; value = told_value x }

-- the delay of a stream: the refusal's number and place, the number and the value of what is told, and the level's letter
unfoldable pub delay_answer : List ℕ → List ℕ → ℕ → DelayAnswer
delay_answer junction plan n =
    record {
      place = refused_at (answer junction plan n);
      refusal = refusal (answer junction plan n);
      outcome = told_outcome (answer junction plan n);
      level = told_letter (answer junction plan n);
      value = told_value (answer junction plan n);
    }

-- portable signals (document 02, 2026-07): the refusal's number and place, and the figures, each 0 where something is refused
abbrev pub portable_by : ℕ → ℕ → Timing → PortableAnswer
portable_by number at x =
    record {
      place = at;
      refusal = number;
      clearing_time = x.table.clearing;
      lost_time = x.table.lost;
      cycle = x.cycle;
      first_start = x.greens.first.start;
      first_length = x.greens.first.length;
      second_start = x.greens.second.start;
      second_length = x.greens.second.length;
    }

abbrev pub timed_answer : Timing → PortableAnswer
timed_answer x = portable_by 0 0 x

abbrev pub answer_of_portable : Portable → PortableAnswer
answer_of_portable x = portable_by (portable_refusal x) (portable_at x) (portable_figures x)

unfoldable pub portable_answer : ℕ → ℕ → Approach → Approach → PortableAnswer
portable_answer stretch speed a b =
    portable_by (portable_refusal (portable stretch speed a b)) (portable_at (portable stretch speed a b)) (portable_figures (portable stretch speed a b))
