-- The customer's first demand, whole: the answer to every junction file, every plan file and every lent buffer, however malformed or short, is
-- a result or one numbered refusal with its place, and a refusal alters no lent byte.
--
-- `reading`, `judgement`, `worked` and `buffer`, `shift_verdict` and `shifted_plan` are what `junction_file::read`, `plan_judge::judge`,
-- `planner::work_out` and `offsets::shift` are proved to answer and to leave in what they are lent, with no `requires`, and to end; `delay_verdict` is
-- the verdict in the answer of `delays::delay` (delays/specs/Answer.antt), `portable_verdict` that of `roadworks::work_out`; `judge_answer`, `plan_answer`
-- and the like what the C library's functions are. Questions.antt has the questions in document 01's order, Asked.antt what it is that a verdict
-- `Answers` them, Places.antt the numbers that the paper lists for each entry, with their places.
use Rattle.std.specs.Prelude.{ℕ, ◌≤◌, List, ◌↔◌, ◌⊎◌, ◌≡◌, length}
use Rattle.fields.specs.Bytes.{number_at}
use Rattle.fields.specs.Verdict.{Refused}
use Rattle.counts.specs.declared.Wanted.{Wanted}
use Rattle.junction_file.specs.Reading.{reading}
use Rattle.plan_file.specs.Plans.{plan_of}
use Rattle.plan_rules.specs.Rules.{need_met, capacity_met, zone_met}
use Rattle.plan_judge.specs.Judgement.{judgement}
use Rattle.planner.specs.WorkingOut.{worked, buffer}
use Rattle.delays.specs.Answer.{delay_verdict}
use Rattle.offsets.specs.Shifting.{shift_verdict, shifted_plan}
use Rattle.roadworks.specs.Roadworks.{portable_verdict}
use Rattle.roadworks.specs.declared.Approach.{Approach}
use Rattle.givendra.specs.Answers.{judge_answer, shift_answer, plan_answer, junction_answer, intergreen_answer, need_answer, saturation_answer, ratio_answer, delay_answer, portable_answer}
use Rattle.givendra.specs.LentList.{newest_answer}
use Rattle.givendra.specs.declared.CountRecord.{CountRecord}
use Rattle.demands.specs.Asked.{Answers, AnswersBy}
use Rattle.demands.specs.Places.{JunctionPlace, JudgePlace, DelayPlace, ShiftPlace, WorkPlace, FigurePlace, ListPlace, PortablePlace}
use Rattle.demands.specs.Questions.{junction_asked, judge_asked, delay_asked, shift_asked, work_asked, intergreen_asked, need_asked, car_asked, list_asked, portable_asked, Formed, Every, FirstOf}

pub record FirstDemand : Type 0 where
  pub read : (junction : List ℕ) → Answers (reading junction).verdict (junction_asked junction) (JunctionPlace (length junction) (reading junction).junction.held.streams)
  pub judged : (junction plan : List ℕ) → Answers (judgement junction plan) (judge_asked junction plan) (JudgePlace junction plan)
  pub delayed : (junction plan : List ℕ) (n : ℕ) → Answers (delay_verdict junction plan n) (delay_asked junction plan n) (DelayPlace junction plan n)
  pub shifted : (junction plan : List ℕ) (offset : ℕ) → Answers (shift_verdict junction plan offset) (shift_asked junction plan offset) (ShiftPlace junction plan)
  pub planned : (junction lent : List ℕ) → Answers (worked junction (length lent)).verdict (work_asked junction (length lent)) (WorkPlace junction)
  -- 15, 16 and 17 in full: both files pass their questions, every earlier rule is met by every stream, the stream or zone of that place breaks
  -- its rule, and every lower one meets it
  pub refused_15 : (junction plan : List ℕ) (n : ℕ) → (judgement junction plan ≡ Refused 15 n)
      ↔ (Formed junction plan × FirstOf (need_met (reading junction).junction (plan_of plan)) (reading junction).junction.held.streams n)
  pub refused_16 : (junction plan : List ℕ) (n : ℕ) → (judgement junction plan ≡ Refused 16 n)
      ↔ (Formed junction plan × Every (need_met (reading junction).junction (plan_of plan)) (reading junction).junction.held.streams
      × FirstOf (capacity_met (reading junction).junction (plan_of plan)) (reading junction).junction.held.streams n)
  pub refused_17 : (junction plan : List ℕ) (zone : ℕ) → (judgement junction plan ≡ Refused 17 zone)
      ↔ (Formed junction plan × Every (need_met (reading junction).junction (plan_of plan)) (reading junction).junction.held.streams
      × Every (capacity_met (reading junction).junction (plan_of plan)) (reading junction).junction.held.streams
      × FirstOf (zone_met (reading junction).junction (plan_of plan)) (reading junction).junction.held.zones zone)
  -- 24 in full: both files pass their questions, and the offset is C or more
  pub refused_24 : (junction plan : List ℕ) (offset place : ℕ) → (shift_verdict junction plan offset ≡ Refused 24 place)
      ↔ (Formed junction plan × (number_at plan 3 ≤ offset) × (place ≡ 0))
  -- a refusal alters no lent byte
  pub unaltered : (junction lent : List ℕ) (number place : ℕ) → (worked junction (length lent)).verdict ≡ Refused number place → buffer junction lent ≡ lent
  pub unaltered_plan : (junction plan : List ℕ) (offset number place : ℕ) → shift_verdict junction plan offset ≡ Refused number place → shifted_plan junction plan offset ≡ plan
  -- the same of the C library's answers: junction files, judging, delays, shifting a lent plan file, working out into a lent buffer
  pub c_read : (junction : List ℕ)
      → AnswersBy (junction_answer junction).refusal (junction_answer junction).place (junction_asked junction) (JunctionPlace (length junction) (reading junction).junction.held.streams)
  pub c_judged : (junction plan : List ℕ)
      → AnswersBy (judge_answer junction plan).refusal (judge_answer junction plan).place (judge_asked junction plan) (JudgePlace junction plan)
  pub c_delayed : (junction plan : List ℕ) (n : ℕ)
      → AnswersBy (delay_answer junction plan n).refusal (delay_answer junction plan n).place (delay_asked junction plan n) (DelayPlace junction plan n)
  pub c_shifted : (junction plan : List ℕ) (offset : ℕ)
      → AnswersBy (shift_answer junction plan offset).refusal (shift_answer junction plan offset).place (shift_asked junction plan offset) (ShiftPlace junction plan)
  pub c_planned : (junction lent : List ℕ)
      → AnswersBy (plan_answer junction (length lent)).refusal (plan_answer junction (length lent)).place (work_asked junction (length lent)) (WorkPlace junction)
  pub c_unaltered : (junction lent : List ℕ) → 1 ≤ (plan_answer junction (length lent)).refusal → buffer junction lent ≡ lent
  pub c_unaltered_plan : (junction plan : List ℕ) (offset : ℕ) → 1 ≤ (shift_answer junction plan offset).refusal → shifted_plan junction plan offset ≡ plan
  -- of a figure: 7 at a stream's number that is asked for, 13 at 0 for a need's cycle
  pub intergreen : (junction : List ℕ) (from to : ℕ)
      → AnswersBy (intergreen_answer junction from to).refusal (intergreen_answer junction from to).place (intergreen_asked junction from to) (FigurePlace junction (λ p. (p ≡ from) ⊎ (p ≡ to)) ⊥)
  pub need : (junction : List ℕ) (n cycle : ℕ)
      → AnswersBy (need_answer junction n cycle).refusal (need_answer junction n cycle).place (need_asked junction n cycle) (FigurePlace junction (λ p. p ≡ n) (Unit {0}))
  pub saturation : (junction : List ℕ) (n : ℕ)
      → AnswersBy (saturation_answer junction n).refusal (saturation_answer junction n).place (car_asked junction n) (FigurePlace junction (λ p. p ≡ n) ⊥)
  pub ratio : (junction : List ℕ) (n : ℕ)
      → AnswersBy (ratio_answer junction n).refusal (ratio_answer junction n).place (car_asked junction n) (FigurePlace junction (λ p. p ≡ n) ⊥)
  -- portable signals, of any stretch, speed and approaches
  pub signalled : (stretch speed : ℕ) (a b : Approach) → Answers (portable_verdict stretch speed a b) (portable_asked stretch speed a b) PortablePlace
  pub c_signalled : (stretch speed : ℕ) (a b : Approach)
      → AnswersBy (portable_answer stretch speed a b).refusal (portable_answer stretch speed a b).place (portable_asked stretch speed a b) PortablePlace
  -- of a lent list: 9 at the stream asked for
  pub newest : (list : List CountRecord) (w : Wanted)
      → AnswersBy (newest_answer list w).refusal (newest_answer list w).place (list_asked list w) (ListPlace w.stream)
