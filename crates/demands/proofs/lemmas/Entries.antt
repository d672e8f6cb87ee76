-- The answer of each entry, and of each function of the C library, is the refusal of the first of its questions that fails, or no refusal; and a
-- refusal leaves the lent buffer as it is.
use Rattle.std.specs.Prelude.{ℕ, List, ◌⊎◌, ◌≡◌, length}
use Rattle.junction_file.specs.Reading.{reading}
use Rattle.plan_file.specs.Plans.{plan_of}
use Rattle.delays.specs.Answer.{stream_figures, delay_verdict, answer as delayed}
use Rattle.delays.specs.Refused.{unless_number}
use Rattle.givendra.specs.Answers.{answer_of, judge_answer, shift_answer, plan_answer, junction_answer, figure, intergreen_answer, need_answer, saturation_answer, ratio_answer, delay_answer}
use Rattle.demands.specs.Asked.{AnswersBy}
use Rattle.demands.specs.Places.{JunctionPlace, JudgePlace, DelayPlace, ShiftPlace, WorkPlace, FigurePlace}
use Rattle.demands.specs.Questions.{junction_asked, judge_asked, delay_asked, shift_asked, work_asked, intergreen_asked, need_asked, car_asked}
use Rattle.demands.specs.lemmas.Answered.{read_answer, work_answer}
use Rattle.demands.proofs.lemmas.Answered.{judge_answer_lem}
use Rattle.demands.proofs.lemmas.Library.{junction_some, judge_some, delay_some, shift_some, work_some, figure_some}
use Rattle.demands.specs.lemmas.Library.{intergreen_answer_lem, need_answer_lem, car_answer}
use Rattle.demands.proofs.lemmas.Library.{delay_answer_lem, delay_told, shift_answer_lem, shift_told, intergreen_told, need_told, car_told}
use Rattle.demands.proofs.lemmas.Told.{junction_told, judge_told, work_told}
use Rattle.demands.specs.lemmas.Entries.{answers_by}

pub delay_holds : (junction plan : List ℕ) (n : ℕ)
    → AnswersBy (delay_answer junction plan n).refusal (delay_answer junction plan n).place (delay_asked junction plan n) (DelayPlace junction plan n)
unfolding delay_answer delayed
delay_holds junction plan n =
    let v = delay_verdict junction plan n in
    let is = unless_number v (stream_figures (reading junction).junction (plan_of plan) n) in
    rw (is.0, is.1) (answers_by v _ _ delay_some (delay_answer_lem junction plan n) (delay_told junction plan n))

module _ (junction plan : List ℕ) (offset : ℕ) where
  pub c_shift_holds : AnswersBy (shift_answer junction plan offset).refusal (shift_answer junction plan offset).place (shift_asked junction plan offset) (ShiftPlace junction plan)
  unfolding shift_answer answer_of
  c_shift_holds = answers_by _ _ _ shift_some (shift_answer_lem junction plan offset) (shift_told junction plan offset)

module _ (junction : List ℕ) where
  pub c_read_holds : AnswersBy (junction_answer junction).refusal (junction_answer junction).place (junction_asked junction) (JunctionPlace (length junction) (reading junction).junction.held.streams)
  unfolding junction_answer
  c_read_holds = answers_by _ _ _ junction_some (read_answer junction) (junction_told junction)

  pub c_judge_holds : (plan : List ℕ) → AnswersBy (judge_answer junction plan).refusal (judge_answer junction plan).place (judge_asked junction plan) (JudgePlace junction plan)
  unfolding judge_answer answer_of
  c_judge_holds plan = answers_by _ _ _ judge_some (judge_answer_lem junction plan) (judge_told junction plan)

  pub c_plan_holds : (size : ℕ) → AnswersBy (plan_answer junction size).refusal (plan_answer junction size).place (work_asked junction size) (WorkPlace junction)
  unfolding plan_answer
  c_plan_holds size = answers_by _ _ _ work_some (work_answer junction size) (work_told junction size)

  pub intergreen_holds : (from to : ℕ)
      → AnswersBy (intergreen_answer junction from to).refusal (intergreen_answer junction from to).place (intergreen_asked junction from to) (FigurePlace junction (λ p. (p ≡ from) ⊎ (p ≡ to)) ⊥)
  unfolding intergreen_answer figure
  intergreen_holds from to = answers_by _ _ _ figure_some (intergreen_answer_lem junction from to) (intergreen_told junction from to)

  pub need_holds : (n cycle : ℕ)
      → AnswersBy (need_answer junction n cycle).refusal (need_answer junction n cycle).place (need_asked junction n cycle) (FigurePlace junction (λ p. p ≡ n) (Unit {0}))
  unfolding need_answer figure
  need_holds n cycle = answers_by _ _ _ figure_some (need_answer_lem junction n cycle) (need_told junction n cycle)

  module _ (n : ℕ) where
    pub saturation_holds : AnswersBy (saturation_answer junction n).refusal (saturation_answer junction n).place (car_asked junction n) (FigurePlace junction (λ p. p ≡ n) ⊥)
    unfolding saturation_answer figure
    saturation_holds = answers_by _ _ _ figure_some (car_answer junction n) (car_told junction n)

    pub ratio_holds : AnswersBy (ratio_answer junction n).refusal (ratio_answer junction n).place (car_asked junction n) (FigurePlace junction (λ p. p ≡ n) ⊥)
    unfolding ratio_answer figure
    ratio_holds = answers_by _ _ _ figure_some (car_answer junction n) (car_told junction n)
