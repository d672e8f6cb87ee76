-- What the C library's numbers say: refusal 0 exactly where nothing is refused, and the figure itself then; every other number 0 where
-- something is refused.
use Rattle.std.specs.Prelude.{ℕ, ◌<◌, Bool, true, List, ◌↔◌, ◌≡◌, Ok, Err}
use Rattle.std.proofs.Math.Path.{refl}
use Rattle.fields.specs.Bytes.{number_at}
use Rattle.fields.specs.lemmas.Numbers.{Numbered, first_numbered}
use Rattle.fields.specs.Verdict.{ask, ask_passed, first_refusal, Verdict, Passed}
use Rattle.junction_questions.specs.Questions.{count_refers}
use Rattle.junction_file.proofs.Numbers.{reading_numbered}
use Rattle.junction_file.specs.Reading.{reading}
use Rattle.plan_file.specs.Plans.{plan_verdict}
use Rattle.plan_judge.specs.Judgement.{judgement}
use Rattle.plan_judge.proofs.Numbers.{number_accepted}
use Rattle.offsets.proofs.Refused.{shift_passed, shift_number}
use Rattle.service_level.specs.Delays.{whole}
use Rattle.delays.specs.Answer.{answer, refusal, told_outcome, told_value, told_letter, Delayed}
use Rattle.delays.proofs.Refused.{delay_refused}
use Rattle.givendra.specs.Answers.{answer_of, judge_answer, shift_answer, delay_answer}

-- the plan is accepted exactly where the judge's refusal is 0
pub judge_accepts : (junction plan : List ℕ) → ((judge_answer junction plan).refusal ≡ 0) ↔ (judgement junction plan ≡ Passed)
unfolding judge_answer answer_of
judge_accepts junction plan = number_accepted junction plan

-- the starts are moved exactly where the file is taken, the plan well-formed for it and the offset below its cycle
module _ (junction plan : List ℕ) (offset : ℕ) where
  pub shift_told : ((shift_answer junction plan offset).refusal ≡ 0)
      ↔ (((reading junction).verdict ≡ Passed) × (plan_verdict plan (reading junction).junction.held.streams ≡ Passed) × (offset < number_at plan 3))
  unfolding shift_answer answer_of
  shift_told =
      let number = shift_number junction plan offset in
      let passed = shift_passed junction plan offset in (
        λ e. passed.0 (number.0 e),
        λ h. number.1 (passed.1 h),
      )

pub asked : (answer : Bool) (number place : ℕ) (later : Verdict) → (ask answer number place later ≡ Passed) ↔ ((answer ≡ true) × (later ≡ Passed))
asked answer number place later = (ask_passed answer number place later, λ both. rw both.0 both.1)

-- the questions of a figure, after the junction's
pub own_numbered : (junction : List ℕ) (own : Verdict) → Numbered own → Numbered (first_refusal (reading junction).verdict own)
own_numbered junction own n = first_numbered (reading junction).verdict own (reading_numbered junction) n

-- a delay is told exactly where the plan is accepted and the number is that of an existing car
module _ (junction plan : List ℕ) (n : ℕ) where
  pub delay_told : ((delay_answer junction plan n).refusal ≡ 0)
      ↔ ((judgement junction plan ≡ Passed) × (count_refers (reading junction).junction n ≡ true))
  unfolding delay_answer
  delay_told = delay_refused junction plan n

  nothing : (x : Delayed) → (refusal x ≡ 0 → ⊥) → (told_outcome x ≡ 0) × (told_letter x ≡ 0) × (told_value x ≡ whole 0)
  unfolding refusal told_outcome told_letter told_value
  nothing (Err r) some = (refl, refl, refl)
  nothing (Ok t) some = absurd (some refl)

  -- where something is refused, no outcome, no level and no value
  pub delay_nothing : ((delay_answer junction plan n).refusal ≡ 0 → ⊥)
      → ((delay_answer junction plan n).outcome ≡ 0) × ((delay_answer junction plan n).level ≡ 0) × ((delay_answer junction plan n).value ≡ whole 0)
  unfolding delay_answer
  delay_nothing some = nothing (answer junction plan n) some
