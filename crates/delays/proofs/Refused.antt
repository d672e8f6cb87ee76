-- What is refused: nothing exactly where the plan is accepted and the number is that of an existing car; the judge's refusal, number and place, where the
-- plan is not accepted; 9 with the number asked for where it is, and the number is that of no car.
use Rattle.std.specs.Prelude.{ℕ, true, false, List, ◌↔◌, ◌≡◌}
use Rattle.std.proofs.Common.{arith, sym, ◌∙◌}
use Rattle.std.proofs.Math.Path.{ap}
use Rattle.fields.specs.lemmas.Numbers.{Numbered, ask_numbered, first_numbered, passed_number}
use Rattle.fields.specs.Verdict.{ask_passed, first_refusal, both_passed, Passed, Refused}
use Rattle.junction_questions.specs.Questions.{count_refers}
use Rattle.junction_file.specs.Reading.{reading}
use Rattle.plan_file.specs.Plans.{plan_of}
use Rattle.plan_judge.specs.Judgement.{judgement}
use Rattle.plan_judge.proofs.Numbers.{judgement_numbered}
use Rattle.delays.specs.Answer.{car_asked, stream_figures, told, unless, delay_verdict, answer, refusal}
use Rattle.delays.specs.Refused.{unless_number}

module _ (junction plan : List ℕ) (n : ℕ) where
  asked_numbered : Numbered (car_asked (reading junction).junction n)
  unfolding car_asked
  asked_numbered = ask_numbered (count_refers (reading junction).junction n) 9 n Passed (omega arith) tt

  verdict_numbered : Numbered (delay_verdict junction plan n)
  unfolding delay_verdict
  verdict_numbered = first_numbered (judgement junction plan) _ (judgement_numbered junction plan) asked_numbered

  pub verdict_passed : (delay_verdict junction plan n ≡ Passed)
      ↔ ((judgement junction plan ≡ Passed) × (count_refers (reading junction).junction n ≡ true))
  unfolding delay_verdict car_asked
  verdict_passed =
      let both = both_passed (judgement junction plan) (car_asked (reading junction).junction n) in (
        λ e. ((both.0 e).0, (ask_passed (count_refers (reading junction).junction n) 9 n Passed (both.0 e).1).0),
        λ h. both.1 (h.0, simp h.1),
      )

  -- refusal 0
  pub delay_refused : (refusal (answer junction plan n) ≡ 0)
      ↔ ((judgement junction plan ≡ Passed) × (count_refers (reading junction).junction n ≡ true))
  unfolding answer
  delay_refused =
      let number = (unless_number (delay_verdict junction plan n) (stream_figures (reading junction).junction (plan_of plan) n)).0 in
      let passed = passed_number (delay_verdict junction plan n) verdict_numbered in (
        λ e. verdict_passed.0 (passed.0 (sym number ∙ e)),
        λ h. number ∙ passed.1 (verdict_passed.1 h),
      )

  -- the judge's refusal
  pub judge_first : (number place : ℕ) → judgement junction plan ≡ Refused number place → answer junction plan n ≡ Refused number place
  unfolding answer delay_verdict unless
  judge_first number place e =
      let verdict : delay_verdict junction plan n ≡ Refused number place = ap (λ v. first_refusal v (car_asked (reading junction).junction n)) e in
      ap (λ v. unless v (told (stream_figures (reading junction).junction (plan_of plan) n))) verdict

  -- then 9
  pub no_car : judgement junction plan ≡ Passed → count_refers (reading junction).junction n ≡ false → answer junction plan n ≡ Refused 9 n
  unfolding answer delay_verdict car_asked unless
  no_car accepted e = simp (accepted, e)
