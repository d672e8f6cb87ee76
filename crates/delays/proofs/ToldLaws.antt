-- What is told of every accepted plan and every car of its junction: by formulas whose divisors are all finite and above 0; no red exactly where the
-- green and one second fill the cycle; a delay that is finite and above 0; a saturation that is finite and 1 or more, and only where the flow meets its
-- capacity exactly.
use Rattle.std.specs.Prelude.{ℕ, true, List, ◌≡◌}
use Rattle.fields.specs.Verdict.{Passed}
use Rattle.junction_questions.specs.Questions.{count_refers}
use Rattle.junction_file.specs.Reading.{reading}
use Rattle.plan_judge.specs.Judgement.{judgement}
use Rattle.delays.specs.Answer.{stream_figures, told, unless, answer}
use Rattle.delays.proofs.Refused.{verdict_passed}
use Rattle.delays.specs.Told.{j, p}

module _ (junction plan : List ℕ) (n : ℕ) (accepted : judgement junction plan ≡ Passed) (car : count_refers (reading junction).junction n ≡ true) where
  -- the answer is what is told
  pub is_told : answer junction plan n ≡ told (stream_figures (j junction plan n accepted car) (p junction plan n accepted car) n)
  unfolding answer unless
  is_told = rw ((verdict_passed junction plan n).1 (accepted, car))
