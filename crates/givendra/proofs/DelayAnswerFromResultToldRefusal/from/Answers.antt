-- The match on the answer is the definition's.
use Rattle.service_level.specs.Literals.{is_0}
use Rattle.delays.specs.Answer.{refusal, refused_at, told_outcome, told_value, told_letter}
use Rattle.givendra.proofs.DelayAnswerFromResultToldRefusal.from.Goals as goal

pub returns-in-Ok : goal.returns-in-Ok
unfolding refusal refused_at told_outcome told_value told_letter
returns-in-Ok c = simp (c.told_answer.ensures, c.in-Ok.is)

pub returns-in-Err : goal.returns-in-Err
unfolding refusal refused_at told_outcome told_value told_letter
returns-in-Err c = simp (← is_0, c.in-Err.is)
