-- `givendra::told_answer` meets its contract, case by case.
use Rattle.service_level.specs.Delays.{outcome, value}
use Rattle.service_level.specs.Literals.{is_0}
use Rattle.givendra.proofs.told_answer.Goals as goal

pub returns-in-NoRed : goal.returns-in-NoRed
unfolding outcome value
returns-in-NoRed c = simp (← is_0, c.letter-letter.ensures, c.in-NoRed.is)
