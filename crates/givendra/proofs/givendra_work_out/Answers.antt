-- The numbers are 0 where something is refused.
use Rattle.std.proofs.Common.{ap, length, ◌∙◌}
use Rattle.givendra.specs.Answers.{worked_answer}
use Rattle.givendra.proofs.Worked.{worked_answered}
use Rattle.givendra.proofs.givendra_work_out.Goals as goal

pub returns-clause-result : goal.returns-clause-result
returns-clause-result c =
    c.from.ensures ∙ ap worked_answer c.work_out.ensures.result ∙ worked_answered c.args.junction.now (length c.args.buffer.now)
