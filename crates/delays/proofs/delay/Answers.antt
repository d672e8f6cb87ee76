-- The junction's refusal is the first; of a junction that is taken, what is left is its own.
use Rattle.std.proofs.Common.{sym, ◌∙◌}
use Rattle.std.proofs.lemmas.Result.{err_from_is_err_and}
use Rattle.fields.specs.Verdict.{answered_ok, answered_err}
use Rattle.junction_file.specs.Reading.{reading}
use Rattle.plan_judge.specs.Judgement.{judgement}
use Rattle.delays.specs.Answer.{unless, answer_for, delay_verdict, answer}
use Rattle.delays.proofs.delay.Goals as goal

pub returns-in_err-j : goal.returns-in_err-j
unfolding answer delay_verdict unless judgement
returns-in_err-j c =
    let p = err_from_is_err_and c.from_residual.result c.from_residual.ensures.1 in
    let e = answered_err (reading c.args.junction.now).verdict _ (sym c.read.ensures.answer ∙ c.in_err-j.was) in
    rw (p.1, p.2, e)

pub returns : goal.returns
unfolding answer answer_for delay_verdict judgement
returns c =
    let e = answered_ok (reading c.args.junction.now).verdict _ (sym c.read.ensures.answer ∙ c.in_ok-j.was) in
    rw (e.0, e.1) c.delay_for.ensures
