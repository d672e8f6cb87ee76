-- A field that is refused is the first refusal; one that passes has eight bytes, and leaves the answer to those after it.
use Rattle.std.proofs.Common.{sym, ◌∙◌, ap}
use Rattle.std.proofs.lemmas.Result.{err_from_is_err_and}
use Rattle.fields.specs.Verdict.{is_refused}
use Rattle.plan_file.proofs.Left.{left_turns, left_refused, left_ends}
use Rattle.plan_file.proofs.greens_verdict.Goals as goal

pub returns-in_err-green_verdict : goal.returns-in_err-green_verdict
returns-in_err-green_verdict c =
    let p = err_from_is_err_and c.from_residual.result c.from_residual.ensures.1 in
    let e = sym c.green_verdict.ensures ∙ c.in_err-green_verdict.was in
    rw (p.1, p.2) (sym e ∙ left_refused _ _ _ _ _ c.loop-i.invariant c.loop-i-test.true (ap is_refused e))

pub loop-i-preserved : goal.loop-i-preserved
loop-i-preserved c =
    left_turns _ _ _ _ _ c.loop-i.invariant c.loop-i-test.true (ap is_refused (sym c.green_verdict.ensures ∙ c.in_ok-green_verdict.was))

pub returns : goal.returns
returns c = c.ask.ensures ∙ left_ends _ _ _ _ _ c.loop-i.invariant c.loop-i-test.false
