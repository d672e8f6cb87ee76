-- The greens are judged where the cycle's field is not refused, from its end on.
use Rattle.std.proofs.Common.{sym, ◌∙◌, ap}
use Rattle.std.proofs.lemmas.Result.{err_from_is_err_and}
use Rattle.fields.specs.Verdict.{is_refused, first_passed, first_refused}
use Rattle.plan_file.proofs.Left.{cycle_ends}
use Rattle.plan_file.specs.Plans.{cycle_verdict, plan_verdict}
use Rattle.plan_file.proofs.verdict.Goals as goal

pub returns-in_err-cycle_verdict : goal.returns-in_err-cycle_verdict
unfolding plan_verdict
returns-in_err-cycle_verdict c =
    let p = err_from_is_err_and c.from_residual.result c.from_residual.ensures.1 in
    let e = sym c.cycle_verdict.ensures ∙ c.in_err-cycle_verdict.was in
    rw (p.1, p.2) (sym e ∙ sym (first_refused _ _ (ap is_refused e)))

pub greens_verdict-requires : goal.greens_verdict-requires
greens_verdict-requires c = (cycle_ends _ (sym c.cycle_verdict.ensures ∙ c.in_ok-cycle_verdict.was)).1

pub returns : goal.returns
unfolding plan_verdict
returns c =
    let e = sym c.cycle_verdict.ensures ∙ c.in_ok-cycle_verdict.was in
    c.greens_verdict.ensures ∙ rw (cycle_ends _ e).0 (sym (first_passed (cycle_verdict _) _ (ap is_refused e)))
