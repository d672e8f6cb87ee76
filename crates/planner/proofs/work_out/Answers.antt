-- The junction's refusal is the first; of a junction that is taken, what is left is its own.
use Rattle.std.proofs.Common.{◌∙◌, ◌≡◌, ap, length, sym}
use Rattle.planner.specs.WorkingOut.{worked, worked_or_refused}
use Rattle.planner.proofs.Planned.{answer_within}
use Rattle.std.proofs.lemmas.Result.{err_from_is_err_and}
use Rattle.fields.specs.Verdict.{is_refused, answered_ok, answered_err}
use Rattle.junction_file.specs.Reading.{reading}
use Rattle.planner.proofs.lemmas.Cases.{file_refused, file_taken, lent_refused, lent_taken}
use Rattle.planner.proofs.work_out.Goals as goal

pub returns-in_err-j : goal.returns-in_err-j
returns-in_err-j c =
    let p = err_from_is_err_and c.from_residual.result c.from_residual.ensures.1 in
    let e = answered_err (reading c.args.junction.now).verdict _ (sym c.read.ensures.answer ∙ c.in_err-j.was) in
    let t = ap is_refused e in
    record { result = rw (p.1, p.2, ← file_refused c.args.junction.now _ t, e); lent = lent_refused c.args.junction.now _ t; within = rw p.1 tt }

pub returns : goal.returns
returns c =
    let e = answered_ok (reading c.args.junction.now).verdict _ (sym c.read.ensures.answer ∙ c.in_ok-j.was) in
    let t = ap is_refused e.0 in
    let result : c.work_out_junction.result ≡ worked_or_refused (worked c.args.junction.now (length c.args.out.now)) =
    rw (← file_taken c.args.junction.now _ t, e.1) c.work_out_junction.ensures.result in
    record {
      result = result;
      lent = rw (← lent_taken c.args.junction.now _ t, e.1) c.work_out_junction.ensures.lent;
      within = answer_within c.args.junction.now _ _ result;
    }
