-- The junction's refusal is the first; of a junction that is taken, the plan file is what is asked.
use Rattle.std.proofs.Common.{sym, ◌∙◌}
use Rattle.std.proofs.lemmas.Result.{err_from_is_err_and}
use Rattle.fields.specs.Verdict.{answered_ok, answered_err}
use Rattle.junction_file.specs.Reading.{reading}
use Rattle.offsets.specs.Shifting.{file_shifted, shift_verdict, shifted_plan}
use Rattle.offsets.proofs.shift.Goals as goal

pub returns-in_err-j : goal.returns-in_err-j
unfolding shift_verdict shifted_plan
returns-in_err-j c =
    let p = err_from_is_err_and c.from_residual.result c.from_residual.ensures.1 in
    let e = answered_err (reading c.args.junction.now).verdict _ (sym c.read.ensures.answer ∙ c.in_err-j.was) in
    record { result = rw (p.1, p.2, e); lent = rw e }

pub returns : goal.returns
unfolding shift_verdict shifted_plan file_shifted
returns c =
    let e = answered_ok (reading c.args.junction.now).verdict _ (sym c.read.ensures.answer ∙ c.in_ok-j.was) in
    record { result = rw (e.0, e.1) c.shift_file.ensures.result; lent = rw (e.0, e.1) c.shift_file.ensures.lent }
