-- A plan file that is not refused is well-formed.
use Rattle.std.proofs.Common.{◌∙◌, sym}
use Rattle.plan_file.proofs.WellFormed.{well_formed}
use Rattle.offsets.proofs.Refused.{file_passed}
use Rattle.offsets.proofs.shift_file.Goals as goal

pub shift_starts-requires-clause-formed : goal.shift_starts-requires-clause-formed
shift_starts-requires-clause-formed c =
    let a = c.args in
    (well_formed a.plan.now a.streams).0 ((file_passed a.plan.now a.streams a.offset).0 (sym c.file_verdict.ensures ∙ c.in_ok-file_verdict.was)).0

pub shift_starts-requires-clause-below : goal.shift_starts-requires-clause-below
shift_starts-requires-clause-below c =
    let a = c.args in
    ((file_passed a.plan.now a.streams a.offset).0 (sym c.file_verdict.ensures ∙ c.in_ok-file_verdict.was)).1
