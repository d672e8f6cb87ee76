-- A quotient by 0 is 0; any other is std's.
use Rattle.std.proofs.Common.{sym, ap, ◌∙◌, arith}
use Rattle.laws.specs.Rounding.{up, up_zero}
use Rattle.laws.proofs.Rounding.{up_ceil}
use Rattle.laws.proofs.div_up.Goals as goal

pub returns-then-d-eq0 : goal.returns-then-d-eq0
returns-then-d-eq0 c = sym (ap (up c.args.n) c.if-d-eq0.true ∙ up_zero _)

pub returns : goal.returns
returns c = c.div_ceil.ensures ∙ up_ceil _ _ (omega arith)
