-- Each place is filled with the green that the file has for its stream.
use Rattle.laws.specs.Filled.{filled_none, filled_next}
use Rattle.plan_file.proofs.plan_of.Goals as goal

pub loop-i-init : goal.loop-i-init
loop-i-init c = simp (c.no_green.ensures, c.number.ensures, filled_none)

pub loop-i-preserved : goal.loop-i-preserved
loop-i-preserved c = simp (c.green_at.ensures, c.loop-i.invariant, filled_next)
