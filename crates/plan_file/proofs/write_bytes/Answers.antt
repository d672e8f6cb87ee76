-- Each byte of the buffer is filled with the file's.
use Rattle.laws.specs.Filled.{filled_none, filled_next}
use Rattle.plan_file.proofs.write_bytes.Goals as goal

pub loop-k-init : goal.loop-k-init
loop-k-init c = simp filled_none

pub loop-k-preserved : goal.loop-k-preserved
loop-k-preserved c = simp (c.plan_byte.ensures, c.loop-k.invariant, filled_next)
