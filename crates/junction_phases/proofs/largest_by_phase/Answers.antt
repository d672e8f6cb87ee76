-- A stream raises the figure of its phase alone.
use Rattle.laws.proofs.ByNumber.{by_number_none, by_number_next}
use Rattle.laws.specs.ByNumber.{raised}
use Rattle.junction_phases.proofs.largest_by_phase.Goals as goal

pub loop-i-init : goal.loop-i-init
loop-i-init g c = λ of says. by_number_none _

pub loop-i-preserved : goal.loop-i-preserved
loop-i-preserved g c = λ of says.
    let l = c.loop-i in
    let low = c.loop-i-test.true in
    by_number_next _ l.i _
    (raised _ _ _ _ l.largest (l.invariant of says) (c.requires.phases.each l.i low) (simp (c.max.ensures, says _ _ low c.figure.ensures)))
