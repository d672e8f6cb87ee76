-- The stream passed is the one at its place.
use Rattle.std.proofs.Common.{arith, ◌<◌, length-take}
use Rattle.std.proofs.lemmas.List.{get_or-take}
use Rattle.laws.proofs.Largest.{largest_next}
use Rattle.junction_places.specs.Blank.{no_stream}
use Rattle.junction_phases.proofs.phase_count.Goals as goal

pub loop-s-preserved : goal.loop-s-preserved
loop-s-preserved c =
    let l = c.loop-s in
    let low : l.s-index < c.args.n = omega (arith, length-take c.args.n c.args.streams.now) in
    simp (c.max-last.ensures, get_or-take c.args.n c.args.streams.now l.s-index no_stream low, l.invariant, largest_next)
