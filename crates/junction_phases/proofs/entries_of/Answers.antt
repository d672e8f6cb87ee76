-- The invariant is that each phase has its largest entry toward the next at the zones passed.
use Rattle.std.proofs.Common.{get_or}
use Rattle.laws.proofs.ByNumber.{by_number_none, by_number_next}
use Rattle.junction_tables.specs.Tables.{no_conflict}
use Rattle.junction_phases.specs.lemmas.Tabled.{ZonePhases, zone_raised}
use Rattle.junction_phases.proofs.entries_of.Goals.{In-loop-i}
use Rattle.junction_phases.proofs.entries_of.Goals as goal

-- the zone's streams
zone : (c : In-loop-i) → ZonePhases c.args.streams.now (get_or c.args.conflicts.now.of c.loop-i.i no_conflict)
zone c = c.requires.zones.each c.loop-i.i c.loop-i-test.true

pub loop-i-init : goal.loop-i-init
loop-i-init c = by_number_none _

pub loop-i-preserved : goal.loop-i-preserved
loop-i-preserved c =
    let l = c.loop-i in
    let z = zone (goal.at.loop-i-preserved c).In-loop-i in
    let first = c in
    by_number_next _ l.i _
    (zone_raised _ l.entries _ _ _ _ _ l.invariant z (simp (first.max.ensures, first.onward.ensures))
    (simp (c.max-in-loop-i.ensures, c.onward-in-loop-i.ensures)))
