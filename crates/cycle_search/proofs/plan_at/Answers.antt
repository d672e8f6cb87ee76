-- The invariant is that the first i places hold the greens of the first i streams.
use Rattle.std.proofs.Common.{arith, get_or, ◌+◌, ◌-◌, ◌≡◌}
use Rattle.laws.specs.Filled.{filled_none, filled_next}
use Rattle.laws.specs.Ranges.{Between}
use Rattle.junction_places.specs.Blank.{no_stream}
use Rattle.junction_places.specs.Places.{stream_numbered}
use Rattle.junction_file.specs.lemmas.Places.{stream_place_lem}
use Rattle.phase_greens.specs.Greens.{sharing}
use Rattle.phase_greens.specs.Slots.{no_slot, slot_at, slot_place}
use Rattle.junction_phases.specs.JunctionPhases.{phases_at}
use Rattle.junction_phases.specs.lemmas.Tabled.{stream_phases}
use Rattle.cycle_search.specs.lemmas.Lengths.{small}
use Rattle.cycle_search.specs.Planning.{phase_green}
use Rattle.cycle_search.proofs.plan_at.Goals.{After-slot_green-arg-1, After-struct_known-1}
use Rattle.cycle_search.proofs.plan_at.Goals as goal

-- the stream's phase has one of the six places
place : (c : After-struct_known-1) → Between 1 6 (get_or c.args.j.now.streams c.loop-i.i no_stream).phase
place c =
    let s = c in
    let i = c.loop-i.i in
    let low = c.loop-i-test.true in
    (stream_phases s.args.j.now s.requires.taken).each i low

-- what stands there is its start and green
slot : (c : After-slot_green-arg-1)
    → let a = c.args in
    let i = c.loop-i.i in
    get_or a.slots.of ((get_or a.j.now.streams i no_stream).phase - 1) no_slot
    ≡ slot_at (phases_at a.j.now a.t) (sharing (phases_at a.j.now a.t) a.t) ((stream_numbered a.j.now (i + 1)).phase - 1)
slot c =
    let s = c in
    let i = c.loop-i.i in
    let low = c.loop-i-test.true in
    let there = stream_place_lem s.args.j.now s.requires.taken i low in
    let range = rw there at ((stream_phases s.args.j.now s.requires.taken).each i low) in
    rw (s.requires.slots, s.requires.phases, there) (slot_place _ _ _ (omega (arith, range)))

pub loop-i-init : goal.loop-i-init
loop-i-init c = simp (c.no_green.ensures, filled_none)

pub overflow_sub-stream : goal.overflow_sub-stream
overflow_sub-stream c = (place (goal.at.overflow_sub-stream c).After-struct_known-1).0

pub bounds-slots-stream : goal.bounds-slots-stream
bounds-slots-stream c = omega (arith, place (goal.at.bounds-slots-stream c).After-struct_known-1)

pub slot_green-requires : goal.slot_green-requires
slot_green-requires c =
    let pre = c.requires in
    rw (slot (goal.at.slot_green-requires c).After-slot_green-arg-1)
    (small c.args.j.now pre.taken c.args.t (rw pre.phases at pre.green) pre.short (c.loop-i.i + 1) (omega arith))

pub loop-i-preserved : goal.loop-i-preserved
unfolding phase_green
loop-i-preserved c = simp (c.slot_green.ensures, slot (goal.at.loop-i-preserved c).After-slot_green-arg-1, c.loop-i.invariant, filled_next)
