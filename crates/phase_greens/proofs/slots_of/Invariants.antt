-- The loop: the first i places are filled, and start and cars so far are the sums over the places passed.
use Rattle.std.proofs.Common.{◌≡◌, ◌*◌, ◌≤◌}
use Rattle.std.proofs.Math.ListN.{replicate}
use Rattle.laws.specs.Filled.{filled}
use Rattle.phase_greens.specs.Greens.{cars_before, start_at}
use Rattle.phase_greens.specs.Slots.{no_slot, slot_at}
use Rattle.phase_greens.proofs.slots_of.Given as goal

abbrev pub invariant-loop-i : goal.invariant-loop-i
invariant-loop-i l =
    (l.start ≤ l.i * 562949953421312) × (l.start ≡ start_at l.fn.q l.fn.s l.i)
    × (l.before ≤ l.i) × (l.before ≡ cars_before l.fn.q l.i)
    × (l.all.of ≡ filled (slot_at l.fn.q l.fn.s) (replicate 6 no_slot) l.i)
