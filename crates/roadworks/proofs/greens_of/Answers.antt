-- The first two places hold the approaches' starts and greens, which are at most 180.
use Rattle.std.proofs.Common.{true, get_or, arith, ◌≤◌, ◌<◌, ◌≡◌, ℕ}
use Rattle.limits.specs.Limits.{most_seconds}
use Rattle.phase_lengths.specs.declared.Phases.{Phases}
use Rattle.phase_greens.specs.Fills.{Right}
use Rattle.phase_greens.specs.Greens.{sharing, gives_greens}
use Rattle.phase_greens.specs.Slots.{no_slot, slot_at, slots_of, slot_place}
use Rattle.phase_greens.specs.declared.Slots.{Slots}
use Rattle.cycle_search.specs.lemmas.Lengths.{SlotSmall, slot_small}
use Rattle.roadworks.proofs.greens_of.Goals as goal

-- the phase at a place, and that it is small
module _ (q : Phases) (slots : Slots) (t i : ℕ) (same : slots ≡ slots_of q (sharing q t)) (two : q.count ≡ 2) (low : i < 2) where
  placed : get_or slots.of i no_slot ≡ slot_at q (sharing q t) i
  placed = rw same (slot_place q (sharing q t) i (omega arith))

  small : Right q → gives_greens q t ≡ true → t ≤ most_seconds → SlotSmall (get_or slots.of i no_slot)
  small right greens short = rw placed (slot_small q right t greens short i (omega arith))

pub slot_green-requires : goal.slot_green-requires
slot_green-requires c =
    let pre = c.requires in small _ _ _ 0 pre.slots pre.two (omega arith) pre.right pre.green pre.short

pub slot_green-requires-2 : goal.slot_green-requires-2
slot_green-requires-2 c =
    let pre = c.requires in small _ _ _ 1 pre.slots pre.two (omega arith) pre.right pre.green pre.short

pub returns : goal.returns
returns c =
    let pre = c.requires in
    simp (
      c.slot_green.ensures,
      c.slot_green-2.ensures,
      placed _ _ _ 0 pre.slots pre.two (omega arith),
      placed _ _ _ 1 pre.slots pre.two (omega arith),
    )
