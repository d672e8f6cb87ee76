-- Starts and greens of the six places, worked out once for a length: each place holds what the definitions say.
use Rattle.std.specs.Prelude.{ℕ, ◌≤◌, ◌<◌, ◌≡◌, ltb, get_or, replicate}
use Rattle.std.proofs.Common.{le_refl, arith}
use Rattle.laws.specs.Filled.{filled, filled_at}
use Rattle.laws.proofs.Search.{first_same}
use Rattle.laws.specs.Search.{first_below}
use Rattle.limits.specs.Limits.{most_phases}
use Rattle.phase_greens.specs.Greens.{green_at, start_at, first_below_one}
use Rattle.phase_lengths.specs.declared.Phases.{Phases}
use Rattle.phase_greens.specs.declared.Sharing.{Sharing}
use Rattle.phase_greens.specs.declared.Slot.{Slot}
use Rattle.phase_greens.specs.declared.Slots.{Slots}

-- what stands in a place before it is worked out
abbrev pub no_slot : Slot
no_slot = record { start = 0; green = 0 }

-- start and green of a place
abbrev pub slot_at : Phases → Sharing → ℕ → Slot
slot_at q s i = record { start = start_at q s i; green = green_at q s i }

unfoldable pub slots_of : Phases → Sharing → Slots
slots_of q s = record { of = filled (slot_at q s) (replicate most_phases no_slot) most_phases }

pub slot_place : (q : Phases) (s : Sharing) (i : ℕ) → i < most_phases → get_or (slots_of q s).of i no_slot ≡ slot_at q s i
unfolding slots_of
slot_place q s i h = filled_at (slot_at q s) (replicate most_phases no_slot) most_phases i no_slot h (le_refl most_phases)

-- the first of the first n places whose green is below 1
unfoldable pub first_below_one_in : Slots → ℕ → ℕ
first_below_one_in slots n = first_below (λ i. ltb (get_or slots.of i no_slot).green 1) n 0

-- by the table it is the same
pub short_tabled : (q : Phases) (s : Sharing) → q.count ≤ most_phases → first_below_one_in (slots_of q s) q.count ≡ first_below_one q s
unfolding first_below_one_in first_below_one
short_tabled q s few = first_same _ _ q.count 0 (λ i low high. rw (slot_place q s i (omega arith)))
