-- What the answer and the buffer are where something is refused, and where nothing is; and that the cycle then works.
use Rattle.std.specs.Prelude.{◌≤◌, ◌<◌, true, ◌≡◌, refl}
use borrow.Author.Tests.{lt-ltb}
use Rattle.laws.specs.Ranges.{Between}
use Rattle.laws.proofs.Search.{first_range, first_passes}
use Rattle.limits.specs.Limits.{no_cycle}
use Rattle.junction.specs.declared.Junction.{Junction}
use Rattle.phase_lengths.specs.First.{first_length_range}
use Rattle.cycle_search.specs.Planning.{first_tried, plan_at, works, cycle_from, cycle, found}

-- T0 is from 1 to 181
pub first_tried_range : (j : Junction) → Between 1 no_cycle (first_tried j)
unfolding first_tried
first_tried_range j = first_length_range _ _ _

pub found_plan : (j : Junction) → cycle j < no_cycle → (found j (first_tried j)).plan ≡ plan_at j (cycle j)
unfolding found cycle
found_plan j low = rw (lt-ltb (cycle_from j (first_tried j)) no_cycle low)

pub found_cycle : (j : Junction) → (found j (first_tried j)).cycle ≡ cycle j
unfolding found cycle
found_cycle j = refl

-- a cycle that is found lies from T0 to 180, and works
pub cycle_works : (j : Junction) → cycle j < no_cycle → (first_tried j ≤ cycle j) × (works j (cycle j) ≡ true)
unfolding cycle cycle_from
cycle_works j low =
    let first = (first_tried_range j).1 in ((first_range (works j) no_cycle (first_tried j) first).0, first_passes (works j) no_cycle (first_tried j) first low)
