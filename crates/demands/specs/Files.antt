-- The plan file of a length, when a length is accepted, and what is worked out where nothing is refused.
use Rattle.std.specs.Prelude.{ℕ, ◌+◌, ◌-◌, ◌*◌, ◌≤◌, ◌<◌, List, ◌++◌, ◌≡◌, drop}
use Rattle.laws.specs.Ranges.{Between}
use Rattle.fields.specs.Verdict.{Passed}
use Rattle.junction_file.specs.Reading.{reading}
use Rattle.plan_file.specs.Writing.{plan_file}
use Rattle.phase_lengths.specs.Phases.{lost_time}
use Rattle.phase_greens.specs.Greens.{sharing, green_at}
use Rattle.junction_phases.specs.JunctionPhases.{phases_at}
use Rattle.cycle_search.specs.Planning.{first_tried, plan_at}
use Rattle.plan_judge.specs.Judgement.{judgement}
use Rattle.planner.specs.Demand2.{lengths_from_lost}
use Rattle.planner.specs.WorkingOut.{buffer}
use Rattle.planner.specs.WorkingOut.{Worked}

-- the plan file of a length
abbrev pub plan_bytes : List ℕ → ℕ → List ℕ
plan_bytes junction t = plan_file (plan_at (reading junction).junction t) (reading junction).junction.held.streams

-- a length lets document 01's steps give a plan, it is not below L and no green is below 1, and the judge accepts the plan's file
pub record Accepted (junction : List ℕ) (t : ℕ) : Type 0 where
  pub not_below : lost_time (phases_at (reading junction).junction t) ≤ t
  pub greens : (i : ℕ) → i < (phases_at (reading junction).junction t).count
      → 1 ≤ green_at (phases_at (reading junction).junction t) (sharing (phases_at (reading junction).junction t) t) i
  pub accepted : judgement junction (plan_bytes junction t) ≡ Passed

-- what is worked out where nothing is refused
pub record Result (junction lent : List ℕ) (w : Worked) : Type 0 where
  -- the cycle is the least length from T0 to 180 whose plan file the judge accepts
  pub range : Between (first_tried (reading junction).junction) 180 w.cycle
  pub accepted : Accepted junction w.cycle
  pub least : (t : ℕ) → first_tried (reading junction).junction ≤ t → t < w.cycle → Accepted junction t → ⊥
  -- the count of lengths tried is at most C - T0 + 1 and at least the number of lengths from T0 to C that are not below their L
  pub most : w.tried ≤ w.cycle + 1 - first_tried (reading junction).junction
  pub fewest : lengths_from_lost (reading junction).junction (w.cycle + 1 - first_tried (reading junction).junction) ≤ w.tried
  -- the size is that of the plan file
  pub size : w.size ≡ 5 + 8 * (reading junction).junction.held.streams
  -- the buffer begins with the plan file of the cycle, and every later byte is as it was
  pub file : buffer junction lent ≡ plan_bytes junction w.cycle ++ drop (5 + 8 * (reading junction).junction.held.streams) lent
