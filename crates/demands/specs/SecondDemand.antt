-- The customer's second demand, whole: every intergreen, needed green, saturation flow, cycle and green equals the annex, with the roundings and
-- choices of document 01; and a cycle is refused exactly if no length up to 180 s, from the annex's optimum on, lets document 01's steps give
-- a plan that meets the rules.
--
-- `worked` and `buffer` are what `planner::work_out` is proved to answer and to leave in the lent buffer, `judgement` what `plan_judge::judge`
-- is proved to answer. `ratios` is Y in ten-thousandths, `first_tried` T0. Files.antt has the plan file of a length, `plan_bytes`, when a length
-- is `Accepted`, and the `Result`; Figures.antt the figures, as the C library answers them.
use Rattle.std.specs.Prelude.{ℕ, ◌+◌, ◌*◌, ◌≤◌, ◌<◌, List, ◌↔◌, ◌≡◌, length}
use Rattle.laws.specs.Ranges.{Between}
use Rattle.fields.specs.Verdict.{Passed, Refused}
use Rattle.junction_file.specs.Reading.{reading}
use Rattle.cycle_search.specs.Planning.{ratios, first_tried}
use Rattle.planner.specs.WorkingOut.{worked}
use Rattle.demands.specs.Figures.{FiguresExact}
use Rattle.demands.specs.Files.{Accepted, Result}

-- of every junction file that is taken, and every lent buffer
pub record SecondDemand (junction lent : List ℕ) : Type 0 where
  -- every intergreen, needed green, saturation flow and flow ratio
  pub figures : FiguresExact junction
  -- 21 exactly where the rounded flow ratios sum to one or more
  pub ratios_sum : ((worked junction (length lent)).verdict ≡ Refused 21 0) ↔ (10000 ≤ ratios (reading junction).junction)
  -- 22 exactly where they do not, and no length from T0 to 180 lets document 01's steps give a plan file that the judge accepts
  pub no_cycle_lem : ((worked junction (length lent)).verdict ≡ Refused 22 0)
      ↔ ((ratios (reading junction).junction < 10000)
      × ((t : ℕ) → first_tried (reading junction).junction ≤ t → t ≤ 180 → Accepted junction t → ⊥))
  -- 23 exactly where some length does, and the buffer holds less than 5 + 8 × streams bytes
  pub no_room : ((worked junction (length lent)).verdict ≡ Refused 23 0)
      ↔ ((ratios (reading junction).junction < 10000)
      × ((t : ℕ) × Between (first_tried (reading junction).junction) 180 t × Accepted junction t)
      × (length lent < 5 + 8 * (reading junction).junction.held.streams))
  -- otherwise a plan is worked out
  pub planned : ((worked junction (length lent)).verdict ≡ Passed)
      ↔ ((ratios (reading junction).junction < 10000)
      × ((t : ℕ) × Between (first_tried (reading junction).junction) 180 t × Accepted junction t)
      × (5 + 8 * (reading junction).junction.held.streams ≤ length lent))
  pub result : (worked junction (length lent)).verdict ≡ Passed → Result junction lent (worked junction (length lent))
