-- The plan of a length, what makes a length fail, and the cycle (document 01, "Working out a plan").
use Rattle.std.specs.Prelude.{ℕ, ◌+◌, ◌-◌, min, Bool, true, false, cond, ltb, eqb, replicate, Ok, Err}
use Rattle.laws.specs.Filled.{filled}
use Rattle.laws.specs.Search.{first_below}
use Rattle.fields.specs.Verdict.{Verdict}
use Rattle.junction.specs.declared.Junction.{Junction}
use Rattle.junction_places.specs.Places.{stream_numbered}
use Rattle.phase_lengths.specs.Phases.{ratio_sum, lost_time, first_length}
use Rattle.phase_greens.specs.Greens.{sharing, first_below_one}
use Rattle.phase_greens.specs.Slots.{slot_at}
use Rattle.phase_lengths.specs.declared.Phases.{Phases}
use Rattle.phase_greens.specs.declared.Sharing.{Sharing}
use Rattle.phase_greens.specs.declared.Slot.{Slot}
use Rattle.junction_phases.specs.JunctionPhases.{has_pedestrian_or_tram, phases_at}
use Rattle.plan_file.specs.declared.Green.{Green}
use Rattle.plan_file.specs.declared.Plan.{Plan}
use Rattle.plan_file.specs.Plans.{no_green, no_plan}
use Rattle.plan_rules.specs.Rules.{rules_verdict}
use Rattle.cycle_search.specs.declared.Found.{Found}
use Rattle.limits.specs.Limits.{most_seconds, no_cycle, most_streams}

-- Y of a junction
unfoldable pub ratios : Junction → ℕ
ratios j = ratio_sum (phases_at j 0)

-- T0, with trams at 10 s, as at a cycle of 0
unfoldable pub first_tried : Junction → ℕ
first_tried j = first_length (has_pedestrian_or_tram j) (ratios j) (lost_time (phases_at j 0))

-- every stream gets its phase's green
abbrev pub slot_green : Slot → Green
slot_green slot = record { start = slot.start; length = slot.green }

unfoldable pub phase_green : Phases → Sharing → ℕ → Green
phase_green q s f = slot_green (slot_at q s (f - 1))

-- the plan of a length T
unfoldable pub plan_at : Junction → ℕ → Plan
plan_at j t =
    record {
      cycle = t;
      greens = filled (λ i. phase_green (phases_at j t) (sharing (phases_at j t) t) (stream_numbered j (i + 1)).phase) (replicate most_streams no_green) j.held.streams;
    }

-- what becomes of a length: it works, or the first of these that makes it fail: it is below L, a green is below 1, a stream lacks its need, a
-- car flow its capacity, a zone is not clear
pub data Outcome : Type 0 where
  Works : Outcome
  BelowLost : Outcome
  GreenBelowOne : Outcome
  NeedUnmet : Outcome
  CapacityUnmet : Outcome
  ZoneUnmet : Outcome

abbrev pub rule_outcome : Verdict → Outcome
rule_outcome (Ok u) = Works
rule_outcome (Err r) = cond (eqb r.number 15) NeedUnmet (cond (eqb r.number 16) CapacityUnmet ZoneUnmet)

unfoldable pub outcome : Junction → ℕ → Outcome
outcome j t =
    cond (ltb t (lost_time (phases_at j t))) BelowLost
    (cond (ltb (first_below_one (phases_at j t) (sharing (phases_at j t) t)) (phases_at j t).count) GreenBelowOne
    (rule_outcome (rules_verdict j (plan_at j t))))

abbrev pub is_works : Outcome → Bool
is_works Works = true
is_works BelowLost = false
is_works GreenBelowOne = false
is_works NeedUnmet = false
is_works CapacityUnmet = false
is_works ZoneUnmet = false

-- T fails if T is below L, a green is below 1, or the plan is not accepted
unfoldable pub works : Junction → ℕ → Bool
works j t = is_works (outcome j t)

-- the least length from the first on to 180 that does not fail, 181 where each does
unfoldable pub cycle_from : Junction → ℕ → ℕ
cycle_from j first = first_below (works j) no_cycle first

unfoldable pub cycle : Junction → ℕ
cycle j = cycle_from j (first_tried j)

-- what a search from a length answers: the cycle; how many lengths were tried, each up to 180 where it finds none; and the cycle's plan, an
-- empty one where it finds none
unfoldable pub found : Junction → ℕ → Found
found j first =
    record {
      cycle = cycle_from j first;
      tried = min (cycle_from j first) most_seconds + 1 - first;
      plan = cond (ltb (cycle_from j first) no_cycle) (plan_at j (cycle_from j first)) no_plan;
    }
