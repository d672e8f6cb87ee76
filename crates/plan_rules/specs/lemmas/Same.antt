-- The rules' verdict depends on the cycle and the greens of the junction's streams alone.
use Rattle.std.specs.Prelude.{ℕ, ◌≡◌}
use Rattle.laws.specs.Ranges.{Between}
use Rattle.junction.specs.declared.Junction.{Junction}
use Rattle.junction_file.specs.Taken.{Taken}
use Rattle.plan_file.specs.declared.Plan.{Plan}
use Rattle.plan_file.specs.Plans.{green_of}
use Rattle.plan_rules.specs.Rules.{need_met, capacity_met}

module _ (j : Junction) (t : Taken j) (p q : Plan) (cycle : p.cycle ≡ q.cycle)
    (greens : (n : ℕ) → Between 1 j.held.streams n → green_of p n ≡ green_of q n) where
  pub need_same : (n : ℕ) → Between 1 j.held.streams n → need_met j p n ≡ need_met j q n
  unfolding need_met
  need_same n h = rw (greens n h, cycle)

  pub capacity_same : (n : ℕ) → Between 1 j.held.streams n → capacity_met j p n ≡ capacity_met j q n
  unfolding capacity_met
  capacity_same n h = rw (greens n h, cycle)
