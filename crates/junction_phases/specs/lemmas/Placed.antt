-- What stands at each of the six places of a junction's phases.
use Rattle.std.specs.Prelude.{◌≤◌}
use Rattle.std.proofs.Math.Nat.{min-le_right}
use Rattle.junction.specs.declared.Junction.{Junction}
use Rattle.junction_phases.specs.JunctionPhases.{phase_count}

module _ (j : Junction) where
  pub few_phases : phase_count j ≤ 6
  unfolding phase_count
  few_phases = min-le_right _ 6
