-- A flow in range fits both types.
use Rattle.std.proofs.Common.{arith}
use Rattle.roadworks.specs.Approaches.{approach_right}
use Rattle.roadworks.proofs.load.Goals as goal

pub overflow_cast-result : goal.overflow_cast-result
overflow_cast-result c = omega (arith, (approach_right _ c.requires).flow)

pub overflow_cast-result-2 : goal.overflow_cast-result-2
overflow_cast-result-2 c = omega (arith, (approach_right _ c.requires).saturation)
