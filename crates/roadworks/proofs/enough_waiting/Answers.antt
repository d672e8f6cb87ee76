-- A quotient is below a whole number exactly where the product is.
use Rattle.std.proofs.Common.{arith, mul-le-mul, ◌*◌, ◌≤◌}
use Rattle.roadworks.specs.Approaches.{approach_right}
use Rattle.roadworks.proofs.enough_waiting.Goals as goal

pub overflow_mul-result : goal.overflow_mul-result
overflow_mul-result c =
    let a = c.args.a in
    let cycle = c.args.cycle in
    let product : a.flow * cycle ≤ 9999 * 65535 = mul-le-mul {m₂ = 65535} (approach_right a c.requires.range).flow.1 (omega (arith, c.ranges.cycle)) in
    omega arith
