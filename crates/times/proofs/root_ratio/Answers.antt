-- The products of small numbers fit.
use Rattle.std.proofs.Common.{◌+◌, ◌*◌, ◌≤◌, ◌^◌, mul-le-mul, arith}
use Rattle.times.proofs.root_ratio.Goals as goal

pub overflow_mul-result-4 : goal.overflow_mul-result-4
overflow_mul-result-4 c =
    let side : c.args.gap * c.args.d + c.args.n ≤ 2 ^ 28 = omega (arith, mul-le-mul c.requires.gap_small c.requires.reaching_small.below) in
    omega (arith, mul-le-mul (mul-le-mul side side) c.requires.leaving_small.below)
