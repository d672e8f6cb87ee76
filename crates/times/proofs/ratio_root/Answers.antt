-- The products of small numbers fit.
use Rattle.std.proofs.Common.{◌≤◌, ◌^◌, mul-le-mul, arith}
use Rattle.times.proofs.ratio_root.Goals as goal

pub overflow_mul-result-2 : goal.overflow_mul-result-2
overflow_mul-result-2 c =
    let side : c.saturating_sub-side.result ≤ 2 ^ 22 = omega (arith, mul-le-mul c.requires.reaching_small.off c.requires.leaving_small.below) in
    omega (arith, mul-le-mul (mul-le-mul side side) c.requires.reaching_small.below)
