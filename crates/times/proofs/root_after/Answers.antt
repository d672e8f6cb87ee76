-- The product under the root fits, factor by factor.
use Rattle.std.proofs.Common.{◌*◌, ◌≤◌, ◌^◌, le_refl, mul-le-mul, arith}
use Rattle.times.proofs.root_after.Goals as goal

pub overflow_mul-result-4 : goal.overflow_mul-result-4
overflow_mul-result-4 c =
    let square : c.args.k * c.args.k ≤ 2 ^ 32 = mul-le-mul c.requires.factor_small c.requires.factor_small in
    let fourfold : 4 * (c.args.k * c.args.k) ≤ 2 ^ 34 = mul-le-mul (le_refl 4) square in
    let scaled : 4 * (c.args.k * c.args.k) * c.args.roots.s ≤ 2 ^ 42 = mul-le-mul fourfold c.args.roots.small.scale in
    omega (arith, mul-le-mul scaled c.args.roots.small.reaches)
