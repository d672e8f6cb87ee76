-- A listed stretch is at most 300 m, and a listed speed at most 40 km/h.
use Rattle.std.proofs.Common.{arith, true, ℕ, ◌*◌, ◌+◌, ◌≡◌, ◌≤◌}
use Rattle.laws.specs.Ranges.{Between}
use Rattle.laws.proofs.Rounding.{up_small}
use Rattle.stretches.specs.Listed.{placed}
use Rattle.stretches.specs.Table.{listed}
use Rattle.roadworks.proofs.intergreen.Goals as goal

small : (stretch speed : ℕ) → listed stretch speed ≡ true → (stretch ≤ 300) × Between 25 40 speed
small stretch speed asked =
    let p = placed stretch speed asked in
    omega (arith, p.row, p.stretch_is, p.column, p.speed_is)

pub overflow_cast-speed : goal.overflow_cast-speed
overflow_cast-speed c = omega (arith, small _ _ c.requires)

pub overflow_cast-stretch : goal.overflow_cast-stretch
overflow_cast-stretch c = omega (arith, small _ _ c.requires)

pub overflow_add-stretch : goal.overflow_add-stretch
overflow_add-stretch c = omega (arith, small _ _ c.requires)

pub overflow_mul-stretch : goal.overflow_mul-stretch
overflow_mul-stretch c = omega (arith, small _ _ c.requires)

pub overflow_mul-speed : goal.overflow_mul-speed
overflow_mul-speed c = omega (arith, small _ _ c.requires)

pub overflow_add-stretch-2 : goal.overflow_add-stretch-2
overflow_add-stretch-2 c = omega (arith, small _ _ c.requires)

pub overflow_mul-speed-2 : goal.overflow_mul-speed-2
overflow_mul-speed-2 c = omega (arith, small _ _ c.requires)

pub overflow_cast-result : goal.overflow_cast-result
overflow_cast-result c =
    let args = c.args in
    let range = small _ _ c.requires in
    let below : c.div_up.result ≤ 36 * (args.stretch + 20) + 30 * args.speed = rw c.div_up.ensures (up_small _ _ (omega arith)) in
    omega arith
