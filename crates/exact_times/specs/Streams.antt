-- A straight car's time by formulas (1) and (6), which formula (7) always exceeds.
use Rattle.std.specs.Prelude.{ℕ, ◌+◌, ◌*◌, ◌≤◌, max, false, ◌≡◌}
use Rattle.std.proofs.Math.Nat.{le-max_left}
use Rattle.std.proofs.Common.{arith}
use Rattle.std.proofs.lemmas.Bool.{lt-leb}
use Rattle.streams.specs.declared.CarFigures.{CarFigures}
use Rattle.times.specs.Comparison.{ratio_ratio, ratio_within, within}
use Rattle.times.specs.declared.Time.{Time}
use Rattle.times.specs.declared.Time.TheVariants.{Ratio}
use Rattle.times.specs.Times.{car_time, car_leaving}

-- a straight car's time by formulas (1) and (6), at 50 km/h: 3 + 3.6(l + 60)/500 is 3 + 9(l + 60)/1250
abbrev pub by_six : ℕ → Time
by_six l = Ratio (3 * 1250 + 9 * (l + 60)) 1250

-- a straight car's leaving time is never at most that: formula (7) always exceeds formula (6)
pub seven_exceeds_six : (c : CarFigures) (l : ℕ) → c.radius ≡ 0 → within (car_leaving c l) (by_six l) 0 ≡ false
unfolding within ratio_within ratio_ratio car_leaving car_time
seven_exceeds_six c l straight =
    let time = max (3 * 100 + (l + 60)) ((c.amber + 1) * 100) in
    let six = 3 * 1250 + 9 * (l + 60) in
    let seven : 3 * 100 + (l + 60) ≤ time = le-max_left _ _ in
    rw straight (lt-leb (time * 1250) (0 * 100 * 1250 + six * 100) (omega arith))
