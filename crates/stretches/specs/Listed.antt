-- What is listed: thirty stretches and four speeds, each with a row or a column of the table.
use Rattle.std.specs.Prelude.{ℕ, ◌+◌, ◌*◌, ◌≤◌, ◌<◌, ◌%◌, true, ◌&&◌, ◌≡◌, leb}
use Rattle.std.proofs.Common.{arith, leb-true, eqb-true}
use Rattle.laws.specs.Tests.{both_left, both_right}
use Rattle.stretches.specs.Table.{by_steps, listed, row_of, column_of}

-- a stretch and a speed are those of a row and a column
pub record Placed (stretch speed : ℕ) : Type 0 where
  pub row : row_of stretch < 30
  pub stretch_is : stretch ≡ 10 * row_of stretch + 10
  pub column : column_of speed < 4
  pub speed_is : speed ≡ 5 * column_of speed + 25

-- a number by steps keeps the range and leaves no remainder
steps_kept : (low high step n : ℕ) → by_steps low high step n ≡ true → (low ≤ n) × (n ≤ high) × (n % step ≡ 0)
unfolding by_steps
steps_kept low high step n asked =
    let ends = both_left (leb low n && leb n high) _ asked in (
      leb-true _ _ (both_left (leb low n) _ ends),
      leb-true _ _ (both_right (leb low n) _ ends),
      eqb-true _ _ (both_right (leb low n && leb n high) _ asked),
    )

pub placed : (stretch speed : ℕ) → listed stretch speed ≡ true → Placed stretch speed
unfolding listed
placed stretch speed asked =
    let stretches = by_steps 10 300 10 stretch in
    let speeds = by_steps 25 40 5 speed in
    let tens = steps_kept _ _ _ _ (both_left stretches speeds asked) in
    let fives = steps_kept _ _ _ _ (both_right stretches speeds asked) in
    record { row = omega arith; stretch_is = omega arith; column = omega arith; speed_is = omega arith }
