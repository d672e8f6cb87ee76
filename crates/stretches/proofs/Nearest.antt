-- Every number of the annex's table is the one nearest to its formula: t to 3.6 × clearing length/speed, and L to 2t + 4 from the unrounded t.
use Rattle.std.specs.Prelude.{ℕ, ◌+◌, ◌*◌, ◌<◌, true, ◌&&◌, ◌≡◌, refl, ltb}
use Rattle.std.proofs.Common.{zero-le, lt_of_mul-lt-mul_right, arith, ltb-true}
use Rattle.laws.specs.Ranges.{every_of, every_at}
use Rattle.laws.specs.Tests.{both_left, both_right}
use Rattle.stretches.specs.Listed.{placed}
use Rattle.stretches.specs.Table.{table, listed, entry, row_of, column_of}
use Rattle.stretches.specs.Nearest.{nearest, time_right, lost_right, right, row_right}

-- computed once, over the whole table ..
table_right : every_of row_right 30 0 ≡ true
unfolding table entry
table_right = refl

-- .. and so at each entry
module _ (stretch speed : ℕ) (asked : listed stretch speed ≡ true) where
  entry_right : (time_right stretch speed && lost_right stretch speed) ≡ true
  entry_right =
      let p = placed stretch speed asked in
      let row = every_at row_right 30 0 table_right (row_of stretch) zero-le p.row in
      rw (p.stretch_is, p.speed_is) (every_at (right (row_of stretch)) 4 0 row (column_of speed) zero-le p.column)

  pub t_nearest : time_right stretch speed ≡ true
  t_nearest = both_left (time_right stretch speed) _ entry_right

  pub l_nearest : lost_right stretch speed ≡ true
  l_nearest = both_right (time_right stretch speed) _ entry_right

-- only one whole number is nearest
module _ (n d : ℕ) where
  not_above : (x y : ℕ) → nearest x n d ≡ true → nearest y n d ≡ true → x < y + 1
  not_above x y p q =
      let low : 2 * x * d < 2 * n + d = ltb-true _ _ (both_left (ltb (2 * x * d) (2 * n + d)) _ p) in
      let high : 2 * n < 2 * y * d + d = ltb-true _ _ (both_right (ltb (2 * y * d) (2 * n + d)) _ q) in
      let below : x * d < (y + 1) * d = omega arith in
      lt_of_mul-lt-mul_right d below

  pub nearest_one : (x y : ℕ) → nearest x n d ≡ true → nearest y n d ≡ true → x ≡ y
  nearest_one x y p q = omega (arith, not_above x y p q, not_above y x q p)
