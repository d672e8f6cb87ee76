-- The nearest whole number to a quotient, and each number of the annex's table as the one nearest to its formula: t to 3.6 × clearing
-- length/speed, and L to 2t + 4 from the unrounded t.
use Rattle.std.specs.Prelude.{ℕ, ◌+◌, ◌*◌, Bool, ◌&&◌, ltb}
use Rattle.laws.specs.Ranges.{every_of}
use Rattle.stretches.specs.Table.{clearing_length, table_t, table_l}

-- x is nearest to n/d: less than one half from it, which in tenths is half a tenth
abbrev pub nearest : ℕ → ℕ → ℕ → Bool
nearest x n d = ltb (2 * x * d) (2 * n + d) && ltb (2 * n) (2 * x * d + d)

-- in tenths, t is 36 × clearing length/speed, and L is 2t + 40 from that t
abbrev pub time_right : ℕ → ℕ → Bool
time_right stretch speed = nearest (table_t stretch speed) (36 * clearing_length stretch) speed

abbrev pub lost_right : ℕ → ℕ → Bool
lost_right stretch speed = nearest (table_l stretch speed) (2 * (36 * clearing_length stretch) + 40 * speed) speed

-- both, in a row and a column, from 0
abbrev pub right : ℕ → ℕ → Bool
right row column = time_right (10 * row + 10) (5 * column + 25) && lost_right (10 * row + 10) (5 * column + 25)

abbrev pub row_right : ℕ → Bool
row_right row = every_of (right row) 4 0
