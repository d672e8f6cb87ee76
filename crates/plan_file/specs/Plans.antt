-- Plan files: field 11 with the cycle, then a field 12 for each stream in order (document 01, "Judging a plan", and questions 11 to 13).
-- Tags are in hexadecimal, as in the paper: field 11 has the tag 17, field 12 the tag 18. Questions are in decimal.
use Rattle.std.specs.Prelude.{ℕ, zero, suc, ◌+◌, ◌-◌, ◌*◌, Bool, ◌&&◌, cond, List, leb, ltb, eqb, length, get_or, replicate}
use Rattle.laws.specs.Filled.{filled}
use Rattle.fields.specs.Bytes.{byte_at, number_at, number_in, field_end, fits}
use Rattle.fields.specs.Verdict.{ask, first_refusal, Verdict, Passed}
use Rattle.plan_file.specs.declared.Green.{Green}
use Rattle.plan_file.specs.declared.Plan.{Plan}
use Rattle.limits.specs.Limits.{most_seconds, most_streams}

-- the questions of the field that is due at a place: an end of file too early is question 12's, at the file length; then 11, 12 and 13 at
-- the field
unfoldable pub due_verdict : List ℕ → ℕ → Bool → Bool → Verdict
due_verdict s at expected in_range =
    ask (ltb at (length s)) 12 (length s)
    (ask (fits s at) 11 at
    (ask expected 12 at
    (ask in_range 13 at Passed)))

-- a cycle is 1 to 180
abbrev pub cycle_in_range : ℕ → Bool
cycle_in_range cycle = leb 1 cycle && leb cycle most_seconds

-- field 11: the cycle
unfoldable pub cycle_expected : List ℕ → Bool
cycle_expected s = eqb (byte_at s 0) 17 && eqb (number_at s 1) 2

unfoldable pub cycle_verdict : List ℕ → Verdict
cycle_verdict s = due_verdict s 0 (cycle_expected s) (cycle_in_range (number_at s 3))

-- field 12 of stream n: stream, start below C, length from 1 to C
unfoldable pub green_expected : List ℕ → ℕ → ℕ → Bool
green_expected s at n = eqb (byte_at s at) 18 && eqb (number_at s (at + 1)) 5 && eqb (byte_at s (at + 3)) n

unfoldable pub green_in_range : List ℕ → ℕ → Bool
green_in_range s at = ltb (number_at s (at + 4)) (number_at s 3) && number_in s (at + 6) 1 (number_at s 3)

unfoldable pub green_verdict : List ℕ → ℕ → ℕ → Verdict
green_verdict s at n = due_verdict s at (green_expected s at n) (green_in_range s at)

-- the fields of so many streams from a place on, the first of them stream n's; then question 12 at the first byte after the last field
unfoldable pub greens_from : ℕ → List ℕ → ℕ → ℕ → Verdict
greens_from zero s at n = ask (leb (length s) at) 12 at Passed
greens_from (suc streams) s at n = first_refusal (green_verdict s at n) (greens_from streams s (field_end s at) (n + 1))

-- the verdict on a plan file for a junction with so many streams; the file is well-formed for it where nothing is refused
unfoldable pub plan_verdict : List ℕ → ℕ → Verdict
plan_verdict s streams = first_refusal (cycle_verdict s) (greens_from streams s (field_end s 0) 1)

-- what a well-formed file says: its fields have 5 bytes, then 8 for each stream
unfoldable pub green_at : List ℕ → ℕ → Green
green_at s i = record { start = number_at s (5 + 8 * i + 4); length = number_at s (5 + 8 * i + 6) }

abbrev pub no_green : Green
no_green = record { start = 0; length = 0 }

abbrev pub no_plan : Plan
no_plan = record { cycle = 0; greens = replicate most_streams no_green }

unfoldable pub plan_of : List ℕ → Plan
plan_of s = record { cycle = number_at s 3; greens = filled (green_at s) (replicate most_streams no_green) most_streams }

-- the green of the stream with a number, from 1
unfoldable pub green_of : Plan → ℕ → Green
green_of p n = cond (eqb n 0) no_green (cond (ltb most_streams n) no_green (get_or p.greens (n - 1) no_green))
