-- One offset for every start of a plan file (document 02, 2026-06): the verdict, and every byte of the lent file afterwards.
use Rattle.std.specs.Prelude.{ℕ, zero, suc, ◌+◌, ◌*◌, ◌/◌, ◌%◌, cond, List, ltb, set}
use Rattle.fields.specs.Bytes.{number_at}
use Rattle.fields.specs.Verdict.{is_refused, ask, first_refusal, Verdict, Passed}
use Rattle.junction_file.specs.Reading.{reading}
use Rattle.plan_file.specs.Plans.{plan_verdict}

-- a start moved: (start + offset) modulo C
unfoldable pub moved : ℕ → ℕ → ℕ → ℕ
moved cycle offset start = (start + offset) % cycle

-- where the start of the stream with number i + 1 stands
unfoldable pub start_place : ℕ → ℕ
start_place i = 5 + 8 * i + 4

-- the file with a number in the two bytes from a place on, the high byte first
unfoldable pub with_number : List ℕ → ℕ → ℕ → List ℕ
with_number s at n = set (set s at (n / 256)) (at + 1) (n % 256)

-- the file with the starts of its first n streams moved by a whole offset; starts and cycle are those of the file as it is lent
unfoldable pub shifted : List ℕ → ℕ → ℕ → List ℕ
shifted plan offset zero = plan
shifted plan offset (suc n) = with_number (shifted plan offset n) (start_place n) (moved (number_at plan 3) offset (number_at plan (start_place n)))

-- the plan's questions for a junction of so many streams, then 24, place 0: is the offset below C?
unfoldable pub file_verdict : List ℕ → ℕ → ℕ → Verdict
file_verdict plan streams offset = first_refusal (plan_verdict plan streams) (ask (ltb offset (number_at plan 3)) 24 0 Passed)

-- a refusal alters no byte
unfoldable pub file_shifted : List ℕ → ℕ → ℕ → List ℕ
file_shifted plan streams offset = cond (is_refused (file_verdict plan streams offset)) plan (shifted plan offset streams)

-- of any two files: the junction's questions come first
unfoldable pub shift_verdict : List ℕ → List ℕ → ℕ → Verdict
shift_verdict junction plan offset = first_refusal (reading junction).verdict (file_verdict plan (reading junction).junction.held.streams offset)

unfoldable pub shifted_plan : List ℕ → List ℕ → ℕ → List ℕ
shifted_plan junction plan offset =
    cond (is_refused (shift_verdict junction plan offset)) plan (shifted plan offset (reading junction).junction.held.streams)
