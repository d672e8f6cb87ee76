-- The numbers of refusals: a plan file is refused with a number of 1 or more, so that number 0 says that there is no refusal.
use Rattle.std.specs.Prelude.{ℕ, zero, suc, ◌+◌, Bool, List, leb, ltb, length}
use Rattle.std.proofs.Common.{arith}
use Rattle.fields.specs.Bytes.{fits, field_end}
use Rattle.fields.specs.lemmas.Numbers.{Numbered, ask_numbered, first_numbered}
use Rattle.fields.specs.Verdict.{Passed}
use Rattle.plan_file.specs.Plans.{due_verdict, cycle_verdict, green_verdict, greens_from, plan_verdict}

due_numbered : (s : List ℕ) (at : ℕ) (expected in_range : Bool) → Numbered (due_verdict s at expected in_range)
unfolding due_verdict
due_numbered s at expected in_range =
    ask_numbered (ltb at (length s)) 12 (length s) _ (omega arith)
    (ask_numbered (fits s at) 11 at _ (omega arith)
    (ask_numbered expected 12 at _ (omega arith)
    (ask_numbered in_range 13 at Passed (omega arith) tt)))

greens_numbered : (streams : ℕ) (s : List ℕ) (at n : ℕ) → Numbered (greens_from streams s at n)
unfolding greens_from green_verdict
greens_numbered zero s at n = ask_numbered (leb (length s) at) 12 at Passed (omega arith) tt
greens_numbered (suc streams) s at n =
    first_numbered (green_verdict s at n) _ (due_numbered s at _ _) (greens_numbered streams s (field_end s at) (n + 1))

pub plan_numbered : (s : List ℕ) (streams : ℕ) → Numbered (plan_verdict s streams)
unfolding plan_verdict cycle_verdict
plan_numbered s streams =
    first_numbered (cycle_verdict s) _ (due_numbered s 0 _ _) (greens_numbered streams s (field_end s 0) 1)
