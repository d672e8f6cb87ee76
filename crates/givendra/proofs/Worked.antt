-- The answer to working out a plan: the three numbers where nothing is refused, and 0 for each with a refusal.
use Rattle.std.specs.Prelude.{ℕ, true, List, ◌≡◌, refl, Ok, Err}
use Rattle.fields.specs.Verdict.{Verdict, is_refused, number_of, place_of}
use Rattle.planner.specs.WorkingOut.{Worked, worked, refusal, worked_or_refused}
use Rattle.planner.proofs.lemmas.Cases.{worked_nothing}
use Rattle.givendra.specs.Answers.{worked_answer, plan_answer}
use Rattle.givendra.specs.declared.PlanAnswer.{PlanAnswer}

numbers : (v : Verdict) (w : Worked) → w.verdict ≡ v → (is_refused v ≡ true → w ≡ refusal v)
    → ◌≡◌ {A = PlanAnswer} (worked_answer (worked_or_refused w))
    (record { place = place_of w.verdict; refusal = number_of w.verdict; cycle = w.cycle; tried = w.tried; size = w.size })
numbers (Ok u) w e nothing = rw e
numbers (Err r) w e nothing = rw (nothing refl)

pub worked_answered : (junction : List ℕ) (size : ℕ) → worked_answer (worked_or_refused (worked junction size)) ≡ plan_answer junction size
unfolding plan_answer
worked_answered junction size = numbers (worked junction size).verdict (worked junction size) refl (worked_nothing junction size)
