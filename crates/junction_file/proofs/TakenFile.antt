-- The junction of a file that is taken is as Taken.antt says.
use Rattle.junction.specs.declared.Junction.{Junction}
use Rattle.fields.specs.declared.Refusal.{Refusal}
use Rattle.std.specs.Prelude.{ℕ, List, ◌≡◌, Result, Ok, Err, IfOk}
use Rattle.std.proofs.Common.{arith, sym}
use Rattle.std.proofs.Math.Bool.{and-eq-true_iff}
use Rattle.fields.specs.Verdict.{ask_passed, Passed, answered_ok}
use Rattle.junction_questions.specs.Questions.{whole, whole_verdict}
use Rattle.junction_file.specs.Reading.{reading, taken_or_refused}
use Rattle.junction_file.specs.Taken.{FieldsRight, Taken}
use Rattle.junction_file.specs.lemmas.Fields.{with_field_right, blank_right, phases_right_lem, whole_car, car_flow}
use Rattle.junction_file.proofs.lemmas.Fields.{by_fields}

-- a file that is not refused gives such a junction
pub taken : (s : List ℕ) → (reading s).verdict ≡ Passed → Taken (reading s).junction
unfolding whole_verdict whole
taken s v =
    let reached = by_fields FieldsRight with_field_right blank_right s v in
    let eight = ask_passed (whole (reading s).junction) 8 _ _ reached.1 in
    let facts = simp and-eq-true_iff at eight.0 in
    let car = whole_car (reading s).junction facts.1 in
    record {
      period = reached.0.period (reached.0.headed (omega (arith, car.held)));
      fields = reached.0;
      phases = phases_right_lem (reading s).junction reached.0 facts.0.1;
      car = car;
      flows = car_flow (reading s).junction eight.1;
    }

-- so is a junction that is answered
pub taken_ok : (s : List ℕ) (r : Result Junction Refusal) → r ≡ taken_or_refused (reading s) → IfOk r Taken
taken_ok s (Ok j) e =
    let a = answered_ok (reading s).verdict (reading s).junction (sym e) in
    rw (← a.1) (taken s a.0)
taken_ok s (Err r) e = tt
