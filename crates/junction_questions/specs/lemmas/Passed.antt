-- What questions that refuse nothing say.
use Rattle.std.specs.Prelude.{ℕ, true, List, ◌≡◌}
use Rattle.fields.specs.Bytes.{byte_at, fits, body_of}
use Rattle.fields.specs.Verdict.{ask_passed, Passed}
use Rattle.junction.specs.declared.Junction.{Junction}
use Rattle.junction_questions.specs.Questions.{in_order, length_right, in_range, within_limit, refers, body_verdict, named_by, field_verdict}

-- a field's questions 3 to 7
pub record BodyPassed (tag : ℕ) (b : List ℕ) (j : Junction) : Type 0 where
  pub ordered : in_order j.held.last tag ≡ true
  pub long : length_right tag b ≡ true
  pub ranged : in_range tag b ≡ true
  pub limited : within_limit tag j.held ≡ true
  pub referring : refers tag j.held.streams b (named_by j b 0) (named_by j b 1) ≡ true

body_passed : (tag : ℕ) (b : List ℕ) (at : ℕ) (j : Junction) → body_verdict tag b at j.held (named_by j b 0) (named_by j b 1) ≡ Passed
    → BodyPassed tag b j
unfolding body_verdict
body_passed tag b at j e =
    let three = ask_passed (in_order j.held.last tag) 3 at _ e in
    let four = ask_passed (length_right tag b) 4 at _ three.1 in
    let five = ask_passed (in_range tag b) 5 at _ four.1 in
    let six = ask_passed (within_limit tag j.held) 6 at _ five.1 in
    let seven = ask_passed (refers tag j.held.streams b (named_by j b 0) (named_by j b 1)) 7 at _ six.1 in
    record { ordered = three.0; long = four.0; ranged = five.0; limited = six.0; referring = seven.0 }

pub field_passed : (s : List ℕ) (at : ℕ) (j : Junction) → field_verdict s at j ≡ Passed
    → (fits s at ≡ true) × BodyPassed (byte_at s at) (body_of s at) j
unfolding field_verdict
field_passed s at j e = let asked = ask_passed (fits s at) 2 at _ e in (asked.0, body_passed (byte_at s at) (body_of s at) at j asked.1)
