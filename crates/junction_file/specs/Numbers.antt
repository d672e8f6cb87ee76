-- The numbers of refusals: a junction file is refused with a number of 1 or more, and number 0 says that it is taken.
use Rattle.std.specs.Prelude.{ℕ, List}
use Rattle.std.proofs.Common.{arith}
use Rattle.fields.specs.Bytes.{byte_at, fits, body_of}
use Rattle.fields.specs.lemmas.Numbers.{Numbered, ask_numbered}
use Rattle.fields.specs.Verdict.{Passed}
use Rattle.junction.specs.declared.Junction.{Junction}
use Rattle.junction_questions.specs.Questions.{in_order, length_right, in_range, within_limit, refers, body_verdict, named_by, field_verdict}

pub field_numbered : (s : List ℕ) (at : ℕ) (j : Junction) → Numbered (field_verdict s at j)
unfolding field_verdict body_verdict
field_numbered s at j =
    let tag = byte_at s at in
    let b = body_of s at in
    ask_numbered (fits s at) 2 at _ (omega arith)
    (ask_numbered (in_order j.held.last tag) 3 at _ (omega arith)
    (ask_numbered (length_right tag b) 4 at _ (omega arith)
    (ask_numbered (in_range tag b) 5 at _ (omega arith)
    (ask_numbered (within_limit tag j.held) 6 at _ (omega arith)
    (ask_numbered (refers tag j.held.streams b (named_by j b 0) (named_by j b 1)) 7 at Passed (omega arith) tt)))))
