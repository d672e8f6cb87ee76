-- The numbers of refusals: a junction file is refused with a number of 1 or more, and number 0 says that it is taken.
use Rattle.std.specs.Prelude.{ℕ, zero, suc, ◌+◌, List, ◌↔◌, ◌≡◌, leb, ltb, length}
use Rattle.std.proofs.Common.{arith}
use Rattle.laws.specs.Tests.{by_test}
use Rattle.limits.specs.Limits.{most_bytes}
use Rattle.fields.specs.Bytes.{field_end}
use Rattle.fields.specs.lemmas.Numbers.{Numbered, ask_numbered, passed_number}
use Rattle.fields.specs.Verdict.{number_of, is_refused, Passed}
use Rattle.junction.specs.declared.Junction.{Junction}
use Rattle.junction_places.specs.Blank.{blank}
use Rattle.junction_questions.specs.Questions.{field_verdict}
use Rattle.junction_questions.specs.Questions.{first_lacking, counts_verdict, whole, whole_verdict}
use Rattle.junction_file.specs.Reading.{after_field, read_field, at_end, read_from, reading}
use Rattle.junction_file.specs.Numbers.{field_numbered}

end_numbered : (size : ℕ) (j : Junction) → Numbered (at_end size j).verdict
unfolding at_end whole_verdict counts_verdict
end_numbered size j =
    ask_numbered (whole j) 8 size _ (omega arith)
    (ask_numbered (leb j.held.streams (first_lacking j)) 9 (first_lacking j + 1) Passed (omega arith) tt)

from_numbered : (fuel : ℕ) (s : List ℕ) (at : ℕ) (j : Junction) → Numbered (read_from fuel s at j).verdict
unfolding read_from read_field after_field
from_numbered zero s at j = end_numbered (length s) j
from_numbered (suc fuel) s at j =
    let later = from_numbered fuel s (field_end s at) in
    by_test (ltb at (length s))
    (λ e. rw e
    (by_test (is_refused (field_verdict s at j)) (λ t. rw t (field_numbered s at j)) (λ t. rw t (later _))))
    (λ e. rw e (end_numbered (length s) j))

pub reading_numbered : (s : List ℕ) → Numbered (reading s).verdict
unfolding reading
reading_numbered s =
    by_test (leb (length s) most_bytes) (λ e. rw e (from_numbered (length s) s 0 blank)) (λ e. rw e (omega arith))

-- the answer's number is 0 exactly where the file is taken
pub number_taken : (s : List ℕ) → (number_of (reading s).verdict ≡ 0) ↔ ((reading s).verdict ≡ Passed)
number_taken s = passed_number (reading s).verdict (reading_numbered s)
