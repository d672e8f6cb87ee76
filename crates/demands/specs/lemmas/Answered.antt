-- The answer of every entry over files is the answer to its questions, asked in order.
use Rattle.std.specs.Prelude.{ℕ, zero, suc, ◌+◌, ◌-◌, Bool, true, false, not, List, ◌≡◌, leb, ltb, length}
use Rattle.std.proofs.Common.{add-sub_cancel, ◌∙◌, ap}
use Rattle.std.proofs.Math.Path.{refl, sym}
use Rattle.laws.proofs.Search.{first_same}
use Rattle.laws.specs.Tests.{by_test}
use Rattle.limits.specs.Limits.{most_bytes}
use Rattle.fields.specs.Bytes.{byte_at, number_at, field_end, body_of}
use Rattle.fields.specs.Verdict.{is_refused, first_refused, first_passed, first_failing, ask_each, Passed}
use Rattle.junction.specs.declared.Junction.{Junction}
use Rattle.junction_places.specs.Blank.{blank}
use Rattle.junction_questions.specs.Questions.{body_verdict, field_verdict, lacks_count, first_lacking, counts_verdict, whole_verdict}
use Rattle.junction_file.specs.Reading.{with_field, after_field, read_field, at_end, read_from, reading}
use Rattle.plan_file.specs.Plans.{due_verdict, cycle_expected, cycle_in_range, cycle_verdict, green_expected, green_in_range, green_verdict, greens_from, plan_verdict}
use Rattle.planner.proofs.lemmas.Cases.{file_verdict_lem}
use Rattle.planner.specs.WorkingOut.{calculation, junction_verdict, worked}
use Rattle.demands.specs.Asked.{answer, answer_append, answer_each_last}
use Rattle.demands.specs.Questions.{field_asked, counted, whole_asked, fields_asked, junction_asked, due_asked, greens_asked, plan_asked, calculation_asked, work_asked}

field_answer : (s : List ℕ) (at : ℕ) (j : Junction) → answer (field_asked s at j) ≡ field_verdict s at j
unfolding answer field_asked field_verdict body_verdict
field_answer s at j = refl

twice_not : (b : Bool) → not (not b) ≡ b
twice_not true = refl
twice_not false = refl

counts_answer : (j : Junction) → ask_each (counted j) 9 j.held.streams Passed ≡ counts_verdict j
unfolding ask_each first_failing counted counts_verdict first_lacking
counts_answer j =
    rw (first_same (λ i. not (not (lacks_count j (i + 1 - 1)))) (lacks_count j) j.held.streams 0
    (λ k low high. twice_not _ ∙ ap (lacks_count j) (add-sub_cancel k 1)))

whole_answer : (size : ℕ) (j : Junction) → answer (whole_asked size j) ≡ whole_verdict size j
unfolding answer whole_asked whole_verdict
whole_answer size j = rw (answer_each_last (counted j) 9 j.held.streams, counts_answer j)

fields_answer : (fuel : ℕ) (s : List ℕ) (at : ℕ) (j : Junction) → answer (fields_asked fuel s at j) ≡ (read_from fuel s at j).verdict
unfolding fields_asked read_from at_end read_field after_field
fields_answer zero s at j = whole_answer (length s) j
fields_answer (suc fuel) s at j =
    let later = fields_answer fuel s (field_end s at) (with_field (byte_at s at) (body_of s at) j) in
    by_test (ltb at (length s))
    (λ l. rw l (answer_append (field_asked s at j) _ ∙ rw (field_answer s at j)
    (by_test (is_refused (field_verdict s at j))
    (λ e. first_refused (field_verdict s at j) _ e ∙ rw e)
    (λ e. first_passed (field_verdict s at j) _ e ∙ rw e later))))
    (λ l. rw l (whole_answer (length s) j))

-- the answer of every entry over files is that of its questions
pub read_answer : (s : List ℕ) → (reading s).verdict ≡ answer (junction_asked s)
unfolding reading junction_asked answer
read_answer s = by_test (leb (length s) most_bytes) (λ e. rw e (sym (fields_answer (length s) s 0 blank))) (λ e. rw e)

due_answer : (s : List ℕ) (at : ℕ) (expected in_range : Bool) → answer (due_asked s at expected in_range) ≡ due_verdict s at expected in_range
unfolding answer due_asked due_verdict
due_answer s at expected in_range = refl

greens_answer : (streams : ℕ) (s : List ℕ) (at n : ℕ) → answer (greens_asked streams s at n) ≡ greens_from streams s at n
unfolding answer greens_asked greens_from green_verdict
greens_answer zero s at n = refl
greens_answer (suc streams) s at n =
    let later = greens_answer streams s (field_end s at) (n + 1) in
    answer_append (due_asked s at (green_expected s at n) (green_in_range s at)) _ ∙ rw (due_answer s at (green_expected s at n) (green_in_range s at), later)

pub plan_answer_lem : (s : List ℕ) (streams : ℕ) → answer (plan_asked s streams) ≡ plan_verdict s streams
unfolding plan_asked plan_verdict cycle_verdict
plan_answer_lem s streams =
    answer_append (due_asked s 0 (cycle_expected s) (cycle_in_range (number_at s 3))) _
    ∙ rw (due_answer s 0 (cycle_expected s) (cycle_in_range (number_at s 3)), greens_answer streams s (field_end s 0) 1)

pub work_answer : (junction : List ℕ) (size : ℕ) → (worked junction size).verdict ≡ answer (work_asked junction size)
work_answer junction size =
    let j = (reading junction).junction in
    let last : answer (calculation_asked j size) ≡ junction_verdict j size = unfold answer calculation_asked junction_verdict calculation in refl in
    file_verdict_lem junction size ∙ sym (answer_append (junction_asked junction) _ ∙ rw (← read_answer junction, last))
