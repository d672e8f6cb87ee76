-- The answer of each entry, and of each function of the C library, is the refusal of the first of its questions that fails, or no refusal; and a
-- refusal leaves the lent buffer as it is.
use Rattle.std.specs.Prelude.{ℕ, ◌≤◌, true, List, ◌≡◌, refl, length, Ok, Err}
use Rattle.std.proofs.Common.{arith, sym, ◌∙◌, ap, subst}
use Rattle.laws.specs.Tests.{by_test}
use Rattle.fields.specs.Verdict.{number_of, place_of, is_refused, Verdict}
use Rattle.counts.specs.declared.Wanted.{Wanted}
use Rattle.junction_file.specs.Reading.{reading}
use Rattle.planner.proofs.lemmas.Cases.{file_taken, lent_refused, lent_taken, buffer_refused, worked_verdict}
use Rattle.planner.specs.WorkingOut.{worked, buffer}
use Rattle.offsets.proofs.Refused.{shift_unaltered}
use Rattle.offsets.specs.Shifting.{shift_verdict, shifted_plan}
use Rattle.roadworks.proofs.RefusedLaws.{unless_number as portable-number}
use Rattle.roadworks.specs.Roadworks.{portable_verdict, timing, portable}
use Rattle.roadworks.specs.declared.Approach.{Approach}
use Rattle.givendra.specs.Answers.{answer_of, shift_answer, plan_answer, figure, portable_answer}
use Rattle.givendra.specs.LentList.{newest_answer, newest_figure}
use Rattle.givendra.specs.declared.CountRecord.{CountRecord}
use Rattle.demands.specs.Asked.{Question, answer, answer_refused, answer_passed, Answers, AnswersBy}
use Rattle.demands.specs.Places.{ListPlace, PortablePlace}
use Rattle.demands.specs.Questions.{list_asked, portable_asked}
use Rattle.demands.specs.lemmas.Library.{said_is, list_some, portable_some, portable_answer_lem, portable_told}
use Rattle.demands.specs.lemmas.Library.{list_answer, list_told}
use Rattle.demands.specs.lemmas.Told.{Told, told_more}

pub answers : (v : Verdict) (asked : List Question) (Listed : ℕ → ℕ → Type 0) → v ≡ answer asked → Told Listed v → Answers v asked Listed
answers v asked Listed e told =
    record {
      refused = rw e (answer_refused asked);
      listed = λ number place is. subst (Told Listed) is told;
      passed = rw e (answer_passed asked);
    }

pub answers_by : (v : Verdict) (asked : List Question) (Listed : ℕ → ℕ → Type 0) → ((n p : ℕ) → Listed n p → 1 ≤ n) → v ≡ answer asked → Told Listed v
    → AnswersBy (number_of v) (place_of v) asked Listed
answers_by v asked Listed some e told =
    subst (λ w. Answers w asked Listed) (sym (said_is v (told_more Listed _ some v told))) (answers v asked Listed e told)

pub kept : (junction lent : List ℕ) → is_refused (worked junction (length lent)).verdict ≡ true → buffer junction lent ≡ lent
kept junction lent e =
    by_test (is_refused (reading junction).verdict)
    (λ r. sym (lent_refused junction lent r))
    (λ r. let j = (reading junction).junction in
    let is = ap is_refused (sym (worked_verdict j (length lent)) ∙ ap (λ w. w.verdict) (file_taken junction (length lent) r)) ∙ e in
    sym (buffer_refused j lent is ∙ lent_taken junction lent r))

pub numbered_refused : (v : Verdict) → 1 ≤ number_of v → is_refused v ≡ true
numbered_refused (Ok u) some = absurd (omega arith)
numbered_refused (Err r) some = refl

pub c_portable_holds : (stretch speed : ℕ) (a b : Approach)
    → AnswersBy (portable_answer stretch speed a b).refusal (portable_answer stretch speed a b).place (portable_asked stretch speed a b) PortablePlace
unfolding portable_answer portable
c_portable_holds stretch speed a b =
    let v = portable_verdict stretch speed a b in
    let is = portable-number v (timing stretch speed a b) in
    rw (is.0, is.1) (answers_by v _ _ portable_some (portable_answer_lem stretch speed a b) (portable_told stretch speed a b))

module _ (junction plan : List ℕ) (offset : ℕ) where
  pub c_shift_kept : 1 ≤ (shift_answer junction plan offset).refusal → shifted_plan junction plan offset ≡ plan
  unfolding shift_answer answer_of
  c_shift_kept some = shift_unaltered junction plan offset (numbered_refused (shift_verdict junction plan offset) some)

module _ (junction : List ℕ) where
  pub c_kept : (lent : List ℕ) → 1 ≤ (plan_answer junction (length lent)).refusal → buffer junction lent ≡ lent
  unfolding plan_answer
  c_kept lent some = kept junction lent (numbered_refused (worked junction (length lent)).verdict some)

pub newest_holds : (list : List CountRecord) (w : Wanted)
    → AnswersBy (newest_answer list w).refusal (newest_answer list w).place (list_asked list w) (ListPlace w.stream)
unfolding newest_answer newest_figure figure
newest_holds list w = answers_by _ _ _ list_some (list_answer list w) (list_told list w)
