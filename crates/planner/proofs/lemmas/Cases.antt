-- What the answer and the buffer are where something is refused, and where nothing is; and that the cycle then works.
use Rattle.std.specs.Prelude.{ℕ, ◌≤◌, ◌<◌, true, false, List, ◌≡◌, ltb, length}
use Rattle.std.proofs.Common.{sym, ◌∙◌, true≢false}
use borrow.Author.Tests.{ltb-true, lt-ltb, le-ltb}
use Rattle.laws.specs.Tests.{by_test}
use Rattle.limits.specs.Limits.{no_cycle}
use Rattle.fields.specs.Verdict.{ask_passed, is_refused, first_refusal, first_refused, first_passed, Passed, Refused}
use Rattle.junction.specs.declared.Junction.{Junction}
use Rattle.plan_file.specs.Writing.{plan_size, has_room, written}
use Rattle.cycle_search.specs.Planning.{ratios, first_tried, plan_at, cycle, found}
use Rattle.junction_file.specs.Reading.{reading}
use Rattle.planner.specs.WorkingOut.{searched, refusal, calculation, junction_verdict, junction_worked, junction_buffer, worked, buffer}
use Rattle.planner.specs.WorkingOut.{Worked}

module _ (j : Junction) (size : ℕ) where
  pub cycle_found : junction_verdict j size ≡ Passed → cycle j < no_cycle
  unfolding junction_verdict calculation
  cycle_found e = ltb-true _ _ (ask_passed (ltb (cycle j) no_cycle) 22 0 _ (ask_passed (ltb (ratios j) 10000) 21 0 _ e).1).0

  pub room_found : junction_verdict j size ≡ Passed → has_room j.held.streams size ≡ true
  unfolding junction_verdict calculation
  room_found e =
      (ask_passed (has_room j.held.streams size) 23 0 _ (ask_passed (ltb (cycle j) no_cycle) 22 0 _ (ask_passed (ltb (ratios j) 10000) 21 0 _ e).1).1).0

  -- where Y is 10,000 or more the verdict is 21, and else that of what is asked after it
  pub sum_refused : 10000 ≤ ratios j → junction_verdict j size ≡ Refused 21 0
  unfolding junction_verdict calculation
  sum_refused h = rw (le-ltb (ratios j) 10000 h)

  pub sum_passed : ratios j < 10000 → junction_verdict j size ≡ searched (cycle j) (has_room j.held.streams size)
  unfolding junction_verdict calculation
  sum_passed h = rw (lt-ltb (ratios j) 10000 h)

  pub worked_refused : is_refused (junction_verdict j size) ≡ true → refusal (junction_verdict j size) ≡ junction_worked j size
  unfolding junction_worked
  worked_refused e = rw e

  pub worked_passed : is_refused (junction_verdict j size) ≡ false
      → ◌≡◌ {A = Worked} (record {
        verdict = junction_verdict j size;
        cycle = (found j (first_tried j)).cycle;
        tried = (found j (first_tried j)).tried;
        size = plan_size j.held.streams;
      }) (junction_worked j size)
  unfolding junction_worked
  worked_passed e = rw e

module _ (j : Junction) (lent : List ℕ) where
  pub buffer_refused : is_refused (junction_verdict j (length lent)) ≡ true → lent ≡ junction_buffer j lent
  unfolding junction_buffer
  buffer_refused e = rw e

  pub buffer_passed : is_refused (junction_verdict j (length lent)) ≡ false → written (plan_at j (cycle j)) j.held.streams lent ≡ junction_buffer j lent
  unfolding junction_buffer
  buffer_passed e = rw e

module _ (junction : List ℕ) where
  pub file_refused : (size : ℕ) → is_refused (reading junction).verdict ≡ true
      → refusal (reading junction).verdict ≡ worked junction size
  unfolding worked
  file_refused size e = rw e

  pub file_taken : (size : ℕ) → is_refused (reading junction).verdict ≡ false → junction_worked (reading junction).junction size ≡ worked junction size
  unfolding worked
  file_taken size e = rw e

  pub lent_refused : (lent : List ℕ) → is_refused (reading junction).verdict ≡ true → lent ≡ buffer junction lent
  unfolding buffer
  lent_refused lent e = rw e

  pub lent_taken : (lent : List ℕ) → is_refused (reading junction).verdict ≡ false → junction_buffer (reading junction).junction lent ≡ buffer junction lent
  unfolding buffer
  lent_taken lent e = rw e

-- the verdict of the answer, refused or not
pub worked_verdict : (j : Junction) (size : ℕ) → (junction_worked j size).verdict ≡ junction_verdict j size
unfolding junction_worked
worked_verdict j size = by_test (is_refused (junction_verdict j size)) (λ e. rw e) (λ e. rw e)

pub file_verdict_lem : (junction : List ℕ) (size : ℕ) → (worked junction size).verdict ≡ first_refusal (reading junction).verdict (junction_verdict (reading junction).junction size)
unfolding worked
file_verdict_lem junction size =
    by_test (is_refused (reading junction).verdict)
    (λ e. rw e (sym (first_refused (reading junction).verdict _ e)))
    (λ e. rw e (worked_verdict (reading junction).junction size ∙ sym (first_passed (reading junction).verdict _ e)))

-- with a refusal, the three numbers are 0
pub worked_nothing : (junction : List ℕ) (size : ℕ) → is_refused (worked junction size).verdict ≡ true
    → worked junction size ≡ refusal (worked junction size).verdict
unfolding worked junction_worked
worked_nothing junction size e =
    let j = (reading junction).junction in
    by_test (is_refused (reading junction).verdict) (λ t. rw t)
    (λ t. by_test (is_refused (junction_verdict j size)) (λ u. rw (t, u)) (λ u. absurd (true≢false (sym (rw (t, u) at e) ∙ u))))
