-- Every plan that is worked out is well-formed and accepted: the bytes written, judged with the junction file that they were worked out from.
use Rattle.planner.specs.declared.WorkedOut.{WorkedOut}
use Rattle.fields.specs.declared.Refusal.{Refusal}
use Rattle.std.specs.Prelude.{ℕ, ◌≤◌, List, ◌≡◌, length, take, Result, Ok, Err, IfOk}
use Rattle.std.proofs.Common.{zero-le, arith, true≢false, sym, ◌∙◌, ap}
use Rattle.laws.specs.Ranges.{Between}
use Rattle.laws.specs.Tests.{by_test}
use Rattle.limits.specs.Limits.{most_seconds}
use Rattle.fields.specs.Verdict.{is_refused, not_refused, Passed, answered_ok}
use Rattle.junction.specs.declared.Junction.{Junction}
use Rattle.junction_file.specs.Reading.{reading}
use Rattle.junction_file.specs.Taken.{Taken}
use Rattle.junction_file.proofs.TakenFile.{taken}
use Rattle.plan_file.specs.Plans.{plan_verdict}
use Rattle.plan_file.specs.Writing.{plan_file, plan_size, has_room_lem, written_file}
use Rattle.cycle_search.specs.lemmas.Lengths.{works_only}
use Rattle.cycle_search.specs.Planning.{plan_at, cycle}
use Rattle.plan_judge.proofs.Demand3.{only_acceptable}
use Rattle.plan_judge.specs.Judgement.{plan_judgement, judgement}
use Rattle.planner.specs.lemmas.Cases.{first_tried_range, cycle_works}
use Rattle.planner.proofs.lemmas.Cases.{cycle_found, room_found, buffer_passed, worked_verdict}
use Rattle.planner.specs.WorkingOut.{junction_verdict, junction_worked, junction_buffer, worked, buffer, worked_or_refused}
use Rattle.planner.specs.Planned.{works_accepted}

module _ (j : Junction) (t : Taken j) (lent : List ℕ) (e : junction_verdict j (length lent) ≡ Passed) where
  found_low : Between 1 most_seconds (cycle j)
  found_low = omega (arith, cycle_found j (length lent) e, (cycle_works j (cycle_found j (length lent) e)).0, first_tried_range j)

  -- the file that is written
  file_written : take (plan_size j.held.streams) (junction_buffer j lent) ≡ plan_file (plan_at j (cycle j)) j.held.streams
  file_written =
      ap (take (plan_size j.held.streams)) (sym (buffer_passed j lent (ap is_refused e)))
      ∙ written_file (plan_at j (cycle j)) j.held.streams lent (room_found j (length lent) e)

  -- is accepted, since its length works
  pub plan_accepted : plan_judgement j (take (plan_size j.held.streams) (junction_buffer j lent)) ≡ Passed
  plan_accepted =
      let works = (cycle_works j (cycle_found j (length lent) e)).1 in
      rw file_written ((works_accepted j t (cycle j) found_low (works_only j (cycle j) works).0).0 works)

-- for every junction file and every lent buffer: where nothing is refused, the plan file in the buffer is accepted
pub planned_accepted : (junction lent : List ℕ) → (worked junction (length lent)).verdict ≡ Passed
    → judgement junction (take (plan_size (reading junction).junction.held.streams) (buffer junction lent)) ≡ Passed
unfolding judgement worked buffer
planned_accepted junction lent e =
    by_test (is_refused (reading junction).verdict)
    (λ r. let same : (reading junction).verdict ≡ Passed = rw r at e in absurd (true≢false (sym r ∙ ap is_refused same)))
    (λ r. let passed : (reading junction).verdict ≡ Passed = not_refused _ r in
    let answer : (junction_worked (reading junction).junction (length lent)).verdict ≡ Passed = rw r at e in
    rw (r, passed) (plan_accepted (reading junction).junction (taken junction passed) lent (sym (worked_verdict (reading junction).junction (length lent)) ∙ answer)))

-- and so is well-formed
pub planned_formed : (junction lent : List ℕ) → (worked junction (length lent)).verdict ≡ Passed
    → plan_verdict (take (plan_size (reading junction).junction.held.streams) (buffer junction lent)) (reading junction).junction.held.streams ≡ Passed
planned_formed junction lent e = ((only_acceptable junction (take (plan_size (reading junction).junction.held.streams) (buffer junction lent))).0 (planned_accepted junction lent e)).1

-- the plan file's size is at most the buffer's
pub size_within : (junction : List ℕ) (room : ℕ) → (worked junction room).size ≤ room
unfolding worked junction_worked
size_within junction room =
    let j = (reading junction).junction in
    by_test (is_refused (reading junction).verdict) (λ e. rw e zero-le)
    (λ e. by_test (is_refused (junction_verdict j room)) (λ r. rw (e, r) zero-le)
    (λ r. rw (e, r) (has_room_lem j.held.streams room (room_found j room (not_refused _ r))).1))

-- so is that of an answer
pub answer_within : (junction : List ℕ) (size : ℕ) (r : Result WorkedOut Refusal) → r ≡ worked_or_refused (worked junction size)
    → IfOk r (λ w. w.size ≤ size)
answer_within junction size (Ok w) e =
    let is = answered_ok (worked junction size).verdict _ (sym e) in
    rw (← is.1) (size_within junction size)
answer_within junction size (Err r) e = tt
