-- Each refusal has a number that document 01 lists for its entry, and a place that the number can have.
use Prim.Native.Nat.{ℕ, zero, suc, ◌+◌, ◌<◌}
use Rattle.std.proofs.Common.{arith}
use Rattle.std.specs.Prelude.{List, leb, ltb}
use Rattle.std.proofs.Math.ListN.{length}
use borrow.Author.Tests.{leb-false, ltb-true}
use Rattle.laws.specs.Tests.{by_test}
use Rattle.limits.specs.Limits.{no_cycle, most_bytes}
use Rattle.fields.specs.Bytes.{byte_at, field_end, fits, body_of}
use Rattle.fields.specs.Verdict.{is_refused, Passed}
use Rattle.junction.specs.declared.Junction.{Junction}
use Rattle.junction_places.specs.Blank.{blank}
use Rattle.junction_questions.specs.Questions.{in_order, length_right, in_range, within_limit, refers, body_verdict, named_by, field_verdict}
use Rattle.junction_questions.specs.Questions.{first_lacking, counts_verdict, whole, whole_verdict}
use Rattle.junction_file.specs.Reading.{after_field, read_field, at_end, read_from, reading}
use Rattle.plan_file.specs.Plans.{plan_verdict, plan_of}
use Rattle.plan_file.specs.Writing.{has_room}
use Rattle.plan_rules.specs.Rules.{need_met, capacity_met, zone_met, rules_verdict}
use Rattle.plan_judge.specs.Judgement.{plan_judgement, judgement}
use Rattle.cycle_search.specs.Planning.{ratios, cycle}
use Rattle.planner.proofs.lemmas.Cases.{file_verdict_lem}
use Rattle.planner.specs.WorkingOut.{calculation, junction_verdict, worked}
use Rattle.demands.specs.Places.{JunctionPlace, long, field, file, count, need, capacity, zone}
use Rattle.demands.specs.Places.{ratios_sum, no_cycle_lem, no_room, JudgePlace, WorkPlace, of_junction, of_plan, of_rule, of_calculation}
use Rattle.demands.specs.lemmas.Told.{Told, ask_told, first_told, each_told, told_more, plan_told}

module _ (s : List ℕ) where
  field_told : (at streams : ℕ) (j : Junction) → at < length s → Told (JunctionPlace (length s) streams) (field_verdict s at j)
  unfolding field_verdict body_verdict
  field_told at streams j low =
      let R = JunctionPlace (length s) streams in
      let tag = byte_at s at in
      let b = body_of s at in
      ask_told R (fits s at) 2 at _ (λ e. field (omega arith) low) (λ e.
      ask_told R (in_order j.held.last tag) 3 at _ (λ e. field (omega arith) low) (λ e.
      ask_told R (length_right tag b) 4 at _ (λ e. field (omega arith) low) (λ e.
      ask_told R (in_range tag b) 5 at _ (λ e. field (omega arith) low) (λ e.
      ask_told R (within_limit tag j.held) 6 at _ (λ e. field (omega arith) low) (λ e.
      ask_told R (refers tag j.held.streams b (named_by j b 0) (named_by j b 1)) 7 at Passed (λ e. field (omega arith) low) (λ e. tt))))))

  end_told : (j : Junction) → Told (JunctionPlace (length s) j.held.streams) (whole_verdict (length s) j)
  unfolding whole_verdict counts_verdict first_lacking
  end_told j =
      let R = JunctionPlace (length s) j.held.streams in
      ask_told R (whole j) 8 (length s) _ (λ e. file) (λ e.
      ask_told R (leb j.held.streams (first_lacking j)) 9 (first_lacking j + 1) Passed
      (λ f. let low = leb-false j.held.streams (first_lacking j) f in count (omega arith)) (λ f. tt))

  from_told : (fuel at : ℕ) (j : Junction) → Told (JunctionPlace (length s) (read_from fuel s at j).junction.held.streams) (read_from fuel s at j).verdict
  unfolding read_from at_end read_field after_field
  from_told zero at j = end_told j
  from_told (suc fuel) at j =
      let later = from_told fuel (field_end s at) in
      by_test (ltb at (length s))
      (λ l. by_test (is_refused (field_verdict s at j))
      (λ e. rw (l, e) (field_told at _ j (ltb-true _ _ l)))
      (λ e. rw (l, e) (later _)))
      (λ l. rw l (end_told j))

  pub junction_told : Told (JunctionPlace (length s) (reading s).junction.held.streams) (reading s).verdict
  unfolding reading
  junction_told = by_test (leb (length s) most_bytes) (λ e. rw e (from_told (length s) 0 blank)) (λ e. rw e long)

pub judge_told : (junction plan : List ℕ) → Told (JudgePlace junction plan) (judgement junction plan)
unfolding judgement plan_judgement rules_verdict
judge_told junction plan =
    let R = JudgePlace junction plan in
    let j = (reading junction).junction in
    let p = plan_of plan in
    first_told R (reading junction).verdict _ (told_more _ R (λ n q. of_junction) (reading junction).verdict (junction_told junction)) (λ e.
    first_told R (plan_verdict plan j.held.streams) _
    (told_more _ R (λ n q. of_plan) (plan_verdict plan j.held.streams) (plan_told plan j.held.streams)) (λ e.
    each_told R (need_met j p) 15 j.held.streams _ (λ k w. of_rule (need w))
    (each_told R (capacity_met j p) 16 j.held.streams _ (λ k w. of_rule (capacity w))
    (each_told R (zone_met j p) 17 j.held.zones Passed (λ k w. of_rule (zone w)) tt))))

pub work_told : (junction : List ℕ) (size : ℕ) → Told (WorkPlace junction) (worked junction size).verdict
unfolding junction_verdict calculation
work_told junction size =
    let R = WorkPlace junction in
    let j = (reading junction).junction in
    rw (file_verdict_lem junction size)
    (first_told R (reading junction).verdict _ (told_more _ R (λ n q. of_junction) (reading junction).verdict (junction_told junction)) (λ e.
    ask_told R (ltb (ratios j) 10000) 21 0 _ (λ e. of_calculation ratios_sum) (λ e.
    ask_told R (ltb (cycle j) no_cycle) 22 0 _ (λ e. of_calculation no_cycle_lem) (λ e.
    ask_told R (has_room j.held.streams size) 23 0 Passed (λ e. of_calculation no_room) (λ e. tt)))))
