-- 21, 22 and 23, asked in order, and what is worked out where none of them is refused.
use Prim.Native.Nat.{ℕ, ◌≤◌, ◌<◌}
use Rattle.std.proofs.Common.{arith, ◌∙◌, ltb-true, ltb-false}
use Rattle.std.specs.Prelude.{List, ◌↔◌, ◌≡◌, refl, ltb, length}
use Rattle.std.proofs.Math.Bool.{true≢false}
use Rattle.std.proofs.Math.Path.{sym, ap}
use Rattle.laws.specs.Ranges.{Between}
use Rattle.laws.specs.Tests.{by_test}
use Rattle.limits.specs.Limits.{no_cycle, most_seconds}
use Rattle.fields.specs.Verdict.{is_refused, Passed}
use Rattle.junction_file.specs.Reading.{reading}
use Rattle.plan_file.specs.Writing.{plan_size, has_room}
use Rattle.cycle_search.specs.Planning.{ratios, first_tried, cycle, found}
use Rattle.planner.specs.lemmas.Cases.{first_tried_range, found_cycle, cycle_works}
use Rattle.planner.proofs.lemmas.Cases.{worked_passed, file_taken}
use Rattle.planner.specs.Demand2.{cycle_least, tried_bounds}
use Rattle.planner.specs.WorkingOut.{Worked}
use Rattle.planner.specs.WorkingOut.{calculation, junction_verdict, worked}
use Rattle.demands.specs.Files.{Accepted, Result}
use Rattle.demands.proofs.lemmas.Works.{works_file}
use Rattle.demands.specs.lemmas.Calculation.{ask_none, verdict_is, buffer_is}

module _ (junction : List ℕ) (is : (reading junction).verdict ≡ Passed) where
  -- a cycle is there exactly where some length is accepted
  pub cycle_some : (cycle (reading junction).junction < no_cycle)
      ↔ ((t : ℕ) × Between (first_tried (reading junction).junction) most_seconds t × Accepted junction t)
  cycle_some =
      let j = (reading junction).junction in
      let first = first_tried_range j in (
        λ low. let w = cycle_works j low in (cycle j, omega arith, (works_file junction is (cycle j) (omega arith)).0 w.1),
        λ some. by_test (ltb (cycle j) no_cycle) (λ e. ltb-true _ _ e) (λ e.
            let high : no_cycle ≤ cycle j = ltb-false _ _ e in
            let works = (works_file junction is some.0 (omega arith)).1 some.2 in
            absurd (true≢false (sym works ∙ cycle_least j some.0 (omega arith) (omega arith)))),
      )

  pub cycle_none : (no_cycle ≤ cycle (reading junction).junction)
      ↔ ((t : ℕ) → first_tried (reading junction).junction ≤ t → t ≤ most_seconds → Accepted junction t → ⊥)
  cycle_none =
      let j = (reading junction).junction in (
        λ high t low most a. let c = cycle_some.1 (t, omega arith, a) in omega arith,
        λ none. by_test (ltb (cycle j) no_cycle)
            (λ e. let some = cycle_some.0 (ltb-true _ _ e) in absurd (none some.0 some.1.0 some.1.1 some.2))
            (λ e. ltb-false _ _ e),
      )

  module _ (lent : List ℕ) where
    pub answered : (worked junction (length lent)).verdict ≡ Passed → Result junction lent (worked junction (length lent))
    answered e =
        let j = (reading junction).junction in
        let three = (ask_none (ltb (ratios j) 10000) (ltb (cycle j) no_cycle) (has_room j.held.streams (length lent))).0 (sym (verdict_is junction is lent) ∙ e) in
        let low : cycle j < no_cycle = ltb-true _ _ three.1 in
        let passed : junction_verdict j (length lent) ≡ Passed = unfold junction_verdict calculation in (sym (verdict_is junction is lent) ∙ e) in
        let told : ℕ → Worked =
        λ c. record {
          verdict = junction_verdict j (length lent);
          cycle = c;
          tried = (found j (first_tried j)).tried;
          size = plan_size j.held.streams;
        } in
        let searched = worked_passed j (length lent) (ap is_refused passed) ∙ file_taken junction (length lent) (ap is_refused is) in
        let w : worked junction (length lent) ≡ told (cycle j) = sym searched ∙ ap told (found_cycle j) in
        let works = cycle_works j low in
        let first = first_tried_range j in
        let bounds = tried_bounds j low in
        rw w
        (record {
          range = omega arith;
          accepted = (works_file junction is (cycle j) (omega arith)).0 works.1;
          least = λ t from below a. true≢false (sym ((works_file junction is t (omega arith)).1 a) ∙ cycle_least j t from below);
          most = bounds.0;
          fewest = bounds.1;
          size = unfold plan_size in refl;
          file = buffer_is junction is lent passed three.2;
        })
