-- The questions come in the verdict's order; where none refuses, the buffer has the plan that was found.
use Rattle.std.proofs.Common.{◌≡◌, ◌<◌, ◌≤◌, length, ◌∙◌, ap, sym, ltb-true, ltb-false}
use Rattle.std.proofs.lemmas.Result.{err_from_is_err_and}
use Rattle.fields.specs.Verdict.{is_refused, ask_fails, ask_holds}
use Rattle.cycle_search.specs.Planning.{ratios}
use Rattle.planner.specs.lemmas.Cases.{found_plan, found_cycle}
use Rattle.planner.proofs.lemmas.Cases.{cycle_found, sum_refused, sum_passed}
use Rattle.planner.proofs.lemmas.Cases.{worked_refused, worked_passed, buffer_refused, buffer_passed}
use Rattle.planner.specs.WorkingOut.{junction_verdict}
use Rattle.planner.proofs.work_out_junction.Goals.{After-sums_of-sums, After-calculated}
use Rattle.planner.proofs.work_out_junction.Goals as goal

total : (c : After-sums_of-sums) → c.sums_of-sums.result.ratios ≡ ratios c.args.j
unfolding ratios
total c = simp (c.sums_of-sums.ensures, c.phases_at-q.ensures, c.tables_of-tables.ensures)

pub returns-in_err-ask : goal.returns-in_err-ask
returns-in_err-ask c =
    let p = err_from_is_err_and c.from_residual.result c.from_residual.ensures.1 in
    let fails = ask_fails _ _ _ (sym c.ask.ensures ∙ c.in_err-ask.was) in
    let many : 10000 ≤ ratios c.args.j = rw (total (goal.at.returns-in_err-ask c).After-sums_of-sums) at (ltb-false _ _ fails.0) in
    let e = sum_refused c.args.j (length c.args.out.now) many in
    let t = ap is_refused e in
    record { result = rw (p.1, p.2, fails.1, ← worked_refused c.args.j _ t, e); lent = buffer_refused c.args.j _ t }

judged : (c : After-calculated) → c.calculated.result ≡ junction_verdict c.args.j (length c.args.out.now)
unfolding ratios
judged c =
    let total : c.sums_of-sums.result.ratios ≡ ratios c.args.j = simp (c.sums_of-sums.ensures, c.phases_at-q.ensures, c.tables_of-tables.ensures) in
    let few : ratios c.args.j < 10000 = rw total at (ltb-true _ _ (ask_holds _ _ _ (sym c.ask.ensures ∙ c.in_ok-ask.was))) in
    c.calculated.ensures ∙ simp (c.has_room.ensures, c.find_cycle-found.ensures, c.tables_of-tables.ensures, found_cycle) (sym (sum_passed c.args.j _ few))

pub returns-in_err-calculated : goal.returns-in_err-calculated
returns-in_err-calculated c =
    let p = err_from_is_err_and c.from_residual-in_err-calculated.result c.from_residual-in_err-calculated.ensures.1 in
    let e = sym (judged (goal.at.returns-in_err-calculated c).After-calculated) ∙ c.in_err-calculated.was in
    let t = ap is_refused e in
    record { result = rw (p.1, p.2, ← worked_refused c.args.j _ t, e); lent = buffer_refused c.args.j _ t }

pub returns : goal.returns
returns c =
    let e = sym (judged (goal.at.returns c).After-calculated) ∙ c.in_ok-calculated.was in
    let t = ap is_refused e in
    let low = cycle_found c.args.j _ e in
    record {
      result = rw (← worked_passed c.args.j _ t, e, c.find_cycle-found.ensures, c.tables_of-tables.ensures, c.plan_size.ensures);
      lent = simp (c.write.ensures, c.find_cycle-found.ensures, c.tables_of-tables.ensures, found_plan c.args.j low) (buffer_passed c.args.j _ t);
    }
