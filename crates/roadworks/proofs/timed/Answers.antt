-- Each number that it works out is that of the definitions.
use Rattle.std.specs.Prelude.{Ok}
use Rattle.std.proofs.lemmas.Result.{err_from_is_err_and}
use Rattle.fields.specs.Verdict.{ask_fails, ask_holds}
use Rattle.std.proofs.Common.{true, false, ◌&&◌, ◌<◌, ◌≤◌, ◌≡◌, ◌∙◌, ap, sym, ltb-true, ltb-false}
use Rattle.limits.specs.Limits.{no_cycle}
use Rattle.phase_lengths.specs.First.{first_length_range}
use Rattle.phase_lengths.specs.Phases.{sums_of, ratio_sum}
use Rattle.phase_greens.specs.Fills.{Right}
use Rattle.roadworks.proofs.Approaches.{phases_right_lem}
use Rattle.roadworks.proofs.Cycle.{cycle_greens}
use Rattle.roadworks.proofs.lemmas.Steps.{too_much, no_length, waiting_short, all_answered}
use Rattle.roadworks.specs.Roadworks.{asked_of, phases_of, first_tried, cycle_of, enough_waiting, timing}
use Rattle.roadworks.proofs.timed.Goals.{After-phases_of-q, After-sums_of-sums, In-Some, In_ok-ask}
use Rattle.roadworks.proofs.timed.Goals as goal

-- the phases are those of what is asked, and as the rules of greens ask
phases : (c : After-phases_of-q) → c.phases_of-q.result ≡ phases_of (asked_of c.args.stretch c.args.speed c.args.first c.args.second)
phases c = c.phases_of-q.ensures ∙ rw (c.load-2.ensures, c.load.ensures, c.intergreen.ensures)

right : (c : After-phases_of-q) → Right c.phases_of-q.result
right c =
    let pre = c.requires in
    rw (phases c) (phases_right_lem c.args.stretch c.args.speed c.args.first c.args.second pre.listed pre.first pre.second)

-- so are their sums, and the cycle is found
ratios : (c : After-sums_of-sums)
    → c.sums_of-sums.result.ratios ≡ ratio_sum (phases_of (asked_of c.args.stretch c.args.speed c.args.first c.args.second))
ratios c =
    ap (λ x. x.ratios) (c.sums_of-sums.ensures
    ∙ ap sums_of (c.phases_of-q.ensures ∙ rw (c.load-2.ensures, c.load.ensures, c.intergreen.ensures)))

-- the cycle that is found
found : (c : In-Some)
    → (c.in-Some.cycle < no_cycle) × (c.in-Some.cycle ≡ cycle_of (asked_of c.args.stretch c.args.speed c.args.first c.args.second))
unfolding cycle_of first_tried
found c = (
  c.in-Some.ensures.some.0,
  c.in-Some.ensures.some.1
      ∙ rw (
        c.first_length.ensures,
        c.sums_of-sums.ensures,
        c.phases_of-q.ensures,
        c.load-2.ensures,
        c.load.ensures,
        c.intergreen.ensures,
      ),
)

-- where Y is below 10,000
low : (c : In_ok-ask) → c.sums_of-sums.result.ratios < 10000
low c = ltb-true _ _ (ask_holds _ _ _ (sym c.ask.ensures ∙ c.in_ok-ask.was))

pub returns-in_err-ask : goal.returns-in_err-ask
returns-in_err-ask c =
    let p = err_from_is_err_and c.from_residual.result c.from_residual.ensures.1 in
    let fails = ask_fails _ _ _ (sym c.ask.ensures ∙ c.in_err-ask.was) in
    let at = (goal.at.returns-in_err-ask c).After-sums_of-sums in
    let high : 10000 ≤ c.sums_of-sums.result.ratios = ltb-false _ _ fails.0 in
    rw (p.1, p.2, fails.1) (sym (too_much _ _ _ _ (rw (ratios at) at high)))

pub search-requires-clause-right : goal.search-requires-clause-right
search-requires-clause-right c = right (goal.at.search-requires-clause-right c).After-phases_of-q

pub search-requires-clause-short : goal.search-requires-clause-short
search-requires-clause-short c = rw c.first_length.ensures (first_length_range _ _ _).1

pub returns-in_default : goal.returns-in_default
unfolding cycle_of first_tried
returns-in_default c =
    let at = goal.at.returns-in_default c in
    let few : c.sums_of-sums.result.ratios < 10000 = low at.In_ok-ask in
    let high : no_cycle ≤ cycle_of (asked_of c.args.stretch c.args.speed c.args.first c.args.second) =
    rw (
      c.first_length.ensures,
      c.sums_of-sums.ensures,
      c.phases_of-q.ensures,
      c.load-2.ensures,
      c.load.ensures,
      c.intergreen.ensures,
    ) at c.in_default.ensures.none in
    sym (no_length _ _ _ _ (rw (ratios at.After-sums_of-sums) at few) high)

pub returns-in_err-ask-2 : goal.returns-in_err-ask-2
returns-in_err-ask-2 c =
    let at = goal.at.returns-in_err-ask-2 c in
    let p = err_from_is_err_and c.from_residual-in_err-ask-2.result c.from_residual-in_err-ask-2.ensures.1 in
    let fails = ask_fails _ _ _ (sym c.ask-2.ensures ∙ c.in_err-ask-2.was) in
    let no : (enough_waiting c.args.first c.in-Some.cycle && enough_waiting c.args.second c.in-Some.cycle) ≡ false =
    rw (c.enough_waiting-2.ensures, c.enough_waiting.ensures) at fails.0 in
    let few : c.sums_of-sums.result.ratios < 10000 = low at.In_ok-ask in
    let is = found at.In-Some in
    rw (p.1, p.2, fails.1) (sym (waiting_short _ _ _ _ (rw (ratios at.After-sums_of-sums) at few) (rw is.1 at is.0) (rw is.1 at no)))

pub timing_at-requires-clause-right : goal.timing_at-requires-clause-right
timing_at-requires-clause-right c = right (goal.at.timing_at-requires-clause-right c).After-phases_of-q

pub timing_at-requires-clause-green : goal.timing_at-requires-clause-green
timing_at-requires-clause-green c =
    let at = goal.at.timing_at-requires-clause-green c in
    let is = found at.In-Some in
    rw (is.1, phases at.After-phases_of-q) (cycle_greens _ (rw is.1 at is.0))

pub returns : goal.returns
unfolding timing
returns c =
    let at = goal.at.returns c in
    let yes : (enough_waiting c.args.first c.in-Some.cycle && enough_waiting c.args.second c.in-Some.cycle) ≡ true =
    rw (c.enough_waiting-2.ensures, c.enough_waiting.ensures) at (ask_holds _ _ _ (sym c.ask-2.ensures ∙ c.in_ok-ask-2.was)) in
    let few : c.sums_of-sums.result.ratios < 10000 = low at.In_ok-ask in
    let is = found at.In-Some in
    ap Ok (c.timing_at.ensures ∙ rw (c.times.ensures, is.1, phases at.After-phases_of-q))
    ∙ sym (all_answered _ _ _ _ (rw (ratios at.After-sums_of-sums) at few) (rw is.1 at is.0) (rw is.1 at yes))
