-- The questions come in the definition's order.
use Rattle.std.proofs.Common.{true, false, ◌&&◌, ◌≡◌, ◌∙◌, sym}
use Rattle.std.proofs.lemmas.Result.{err_from_is_err_and}
use Rattle.laws.specs.Tests.{both_left, both_right}
use Rattle.stretches.specs.Table.{listed}
use Rattle.fields.specs.Verdict.{ask_fails, ask_holds}
use Rattle.roadworks.proofs.lemmas.Steps.{not_listed, out_of_range, asked_later}
use Rattle.roadworks.specs.Roadworks.{in_range}
use Rattle.roadworks.proofs.work_out.Goals.{In_ok-ask, In_ok-ask-2}
use Rattle.roadworks.proofs.work_out.Goals as goal

pub returns-in_err-ask : goal.returns-in_err-ask
returns-in_err-ask c =
    let p = err_from_is_err_and c.from_residual.result c.from_residual.ensures.1 in
    let fails = ask_fails _ _ _ (sym c.ask.ensures ∙ c.in_err-ask.was) in
    rw (p.1, p.2, fails.1) (sym (not_listed _ _ _ _ (sym c.listed.ensures ∙ fails.0)))

-- where the first question is passed
known : (c : In_ok-ask) → listed c.args.stretch c.args.speed ≡ true
known c = sym c.listed.ensures ∙ ask_holds _ _ _ (sym c.ask.ensures ∙ c.in_ok-ask.was)

pub returns-in_err-ask-2 : goal.returns-in_err-ask-2
returns-in_err-ask-2 c =
    let p = err_from_is_err_and c.from_residual-in_err-ask-2.result c.from_residual-in_err-ask-2.ensures.1 in
    let fails = ask_fails _ _ _ (sym c.ask-2.ensures ∙ c.in_err-ask-2.was) in
    let ranges : (in_range c.args.first && in_range c.args.second) ≡ false = rw (c.in_range-2.ensures, c.in_range.ensures) at fails.0 in
    rw (p.1, p.2, fails.1) (sym (out_of_range _ _ _ _ (known (goal.at.returns-in_err-ask-2 c).In_ok-ask) ranges))

-- where the second one is
ranged : (c : In_ok-ask-2) → (in_range c.args.first && in_range c.args.second) ≡ true
ranged c = rw (c.in_range-2.ensures, c.in_range.ensures) at (ask_holds _ _ _ (sym c.ask-2.ensures ∙ c.in_ok-ask-2.was))

pub timed-requires : goal.timed-requires
timed-requires c =
    let both = ranged (goal.at.timed-requires c).In_ok-ask-2 in
    record {
      listed = known (goal.at.timed-requires c).In_ok-ask;
      first = both_left (in_range c.args.first) _ both;
      second = both_right (in_range c.args.first) _ both;
    }

pub returns : goal.returns
returns c =
    c.timed.ensures ∙ sym (asked_later _ _ _ _ (known (goal.at.returns c).In_ok-ask) (ranged (goal.at.returns c).In_ok-ask-2))
