-- What is left of the file has the answer of the whole: each field that passes is taken as the definition takes it.
use Rattle.std.proofs.Common.{◌+◌, ◌-◌, ◌≤◌, ◌≡◌, length, take, drop, ◌∙◌, sym, ap, arith, leb-true, leb-false}
use Rattle.std.proofs.lemmas.Result.{err_from_is_err_and}
use Rattle.fields.specs.Bytes.{byte_at, body_of, field_end, field_long, body_part}
use Rattle.fields.specs.Verdict.{is_refused, Passed, ask_fails, ask_holds}
use Rattle.junction_questions.specs.lemmas.Passed.{field_passed}
use Rattle.junction_questions.specs.Questions.{field_verdict}
use Rattle.junction_file.specs.Reading.{at_end, taken_or_refused}
use Rattle.junction_file.specs.lemmas.Rest.{field_fits}
use Rattle.junction_file.proofs.lemmas.Rest.{rest_begins, rest_ends, rest_refused, rest_unfit, rest_turns}
use Rattle.junction_file.proofs.read_fields.Goals.{After-ask, After-body_verdict}
use Rattle.junction_file.proofs.read_fields.Goals as goal

pub loop-at-init : goal.loop-at-init
loop-at-init c = rw c.blank-j.ensures (rest_begins _)

pub returns-in_err-ask : goal.returns-in_err-ask
returns-in_err-ask c =
    let p = err_from_is_err_and c.from_residual.result c.from_residual.ensures.1 in
    let fails = ask_fails _ _ _ (sym c.ask.ensures ∙ c.in_err-ask.was) in
    let past = leb-false _ _ fails.0 in
    rw (p.1, p.2, fails.1) (ap taken_or_refused (rest_unfit _ _ _ c.loop-at.invariant c.loop-at-test.true (rw c.field_end-end.ensures at past)))

pub slice_bounds-body-count : goal.slice_bounds-body-count
slice_bounds-body-count c = omega (arith, c.field_end-end.ensures, field_long c.args.file.now c.loop-at.at)

pub slice_bounds-body-start : goal.slice_bounds-body-start
slice_bounds-body-start c = omega (arith, c.field_end-end.ensures, field_long c.args.file.now c.loop-at.at)

-- the body that is looked at is the field's
body_is : (c : After-body_verdict)
    → take (c.field_end-end.result - (c.loop-at.at + 3)) (drop (c.loop-at.at + 3) c.args.file.now) ≡ body_of c.args.file.now c.loop-at.at
body_is c =
    ap (λ end. take (end - (c.loop-at.at + 3)) (drop (c.loop-at.at + 3) c.args.file.now)) c.field_end-end.ensures
    ∙ body_part c.args.file.now c.loop-at.at

-- its verdict is the field's
judged : (c : After-body_verdict) → c.body_verdict.result ≡ field_verdict c.args.file.now c.loop-at.at c.loop-at.j
unfolding byte_at
judged c =
    let fits = leb-true _ _ (ask_holds _ _ _ (sym c.ask.ensures ∙ c.in_ok-ask.was)) in
    let inside : field_end c.args.file.now c.loop-at.at ≤ length c.args.file.now = rw c.field_end-end.ensures at fits in
    c.body_verdict.ensures
    ∙ rw (field_fits c.args.file.now c.loop-at.at c.loop-at.j inside, c.stream_named-first.ensures, c.stream_named-second.ensures, c.byte.ensures, c.byte-in-loop-at.ensures, body_is c)

pub returns-in_err-body_verdict : goal.returns-in_err-body_verdict
returns-in_err-body_verdict c =
    let p = err_from_is_err_and c.from_residual-in_err-body_verdict.result c.from_residual-in_err-body_verdict.ensures.1 in
    let e = sym (judged (goal.at.returns-in_err-body_verdict c).After-body_verdict) ∙ c.in_err-body_verdict.was in
    rw (p.1, p.2) (rw e at (ap taken_or_refused (rest_refused _ _ _ c.loop-at.invariant c.loop-at-test.true (ap is_refused e))))

-- a field that is not refused
passed : (c : After-body_verdict) → c.body_verdict.result ≡ Passed → field_verdict c.args.file.now c.loop-at.at c.loop-at.j ≡ Passed
passed c h = sym (judged c) ∙ h

pub add_field-requires : goal.add_field-requires
unfolding byte_at
add_field-requires c =
    (field_passed _ _ _ (passed (goal.at.add_field-requires c).After-body_verdict c.in_ok-body_verdict.was)).1.limited

pub loop-at-smaller : goal.loop-at-smaller
loop-at-smaller c = omega (arith, c.loop-at-test.true, c.field_end-end.ensures, field_long c.args.file.now c.loop-at.at)

pub loop-at-preserved : goal.loop-at-preserved
unfolding byte_at
loop-at-preserved c =
    let at = (goal.at.loop-at-preserved c).After-body_verdict in
    rw (c.add_field.ensures, body_is at)
    (rest_turns _ _ _ c.loop-at.invariant c.loop-at-test.true (passed at c.in_ok-body_verdict.was) _ c.field_end-end.ensures)

pub returns-in_err-whole_verdict : goal.returns-in_err-whole_verdict
unfolding at_end
returns-in_err-whole_verdict c =
    let p = err_from_is_err_and c.from_residual-in_err-whole_verdict.result c.from_residual-in_err-whole_verdict.ensures.1 in
    let e = sym c.whole_verdict.ensures ∙ c.in_err-whole_verdict.was in
    rw (p.1, p.2) (rw e at (ap taken_or_refused (rest_ends _ _ _ c.loop-at.invariant c.loop-at-test.false)))

pub returns : goal.returns
unfolding at_end
returns c =
    let e = sym c.whole_verdict.ensures ∙ c.in_ok-whole_verdict.was in
    rw e at (ap taken_or_refused (rest_ends _ _ _ c.loop-at.invariant c.loop-at-test.false))
