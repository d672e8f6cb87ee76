-- A place where the answer is no is the first; one where it is yes leaves the first to those after it.
use Rattle.std.proofs.Common.{sym, ap, ◌∙◌, ◌≡◌, not, refl}
use Rattle.laws.proofs.Search.{first_found, first_next, first_out}
use Rattle.fields.specs.Verdict.{ask_each, first_failing}
use Rattle.fields.proofs.ask_each.Goals as goal
use borrow.Author.Tests.{le-leb, lt-leb}

pub loop-i-init : goal.loop-i-init
unfolding first_failing
loop-i-init g c = λ holds says. refl

pub returns-then-not-answer : goal.returns-then-not-answer
unfolding ask_each
returns-then-not-answer g c = λ holds says.
    let fails = sym (says _ _ c.loop-i-test.true c.answer.ensures) ∙ c.if-not-answer.true in
    let first : first_failing holds c.args.n ≡ c.loop-i.i =
    sym (c.loop-i.invariant holds says) ∙ first_found _ _ _ c.loop-i-test.true (ap not fails) in
    rw (first, lt-leb _ _ c.loop-i-test.true)

pub loop-i-preserved : goal.loop-i-preserved
loop-i-preserved g c = λ holds says.
    let passes = sym (says _ _ c.loop-i-test.true c.answer.ensures) ∙ c.if-not-answer.false in
    sym (first_next _ _ _ c.loop-i-test.true (ap not passes)) ∙ c.loop-i.invariant holds says

pub returns : goal.returns
unfolding ask_each
returns g c = λ holds says.
    let first : first_failing holds c.args.n ≡ c.loop-i.i =
    sym (c.loop-i.invariant holds says) ∙ first_out _ _ _ c.loop-i-test.false in
    rw (first, le-leb _ _ c.loop-i-test.false)
