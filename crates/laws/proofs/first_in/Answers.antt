-- A number that passes is the first; one that fails leaves the first to those after it.
use Rattle.std.proofs.Common.{arith, sym, ◌∙◌, ◌≡◌}
use Rattle.laws.proofs.Search.{first_found, first_next, first_out}
use Rattle.laws.proofs.first_in.Goals as goal

pub returns-then-test-clause-first : goal.returns-then-test-clause-first
returns-then-test-clause-first g c = λ passes says.
    sym (first_found passes _ _ c.loop-i-test.true (sym (says _ _ c.loop-i.auto.i c.loop-i-test.true c.test.ensures) ∙ c.if-test.true))
    ∙ c.loop-i.invariant passes says

pub loop-i-preserved : goal.loop-i-preserved
loop-i-preserved g c = λ passes says.
    sym (first_next passes _ _ c.loop-i-test.true (sym (says _ _ c.loop-i.auto.i c.loop-i-test.true c.test.ensures) ∙ c.if-test.false))
    ∙ c.loop-i.invariant passes says

pub returns-clause-first : goal.returns-clause-first
returns-clause-first g c = λ passes says.
    let over : c.args.range.end ≡ c.loop-i.i = omega arith in
    over ∙ sym (first_out passes _ _ c.loop-i-test.false) ∙ c.loop-i.invariant passes says
