-- The invariant is that the first length that works from here on is the first of all.
use Rattle.std.proofs.Common.{arith, sym, ◌∙◌, ◌≡◌}
use Rattle.laws.proofs.Search.{first_found, first_next, first_out}
use Rattle.roadworks.proofs.search.Goals as goal

pub returns-then-works_at : goal.returns-then-works_at
returns-then-works_at c =
    record {
      some = (c.loop-t-test.true, sym (first_found _ _ _ c.loop-t-test.true (sym c.works_at.ensures ∙ c.if-works_at.true)) ∙ c.loop-t.invariant);
      none = tt;
    }

pub loop-t-preserved : goal.loop-t-preserved
loop-t-preserved c = sym (first_next _ _ _ c.loop-t-test.true (sym c.works_at.ensures ∙ c.if-works_at.false)) ∙ c.loop-t.invariant

pub returns : goal.returns
returns c =
    let last = sym (first_out _ _ _ c.loop-t-test.false) ∙ c.loop-t.invariant in
    record { some = tt; none = rw (← last) c.loop-t-test.false }
