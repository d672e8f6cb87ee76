-- The invariant is that each pair has the largest entry of the zones passed.
use Rattle.std.proofs.Common.{le_antisymm, subst}
use Rattle.junction_tables.specs.Pairs.{ByPair}
use Rattle.junction_tables.specs.lemmas.Pairs.{entries_over}
use Rattle.junction_tables.proofs.lemmas.Pairs.{entries_none, entries_whole, zone_raises}
use Rattle.junction_tables.proofs.pair_entries.Goals as goal

pub loop-i-init : goal.loop-i-init
loop-i-init c = entries_none c.args.j

pub loop-i-preserved : goal.loop-i-preserved
loop-i-preserved c =
    let turn = c in
    let l = turn.loop-i in
    let s = turn in
    let atob = c.entry-atob.ensures in
    let btoa = c.entry-btoa.ensures in
    rw (c.raise-in-loop-i.ensures, c.raise.ensures, atob, btoa)
    (zone_raises s.args.j s.requires l.i turn.loop-i-test.true l.entries l.invariant)

pub returns : goal.returns
returns c =
    let l = c.loop-i in
    let j = c.args.j in
    entries_whole j l.entries (subst (λ k. ByPair (entries_over j k) l.entries) (le_antisymm c.loop-i.auto.i-end c.loop-i-test.false) l.invariant)
