-- The invariant is that each pair has the largest entry of the zones passed.
use Rattle.junction_tables.specs.Pairs.{ByPair}
use Rattle.junction_tables.specs.lemmas.Pairs.{entries_over}
use Rattle.junction_tables.proofs.pair_entries.Given as goal

abbrev pub invariant-loop-i : goal.invariant-loop-i
invariant-loop-i l = ByPair (entries_over l.j l.i) l.entries
