-- The invariant is that each number has the largest rank of the counts passed.
use Rattle.junction_places.specs.lemmas.Ranks.{RanksOf}
use Rattle.junction_places.proofs.newest_ranks.Given as goal

abbrev pub invariant-loop-i : goal.invariant-loop-i
invariant-loop-i l = RanksOf l.j l.i l.ranks
