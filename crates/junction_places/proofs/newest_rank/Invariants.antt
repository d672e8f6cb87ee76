-- The invariant is that the best rank so far is the largest of the counts passed.
use Rattle.std.proofs.Common.{◌≡◌}
use Rattle.laws.specs.Largest.{largest_of}
use Rattle.junction_places.specs.Ranks.{rank_at}
use Rattle.junction_places.proofs.newest_rank.Given as goal

abbrev pub invariant-loop-i : goal.invariant-loop-i
invariant-loop-i l = (l.best ≡ largest_of (rank_at l.j l.n) l.i)
