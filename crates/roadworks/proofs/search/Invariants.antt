-- The invariant is that the first length that works from here on is the first of all.
use Rattle.std.proofs.Common.{◌≡◌}
use Rattle.laws.specs.Search.{first_below}
use Rattle.limits.specs.Limits.{no_cycle}
use Rattle.roadworks.specs.Roadworks.{works, cycle_from}
use Rattle.roadworks.proofs.search.Given as goal

abbrev pub invariant-loop-t : goal.invariant-loop-t
invariant-loop-t l = first_below (works l.asked) no_cycle l.t ≡ cycle_from l.asked l.first
