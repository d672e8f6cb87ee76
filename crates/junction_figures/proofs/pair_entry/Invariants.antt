-- The invariant is that the most so far is the largest of the zones passed.
use Rattle.std.proofs.Common.{◌≡◌}
use Rattle.laws.specs.Largest.{largest_of}
use Rattle.junction_places.specs.Places.{zone_at}
use Rattle.junction_figures.specs.Figures.{zone_entry}
use Rattle.junction_figures.proofs.pair_entry.Given as goal

abbrev pub invariant-loop-i : goal.invariant-loop-i
invariant-loop-i l =
    (l.most ≡ largest_of (λ k. zone_entry l.j l.n l.m (zone_at l.j k)) l.i)
