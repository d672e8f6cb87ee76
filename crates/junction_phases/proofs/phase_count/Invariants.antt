-- The invariant is that the last phase so far is the largest number of those passed.
use Rattle.std.proofs.Common.{get_or, ◌≡◌}
use Rattle.laws.specs.Largest.{largest_of}
use Rattle.junction_places.specs.Blank.{no_stream}
use Rattle.junction_phases.proofs.phase_count.Given as goal

abbrev pub invariant-loop-s : goal.invariant-loop-s
invariant-loop-s l = l.last ≡ largest_of (λ k. (get_or l.fn.streams k no_stream).phase) l.s-index
