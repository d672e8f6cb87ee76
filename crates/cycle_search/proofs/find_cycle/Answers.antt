-- The first length is at most 181.
use Rattle.phase_lengths.specs.First.{first_length_range}
use Rattle.cycle_search.specs.Planning.{first_tried}
use Rattle.cycle_search.proofs.find_cycle.Goals as goal

pub search-requires-clause-short : goal.search-requires-clause-short
unfolding first_tried
search-requires-clause-short c = rw c.first_tried-first.ensures (first_length_range _ _ _).1
