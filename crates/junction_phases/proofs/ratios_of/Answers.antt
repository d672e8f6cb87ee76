-- The figure is the flow ratio of the stream at a place.
use Rattle.std.proofs.Common.{rules}
use Rattle.junction_phases.proofs.ratios_of.Goals as goal

pub returns : goal.returns
returns c = c.largest_by_phase.ensures _ (λ i x low post. search rules)
