-- The figure is the need of the stream at a place.
use Rattle.std.proofs.Common.{rules, get_or}
use Rattle.flows.specs.Needs.{need_at}
use Rattle.junction_places.specs.Blank.{no_stream}
use Rattle.junction_phases.proofs.needs_at.Goals as goal

pub returns : goal.returns
returns c = c.largest_by_phase.ensures (λ i. need_at c.args.t (get_or c.args.streams.now i no_stream)) (λ i x low post. search rules)
