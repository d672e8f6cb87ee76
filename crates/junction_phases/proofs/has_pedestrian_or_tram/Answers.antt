-- Whether a stream passes is whether the largest of its tests is 1.
use Rattle.std.proofs.Common.{◌≤◌, ◌∙◌, length, arith}
use Rattle.laws.proofs.Largest.{any_largest}
use Rattle.junction_places.specs.Blank.{no_stream}
use Rattle.streams.specs.Kinds.{is_pedestrian_or_tram}
use Rattle.junction_phases.specs.lemmas.Tabled.{pedestrian_or_tram_tabled}
use Rattle.junction_phases.proofs.has_pedestrian_or_tram.Goals as goal

pub returns : goal.returns
returns c =
    let j = c.args.j.now in
    let few : j.held.streams ≤ length j.streams = omega (arith, c.requires.fields.few_streams, c.requires.fields.stream_places) in
    c.some_pedestrian_or_tram.ensures
    ∙ any_largest (λ s. is_pedestrian_or_tram s.kind) j.streams no_stream j.held.streams few ∙ pedestrian_or_tram_tabled j c.requires
