-- The invariant is that the first i places hold the greens of the first i streams.
use Rattle.std.proofs.Common.{replicate, ◌+◌, ◌≡◌}
use Rattle.laws.specs.Filled.{filled}
use Rattle.junction_places.specs.Places.{stream_numbered}
use Rattle.phase_greens.specs.Greens.{sharing}
use Rattle.junction_phases.specs.JunctionPhases.{phases_at}
use Rattle.plan_file.specs.Plans.{no_green}
use Rattle.cycle_search.specs.Planning.{phase_green}
use Rattle.cycle_search.proofs.plan_at.Given as goal

abbrev pub invariant-loop-i : goal.invariant-loop-i
invariant-loop-i l =
    l.p ≡ record {
      cycle = l.t;
      greens = filled (λ k. phase_green (phases_at l.j l.t) (sharing (phases_at l.j l.t) l.t) (stream_numbered l.j (k + 1)).phase) (replicate 16 no_green) l.i;
    }
