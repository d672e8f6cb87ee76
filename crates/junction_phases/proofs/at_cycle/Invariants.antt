-- The invariant is that the first i places hold the first i phases with the needs worked out.
use Rattle.std.proofs.Common.{get_or, replicate, ◌≡◌}
use Rattle.laws.specs.Filled.{filled}
use Rattle.phase_lengths.specs.Phases.{no_phase, phase}
use Rattle.junction_phases.specs.JunctionPhases.{with_need}
use Rattle.junction_phases.proofs.at_cycle.Given as goal

abbrev pub invariant-loop-i : goal.invariant-loop-i
invariant-loop-i l =
    (l.now ≡ record { count = l.q.count; of = filled (λ k. with_need (phase l.q k) (get_or l.needs k 0)) (replicate 6 no_phase) l.i })
