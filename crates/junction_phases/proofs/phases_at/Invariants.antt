-- The invariant is that the first i places hold the first i phases by the largest figures.
use Rattle.std.proofs.Common.{get_or, replicate, ◌≡◌}
use Rattle.laws.specs.Filled.{filled}
use Rattle.phase_lengths.specs.Phases.{no_phase}
use Rattle.junction_phases.specs.lemmas.Made.{phase_with}
use Rattle.junction_phases.proofs.phases_at.Given as goal

abbrev pub invariant-loop-i : goal.invariant-loop-i
invariant-loop-i l =
    (l.q ≡ record { count = l.count; of = filled (λ k. phase_with (get_or l.ratios k 0) (get_or l.entries k 0) (get_or l.needs k 0)) (replicate 6 no_phase) l.i })
