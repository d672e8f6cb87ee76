-- The loop: both totals so far are the sums over the places passed.
use Rattle.std.proofs.Common.{◌≡◌, ◌*◌, ◌≤◌}
use Rattle.laws.specs.Sums.{sum_of}
use Rattle.phase_lengths.specs.Phases.{phase}
use Rattle.phase_lengths.specs.Phases.{lost as lost_of}
use Rattle.phase_lengths.proofs.sums_of.Given as goal

abbrev pub invariant-loop-p : goal.invariant-loop-p
invariant-loop-p l =
    (l.ratios ≤ l.p-index * 4294967296) × (l.time ≤ l.p-index * 8589934592)
    × (l.ratios ≡ sum_of (λ k. (phase l.fn.q k).ratio) l.p-index) × (l.time ≡ sum_of (λ k. lost_of (phase l.fn.q k)) l.p-index)
