-- The loop: the total so far is the sum over the places passed.
use Rattle.std.proofs.Common.{◌≡◌, ◌*◌, ◌≤◌}
use Rattle.laws.specs.Sums.{sum_of}
use Rattle.phase_lengths.specs.Phases.{phase}
use Rattle.phase_greens.specs.Greens.{share as share_of}
use Rattle.phase_greens.proofs.shares.Given as goal

abbrev pub invariant-loop-p : goal.invariant-loop-p
invariant-loop-p l =
    (l.total ≤ l.p-index * 281474976710656) × (l.total ≡ sum_of (λ k. share_of (phase l.fn.q k).ratio l.seconds l.ratios) l.p-index)
