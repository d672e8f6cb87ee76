-- The rank kept is the highest of the records passed.
use Rattle.std.proofs.Common.{◌≡◌}
use Rattle.laws.specs.Largest.{largest_of}
use Rattle.givendra.specs.LentList.{wanted, record_at, record_rank}
use Rattle.givendra.proofs.givendra_newest_count.Given as goal

abbrev pub invariant-loop-place : goal.invariant-loop-place
invariant-loop-place l = l.best ≡ largest_of (λ i. record_rank (wanted l.fn.stream l.fn.design_day l.fn.period) (record_at l.list i)) l.place
