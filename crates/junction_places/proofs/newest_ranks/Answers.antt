-- A count changes the rank of its own stream alone.
use Rattle.std.proofs.Common.{rules, ap}
use Rattle.junction_places.specs.Places.{count_at}
use Rattle.junction_places.specs.Ranks.{rank_at}
use Rattle.junction_places.specs.lemmas.Ranks.{ranks_begin, ranks_turn}
use Rattle.junction_places.proofs.newest_ranks.Goals as goal

pub loop-i-init : goal.loop-i-init
loop-i-init c = ranks_begin _

pub loop-i-preserved : goal.loop-i-preserved
unfolding rank_at count_at
loop-i-preserved c =
    let here = c.count_at-c.ensures in
    ranks_turn _ c.loop-i.i _ _ c.loop-i.ranks c.loop-i.invariant (ap (λ x. x.stream) here) (search rules) (simp (c.newer.ensures, here))
