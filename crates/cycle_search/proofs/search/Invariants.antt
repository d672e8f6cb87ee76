-- Before each length what is left finds what the whole finds; within a length each inner loop has shown its rule for the numbers passed.
use Rattle.std.proofs.Common.{◌-◌, ◌≡◌}
use Rattle.limits.specs.Limits.{no_cycle}
use Rattle.plan_rules.specs.Rules.{need_met, capacity_met, zone_met}
use Rattle.cycle_search.specs.lemmas.Search.{Given, Rest, Trying, Met}
use Rattle.cycle_search.proofs.search.Given as goal

abbrev pub invariant-loop-n : goal.invariant-loop-n
invariant-loop-n l =
    (l.t ≡ l.initial.t) × Given l.j l.tables.loads l.tables.conflicts l.fixed × Trying l.j l.first l.t l.tried l.p × Met (need_met l.j l.p) l.n

abbrev pub invariant-loop-c : goal.invariant-loop-c
invariant-loop-c l =
    (l.t ≡ l.initial.t) × Given l.j l.tables.loads l.tables.conflicts l.fixed × Trying l.j l.first l.t l.tried l.p × Met (need_met l.j l.p) l.j.held.streams
    × Met (capacity_met l.j l.p) l.c

abbrev pub invariant-loop-z : goal.invariant-loop-z
invariant-loop-z l =
    (l.t ≡ l.initial.t) × Given l.j l.tables.loads l.tables.conflicts l.fixed × Trying l.j l.first l.t l.tried l.p × Met (need_met l.j l.p) l.j.held.streams
    × Met (capacity_met l.j l.p) l.j.held.streams × Met (zone_met l.j l.p) l.z

abbrev pub invariant-search : goal.invariant-search
invariant-search l = Given l.j l.tables.loads l.tables.conflicts l.fixed × Rest l.j l.first l.t l.tried

abbrev pub decreases-search : goal.decreases-search
decreases-search l = no_cycle - l.t
