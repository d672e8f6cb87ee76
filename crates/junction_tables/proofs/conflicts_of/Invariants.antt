-- The invariant is that the first i places hold the conflicts of the first i zones.
use Rattle.std.proofs.Common.{replicate, ◌≡◌}
use Rattle.laws.specs.Filled.{filled}
use Rattle.limits.specs.Limits.{most_zones}
use Rattle.junction_places.specs.Places.{zone_at}
use Rattle.junction_tables.specs.Tables.{no_conflict, conflict_of}
use Rattle.junction_tables.proofs.conflicts_of.Given as goal

abbrev pub invariant-loop-i : goal.invariant-loop-i
invariant-loop-i l =
    (l.all ≡ record { of = filled (λ k. conflict_of l.j (zone_at l.j k)) (replicate most_zones no_conflict) l.i })
