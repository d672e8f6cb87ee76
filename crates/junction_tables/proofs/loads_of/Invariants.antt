-- The invariant is that the first i places hold the loads of the first i streams.
use Rattle.std.proofs.Common.{replicate, ◌+◌, ◌≡◌}
use Rattle.laws.specs.Filled.{filled}
use Rattle.junction_tables.specs.Tables.{no_load, load_of}
use Rattle.junction_tables.proofs.loads_of.Given as goal

abbrev pub invariant-loop-i : goal.invariant-loop-i
invariant-loop-i l =
    (l.all ≡ record { of = filled (λ k. load_of l.j (k + 1)) (replicate 16 no_load) l.i })
