-- The loop: the first i places hold the greens of the first i streams.
use Rattle.std.proofs.Common.{◌≡◌}
use Rattle.std.proofs.Math.ListN.{replicate}
use Rattle.fields.specs.Bytes.{number_at}
use Rattle.laws.specs.Filled.{filled}
use Rattle.plan_file.specs.Plans.{green_at, no_green}
use Rattle.plan_file.proofs.plan_of.Given as goal

abbrev pub invariant-loop-i : goal.invariant-loop-i
invariant-loop-i l = l.plan ≡ record { cycle = number_at l.file 3; greens = filled (green_at l.file) (replicate 16 no_green) l.i }
