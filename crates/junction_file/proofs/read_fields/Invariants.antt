-- The invariant is that what is left of the file has the answer of the whole.
use Rattle.std.proofs.Common.{length, ◌-◌}
use Rattle.junction_file.specs.lemmas.Rest.{Rest}
use Rattle.junction_file.proofs.read_fields.Given as goal

abbrev pub invariant-loop-at : goal.invariant-loop-at
invariant-loop-at l = Rest l.file l.at l.j

abbrev pub decreases-loop-at : goal.decreases-loop-at
decreases-loop-at l = length l.file - l.at
