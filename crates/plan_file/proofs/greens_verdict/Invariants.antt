-- The loop: the fields that are left have the answer of all of them.
use Rattle.plan_file.specs.lemmas.Left.{Left}
use Rattle.plan_file.proofs.greens_verdict.Given as goal

abbrev pub invariant-loop-i : goal.invariant-loop-i
invariant-loop-i l = Left l.file l.from l.streams l.at l.i
