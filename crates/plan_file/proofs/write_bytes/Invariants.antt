-- The loop: the first k bytes of the buffer are those of the file.
use Rattle.std.proofs.Common.{◌≡◌}
use Rattle.laws.specs.Filled.{filled}
use Rattle.plan_file.specs.lemmas.Bytes.{plan_byte}
use Rattle.plan_file.proofs.write_bytes.Given as goal

abbrev pub invariant-loop-k : goal.invariant-loop-k
invariant-loop-k l = l.out ≡ filled (plan_byte l.fn.p) l.initial.out l.k
