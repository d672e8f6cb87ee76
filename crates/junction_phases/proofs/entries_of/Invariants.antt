-- The invariant is that each phase has its largest entry toward the next at the zones passed.
use Rattle.limits.specs.Limits.{most_phases}
use Rattle.laws.specs.ByNumber.{ByNumber}
use Rattle.junction_phases.specs.lemmas.Tabled.{entries_by}
use Rattle.junction_phases.proofs.entries_of.Given as goal

abbrev pub invariant-loop-i : goal.invariant-loop-i
invariant-loop-i l = ByNumber most_phases (entries_by l.streams l.conflicts l.count l.i) l.entries
