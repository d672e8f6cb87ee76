-- A place of a taken junction's streams has the rule of the stream with its number.
use Rattle.std.proofs.Common.{rules}
use Rattle.plan_rules.specs.lemmas.Places.{capacity_place}
use Rattle.plan_rules.specs.Rules.{capacity_met}
use Rattle.plan_rules.proofs.ask_capacities.Goals as goal

pub returns : goal.returns
returns c =
    c.ask_each.ensures (capacity_met c.args.j c.args.p)
    (λ i b low met. let e = capacity_place c.args.j c.requires.taken c.args.p i c.requires.loads low in search rules)
