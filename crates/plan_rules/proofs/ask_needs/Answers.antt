-- A place of a taken junction's streams has the rule of the stream with its number.
use Rattle.std.proofs.Common.{rules}
use Rattle.plan_rules.specs.lemmas.Places.{need_place}
use Rattle.plan_rules.specs.Rules.{need_met}
use Rattle.plan_rules.proofs.ask_needs.Goals as goal

pub returns : goal.returns
returns c = c.ask_each.ensures (need_met c.args.j c.args.p) (λ i b low met. let e = need_place c.args.j c.requires c.args.p i low in search rules)
