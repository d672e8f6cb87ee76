-- A place of a taken junction's zones has the rule of the zone with its number.
use Rattle.std.proofs.Common.{rules}
use Rattle.plan_rules.specs.lemmas.Places.{conflict_ends}
use Rattle.plan_rules.proofs.lemmas.Places.{zone_met_lem}
use Rattle.plan_rules.specs.Rules.{zone_met}
use Rattle.plan_rules.proofs.ask_zones.Goals as goal

pub ask_each-requires : goal.ask_each-requires
ask_each-requires c = record {
  callable = λ i low.
      let few = c.requires.taken.fields.few_streams in
      let many = c.requires.taken.fields.few_zones in
      let e = conflict_ends c.args.j c.requires.taken c.args.p i c.requires.conflicts low in
      search rules;
}

pub returns : goal.returns
returns c =
    c.ask_each.ensures (zone_met c.args.j c.args.p)
    (λ i b low met. let e = zone_met_lem c.args.j c.requires.taken c.args.p i c.requires.conflicts low in search rules)
