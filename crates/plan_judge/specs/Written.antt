-- A plan whose numbers are in range is judged by its own file as by the rules; and what is known of two files that are accepted.
use Rattle.std.specs.Prelude.{◌≡◌}
use Rattle.fields.specs.Verdict.{Passed}
use Rattle.junction.specs.declared.Junction.{Junction}
use Rattle.junction_file.specs.Taken.{Taken}
use Rattle.plan_file.specs.WellFormed.{PlanRight}
use Rattle.plan_file.specs.declared.Plan.{Plan}
use Rattle.plan_rules.specs.Rules.{rules_verdict}

-- the junction and the plan of two files that are accepted
pub record AcceptedPair (j : Junction) (p : Plan) : Type 0 where
  pub taken : Taken j
  pub right : PlanRight p j.held.streams
  pub rules : rules_verdict j p ≡ Passed
