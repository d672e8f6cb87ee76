-- The judge's answer to a junction file and a plan file: the junction's questions first, then the plan's, then the rules.
use Rattle.std.specs.Prelude.{ℕ, List}
use Rattle.fields.specs.Verdict.{first_refusal, Verdict}
use Rattle.junction.specs.declared.Junction.{Junction}
use Rattle.junction_file.specs.Reading.{reading}
use Rattle.plan_file.specs.Plans.{plan_verdict, plan_of}
use Rattle.plan_rules.specs.Rules.{rules_verdict}

unfoldable pub plan_judgement : Junction → List ℕ → Verdict
plan_judgement j plan = first_refusal (plan_verdict plan j.held.streams) (rules_verdict j (plan_of plan))

unfoldable pub judgement : List ℕ → List ℕ → Verdict
judgement junction plan = first_refusal (reading junction).verdict (plan_judgement (reading junction).junction plan)
