-- The answer of every entry over files is the answer to its questions, asked in order.
use Rattle.std.specs.Prelude.{ℕ, List, ◌≡◌}
use Rattle.std.proofs.Common.{◌∙◌}
use Rattle.std.proofs.Math.Path.{sym}
use Rattle.junction.specs.declared.Junction.{Junction}
use Rattle.junction_file.specs.Reading.{reading}
use Rattle.plan_file.specs.Plans.{plan_of}
use Rattle.plan_rules.specs.Rules.{need_met, capacity_met, zone_met, rules_verdict}
use Rattle.plan_judge.specs.Judgement.{plan_judgement, judgement}
use Rattle.demands.specs.Asked.{answer, answer_append, answer_each, answer_each_last}
use Rattle.demands.specs.Questions.{junction_asked, plan_asked, rules_asked, judge_asked}
use Rattle.demands.specs.lemmas.Answered.{read_answer, plan_answer_lem}

rules_answer : (j : Junction) (plan : List ℕ) → answer (rules_asked j plan) ≡ rules_verdict j (plan_of plan)
unfolding rules_asked rules_verdict
rules_answer j plan =
    let p = plan_of plan in
    rw (answer_each (need_met j p) 15 j.held.streams _, answer_each (capacity_met j p) 16 j.held.streams _, answer_each_last (zone_met j p) 17 j.held.zones)

pub judge_answer_lem : (junction plan : List ℕ) → judgement junction plan ≡ answer (judge_asked junction plan)
unfolding judgement plan_judgement
judge_answer_lem junction plan =
    let j = (reading junction).junction in
    sym (answer_append (junction_asked junction) _ ∙ rw (← read_answer junction, answer_append (plan_asked plan j.held.streams) (rules_asked j plan), plan_answer_lem plan j.held.streams, rules_answer j plan))
