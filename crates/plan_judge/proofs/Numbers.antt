-- The numbers of refusals: the judge refuses with a number of 1 or more, and number 0 says that the plan is accepted.
use Rattle.std.specs.Prelude.{ℕ, List, ◌↔◌, ◌≡◌}
use Rattle.std.proofs.Common.{arith}
use Rattle.fields.specs.lemmas.Numbers.{Numbered, first_numbered, each_numbered, passed_number}
use Rattle.fields.specs.Verdict.{number_of, Passed}
use Rattle.junction_file.proofs.Numbers.{reading_numbered}
use Rattle.junction_file.specs.Reading.{reading}
use Rattle.plan_file.proofs.Numbers.{plan_numbered}
use Rattle.plan_file.specs.Plans.{plan_verdict, plan_of}
use Rattle.plan_rules.specs.Rules.{need_met, capacity_met, zone_met, rules_verdict}
use Rattle.plan_judge.specs.Judgement.{plan_judgement, judgement}

pub judgement_numbered : (junction plan : List ℕ) → Numbered (judgement junction plan)
unfolding judgement plan_judgement rules_verdict
judgement_numbered junction plan =
    let j = (reading junction).junction in
    let p = plan_of plan in
    first_numbered (reading junction).verdict _ (reading_numbered junction)
    (first_numbered (plan_verdict plan j.held.streams) _ (plan_numbered plan j.held.streams)
    (each_numbered (need_met j p) 15 j.held.streams _ (omega arith)
    (each_numbered (capacity_met j p) 16 j.held.streams _ (omega arith)
    (each_numbered (zone_met j p) 17 j.held.zones Passed (omega arith) tt))))

-- the answer's number is 0 exactly where the plan is accepted
pub number_accepted : (junction plan : List ℕ) → (number_of (judgement junction plan) ≡ 0) ↔ (judgement junction plan ≡ Passed)
number_accepted junction plan = passed_number (judgement junction plan) (judgement_numbered junction plan)
