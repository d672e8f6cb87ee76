-- A plan whose numbers are in range is judged by its own file as by the rules; and what is known of two files that are accepted.
use Rattle.std.specs.Prelude.{ℕ, List, ◌≡◌}
use Rattle.fields.specs.Verdict.{both_passed, Passed}
use Rattle.junction.specs.declared.Junction.{Junction}
use Rattle.junction_file.specs.Reading.{reading}
use Rattle.junction_file.specs.Taken.{Taken}
use Rattle.junction_file.proofs.TakenFile.{taken}
use Rattle.plan_file.proofs.Inverse.{written_passes, written_cycle, written_green}
use Rattle.plan_file.specs.Plans.{plan_verdict, plan_of}
use Rattle.plan_file.specs.WellFormed.{PlanRight}
use Rattle.plan_file.proofs.WellFormed.{plan_right}
use Rattle.plan_file.specs.Writing.{plan_file}
use Rattle.plan_file.specs.declared.Plan.{Plan}
use Rattle.plan_rules.specs.Rules.{rules_verdict}
use Rattle.plan_rules.proofs.lemmas.Same.{rules_same}
use Rattle.plan_judge.specs.Judgement.{plan_judgement, judgement}
use Rattle.plan_judge.specs.Written.{AcceptedPair}

pub file_judged : (j : Junction) → Taken j → (p : Plan) → PlanRight p j.held.streams
    → plan_judgement j (plan_file p j.held.streams) ≡ rules_verdict j p
unfolding plan_judgement
file_judged j t p right =
    let streams = j.held.streams in
    let few = t.fields.few_streams in
    rw (written_passes p streams few right) (rules_same j t _ p (written_cycle p streams few right) (written_green p streams few right))

pub accepted_pair : (junction plan : List ℕ) → judgement junction plan ≡ Passed → AcceptedPair (reading junction).junction (plan_of plan)
unfolding judgement plan_judgement
accepted_pair junction plan e =
    let j = (reading junction).junction in
    let read = (both_passed (reading junction).verdict _).0 e in
    let formed = (both_passed (plan_verdict plan j.held.streams) _).0 read.1 in
    let t = taken junction read.0 in
    record { taken = t; right = plan_right plan j.held.streams formed.0 t.fields.few_streams; rules = formed.1 }
