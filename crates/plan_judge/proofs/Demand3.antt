-- The customer's third demand but its last sentence, which speaks of plans that are worked out (demands/specs/ThirdDemand.antt has the whole).
--
-- For any junction file that is taken and any plan file that is well-formed for it, whoever made it, the judge accepts the plan exactly when
-- it is acceptable, as Meaning.antt says in the customer's words: each stream has its needed green, each car flow its capacity, and for every
-- number of cycles, every zone and every pair of greens, one of each of its streams, one ends no later than the other begins and the last
-- participant of the earlier leaves no later than the first of the later reaches.
--
-- `judgement` is what `plan_judge::judge` is proved to answer. A junction file is taken where `reading` refuses nothing (junction_file/specs/Taken.antt
-- says what it then is), a plan file well-formed where `planVerdict` refuses nothing (plan_file/specs/WellFormed.antt), and a plan accepted where
-- `judgement` refuses nothing.
use Rattle.std.specs.Prelude.{ℕ, List, ◌↔◌, ◌≡◌}
use Rattle.fields.specs.Verdict.{Passed}
use Rattle.junction_file.specs.Reading.{reading}
use Rattle.plan_file.specs.Plans.{plan_verdict, plan_of}
use Rattle.plan_judge.proofs.lemmas.Accepted.{accepted_exactly, accepted_whole}
use Rattle.plan_judge.specs.Judgement.{judgement}
use Rattle.plan_judge.specs.Meaning.{Acceptable}

pub demand3 : (junction plan : List ℕ)
    → (reading junction).verdict ≡ Passed
    → plan_verdict plan (reading junction).junction.held.streams ≡ Passed
    → (judgement junction plan ≡ Passed) ↔ Acceptable (reading junction).junction (plan_of plan)
demand3 = accepted_exactly

-- The same without conditions: nothing is accepted but an acceptable plan, well-formed, for a junction that is taken.
pub only_acceptable : (junction plan : List ℕ)
    → (judgement junction plan ≡ Passed)
    ↔ (((reading junction).verdict ≡ Passed) × (plan_verdict plan (reading junction).junction.held.streams ≡ Passed)
    × Acceptable (reading junction).junction (plan_of plan))
only_acceptable = accepted_whole
