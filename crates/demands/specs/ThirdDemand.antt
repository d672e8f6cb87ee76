-- The customer's third demand, whole: a single claim about junction files, plan files, their zones and every number of cycles.
--
-- `judgement` is what `plan_judge::judge` is proved to answer, `worked` and `buffer` what `planner::work_out` is proved to answer and to
-- leave in the lent buffer. `Acceptable` says in the customer's words what holds of an accepted plan (plan_judge/specs/Meaning.antt), with exact
-- times as numbers, roots included.
use Rattle.std.specs.Prelude.{ℕ, List, ◌↔◌, ◌≡◌, length, take}
use Rattle.laws.specs.Ranges.{Between}
use Rattle.fields.specs.Verdict.{Passed}
use Rattle.exact_times.specs.Leaves.{LeavesInTime, LeavesByLetter}
use Rattle.exact_times.proofs.Streams.{letter_same}
use Rattle.junction_places.specs.Places.{stream_numbered}
use Rattle.junction_file.specs.Reading.{reading}
use Rattle.junction_file.proofs.TakenFile.{taken}
use Rattle.junction_figures.specs.Exact.{stream_moves}
use Rattle.plan_file.specs.Plans.{plan_verdict, plan_of}
use Rattle.plan_file.specs.Writing.{plan_size}
use Rattle.plan_judge.proofs.Demand3.{demand3}
use Rattle.plan_judge.specs.Judgement.{judgement}
use Rattle.plan_judge.specs.Meaning.{Acceptable}
use Rattle.planner.proofs.Planned.{planned_accepted, planned_formed}
use Rattle.planner.specs.WorkingOut.{worked, buffer}

pub record ThirdDemand : Type 0 where
  -- for any junction file that is taken and any well-formed plan for it, whoever made it, the plan is accepted exactly when the three things
  -- hold
  pub accepted : (junction plan : List ℕ)
      → (reading junction).verdict ≡ Passed
      → plan_verdict plan (reading junction).junction.held.streams ≡ Passed
      → (judgement junction plan ≡ Passed) ↔ Acceptable (reading junction).junction (plan_of plan)
  -- every plan that the program works out, the file that it writes, is well-formed and accepted
  pub planned : (junction lent : List ℕ) → (worked junction (length lent)).verdict ≡ Passed
      → (plan_verdict (take (plan_size (reading junction).junction.held.streams) (buffer junction lent)) (reading junction).junction.held.streams ≡ Passed)
      × (judgement junction (take (plan_size (reading junction).junction.held.streams) (buffer junction lent)) ≡ Passed)
  -- the comparison of numbers, by which `Acceptable` says that a participant leaves in time, is the one of document 01's letter, over whole
  -- numbers with roots by squares: from any stream of the junction to any other, whatever their distances at a zone
  pub letter : (junction : List ℕ) → (reading junction).verdict ≡ Passed
      → (earlier later : ℕ) → Between 1 (reading junction).junction.held.streams earlier → (clearing reach seconds : ℕ)
      → let stream = stream_numbered (reading junction).junction in
      LeavesByLetter (stream earlier) (stream later) clearing reach seconds ↔ LeavesInTime (stream earlier) (stream later) clearing reach seconds

pub third_demand : ThirdDemand
third_demand =
    record {
      accepted = demand3;
      planned = λ junction lent e. (planned_formed junction lent e, planned_accepted junction lent e);
      letter = λ junction is earlier later there clearing reach seconds.
          letter_same _ _ clearing reach seconds (stream_moves (reading junction).junction (taken junction is) earlier there);
    }
