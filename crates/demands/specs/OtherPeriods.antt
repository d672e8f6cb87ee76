-- Counts of other periods have no effect, over files (document 02, 2026-04): two junction files that are taken and differ in counts of other
-- periods alone get the same flows, verdicts, plans, delays, shifts and figures.
--
-- `JunctionFile` says of a file that it is taken, with so many streams, zones and counts (`taken_exactly`); `OnlyOtherPeriods` that the two
-- agree in design day, period, streams, zones and the counts of that period.
use Rattle.std.specs.Prelude.{ℕ, List, ◌≡◌}
use Rattle.std.proofs.Common.{sym, ◌∙◌, ap}
use Rattle.fields.specs.Verdict.{Passed}
use Rattle.counts.specs.declared.Count.{Count}
use Rattle.junction.specs.declared.Junction.{Junction}
use Rattle.junction_places.specs.Places.{exists, stream_at, stream_numbered}
use Rattle.junction_places.specs.Ranks.{newest_rank}
use Rattle.junction_questions.specs.Questions.{count_refers}
use Rattle.junction_file.specs.OtherPeriods.{newest_in_period}
use Rattle.junction_file.specs.Reading.{reading}
use Rattle.junction_description.proofs.Exactly.{taken_exactly}
use Rattle.junction_description.specs.File.{JunctionFile}
use Rattle.junction_description.specs.OtherPeriods.{OnlyOtherPeriods, SameButCounts}
use Rattle.junction_description.proofs.OtherPeriods.{same_but_counts}
use Rattle.junction_figures.specs.Figures.{stream_flow}
use Rattle.plan_judge.specs.Judgement.{judgement}
use Rattle.plan_file.specs.Plans.{plan_of}
use Rattle.delays.specs.Answer.{car_asked, delay_verdict, answer}
use Rattle.planner.specs.WorkingOut.{worked, buffer}
use Rattle.offsets.specs.Shifting.{shift_verdict, shifted_plan}
use Rattle.givendra.specs.Answers.{judge_answer, shift_answer, plan_answer, junction_answer, intergreen_verdict, intergreen_answer, need_verdict, need_answer, car_verdict, saturation_answer, ratio_answer, delay_answer}
use Rattle.demands.specs.lemmas.Recounted.{recounted, flow_same, entry_same, need_same, saturation_same, ratio_same, judged_same, figures_same, worked_same, buffer_same}

pub record SameAnswers (s t : List ℕ) : Type 0 where
  pub flows : (n : ℕ) → stream_flow (reading s).junction n ≡ stream_flow (reading t).junction n
  pub verdicts : (plan : List ℕ) → judgement s plan ≡ judgement t plan
  pub plans : (size : ℕ) → worked s size ≡ worked t size
  pub buffers : (lent : List ℕ) → buffer s lent ≡ buffer t lent
  pub delays : (plan : List ℕ) (n : ℕ) → answer s plan n ≡ answer t plan n
  pub shifts : (plan : List ℕ) (offset : ℕ) → shift_verdict s plan offset ≡ shift_verdict t plan offset
  pub shifted_plans : (plan : List ℕ) (offset : ℕ) → shifted_plan s plan offset ≡ shifted_plan t plan offset
  -- and from the C library
  pub c_verdicts : (plan : List ℕ) → judge_answer s plan ≡ judge_answer t plan
  pub c_delays : (plan : List ℕ) (n : ℕ) → delay_answer s plan n ≡ delay_answer t plan n
  pub c_shifts : (plan : List ℕ) (offset : ℕ) → shift_answer s plan offset ≡ shift_answer t plan offset
  pub c_plans : (size : ℕ) → plan_answer s size ≡ plan_answer t size
  pub intergreens : (from to : ℕ) → intergreen_answer s from to ≡ intergreen_answer t from to
  pub needs : (n cycle : ℕ) → need_answer s n cycle ≡ need_answer t n cycle
  pub saturations : (n : ℕ) → saturation_answer s n ≡ saturation_answer t n
  pub ratios : (n : ℕ) → ratio_answer s n ≡ ratio_answer t n
  -- all that reading tells but the number of counts
  pub design_day : (junction_answer s).design_day ≡ (junction_answer t).design_day
  pub period : (junction_answer s).period ≡ (junction_answer t).period
  pub streams : (junction_answer s).streams ≡ (junction_answer t).streams
  pub zones : (junction_answer s).zones ≡ (junction_answer t).zones

-- the one is the other with other counts
other_counts : (j k : Junction) → SameButCounts j k → k ≡ recounted j k.held.last k.held.counts k.counts
other_counts j k same = rw (same.planned.day, same.planned.period, same.many_streams, same.many_zones, same.streams, same.zones)

module _ (s t : List ℕ) (one : (reading s).verdict ≡ Passed) (two : (reading t).verdict ≡ Passed) where
  -- where the second junction is the first with other counts
  module _ (last many : ℕ) (counts : List Count) (is : (reading t).junction ≡ recounted (reading s).junction last many counts)
      (same : (n : ℕ) → newest_rank (recounted (reading s).junction last many counts) n ≡ newest_rank (reading s).junction n) where
    abbrev j : Junction
    j = (reading s).junction

    delay_same : (plan : List ℕ) (n : ℕ) → answer s plan n ≡ answer t plan n
    unfolding answer delay_verdict car_asked judgement count_refers stream_numbered stream_at
    delay_same plan n = rw (one, two, is, judged_same j last many counts same plan, figures_same j last many counts same (plan_of plan) n)

    same_answers : SameAnswers s t
    unfolding judgement worked buffer shift_verdict shifted_plan judge_answer shift_answer plan_answer delay_answer junction_answer
        intergreen_answer intergreen_verdict need_answer need_verdict saturation_answer ratio_answer car_verdict exists count_refers stream_numbered stream_at
    same_answers =
        record {
          flows = λ n. rw is (sym (flow_same j last many counts same n));
          verdicts = λ plan. rw (one, two, is, judged_same j last many counts same plan);
          plans = λ size. rw (one, two, is, worked_same j last many counts same size);
          buffers = λ lent. rw (one, two, is, buffer_same j last many counts same lent);
          delays = delay_same;
          shifts = λ plan offset. rw (one, two, is);
          shifted_plans = λ plan offset. rw (one, two, is);
          c_verdicts = λ plan. rw (one, two, is, judged_same j last many counts same plan);
          c_delays = λ plan n. rw (delay_same plan n);
          c_shifts = λ plan offset. rw (one, two, is);
          c_plans = λ size. rw (one, two, is, worked_same j last many counts same size);
          intergreens = λ from to. rw (one, two, is, entry_same j last many counts same from to);
          needs = λ n cycle. rw (one, two, is, need_same j last many counts same n cycle);
          saturations = λ n. rw (one, two, is, saturation_same j last many counts same n);
          ratios = λ n. rw (one, two, is, ratio_same j last many counts same n);
          design_day = rw (one, two, is);
          period = rw (one, two, is);
          streams = rw (one, two, is);
          zones = rw (one, two, is);
        }

pub other_periods_without_effect : (s t : List ℕ) (streams zones counts others : ℕ)
    → JunctionFile s streams zones counts → JunctionFile t streams zones others → OnlyOtherPeriods s t streams zones counts others → SameAnswers s t
other_periods_without_effect s t n z c o file file' only =
    let j = (reading s).junction in
    let k = (reading t).junction in
    let same = same_but_counts s t n z c o file file' only in
    let is = other_counts j k same in
    same_answers s t ((taken_exactly s).1 (n, z, c, file)) ((taken_exactly t).1 (n, z, o, file')) k.held.last k.held.counts k.counts is
    (λ m. ap (λ x. newest_rank x m) (sym is) ∙ sym (newest_in_period j k same.planned m))
