-- The customer's first demand, whole: the answer to every junction file, every plan file and every lent buffer, however malformed or short, is
-- a result or one numbered refusal with its place, and a refusal alters no lent byte.
--
-- `reading`, `judgement`, `worked` and `buffer`, `shift_verdict` and `shifted_plan` are what `junction_file::read`, `plan_judge::judge`,
-- `planner::work_out` and `offsets::shift` are proved to answer and to leave in what they are lent, with no `requires`, and to end; `delay_verdict` is
-- the verdict in the answer of `delays::delay` (delays/specs/Answer.antt), `portable_verdict` that of `roadworks::work_out`; `judge_answer`, `plan_answer`
-- and the like what the C library's functions are. Questions.antt has the questions in document 01's order, Asked.antt what it is that a verdict
-- `Answers` them, Places.antt the numbers that the paper lists for each entry, with their places.
use Rattle.std.specs.Prelude.{length}
use Rattle.std.proofs.Common.{ap}
use Rattle.fields.specs.Verdict.{is_refused}
use Rattle.offsets.proofs.Refused.{shift_unaltered}
use Rattle.demands.specs.lemmas.Answered.{read_answer, work_answer}
use Rattle.demands.proofs.lemmas.Answered.{judge_answer_lem}
use Rattle.demands.specs.lemmas.Entries.{answers, kept, c_shift_kept, c_kept}
use Rattle.demands.proofs.lemmas.Entries.{c_read_holds, c_judge_holds, delay_holds, c_shift_holds, c_plan_holds}
use Rattle.demands.specs.lemmas.Entries.{newest_holds, c_portable_holds}
use Rattle.demands.proofs.lemmas.Entries.{intergreen_holds, need_holds, saturation_holds, ratio_holds}
use Rattle.demands.specs.lemmas.Library.{portable_answer_lem, portable_told}
use Rattle.demands.proofs.lemmas.Library.{delay_answer_lem, delay_told, shift_answer_lem, shift_told}
use Rattle.demands.proofs.lemmas.Rules.{need_refused, capacity_refused, zone_refused, offset_refused}
use Rattle.demands.proofs.lemmas.Told.{junction_told, judge_told, work_told}
use Rattle.demands.specs.FirstDemand.{FirstDemand}

pub first_demand : FirstDemand
first_demand =
    record {
      read = λ junction. answers _ _ _ (read_answer junction) (junction_told junction);
      judged = λ junction plan. answers _ _ _ (judge_answer_lem junction plan) (judge_told junction plan);
      delayed = λ junction plan n. answers _ _ _ (delay_answer_lem junction plan n) (delay_told junction plan n);
      shifted = λ junction plan offset. answers _ _ _ (shift_answer_lem junction plan offset) (shift_told junction plan offset);
      planned = λ junction lent. answers _ _ _ (work_answer junction (length lent)) (work_told junction (length lent));
      refused_15 = need_refused;
      refused_16 = capacity_refused;
      refused_17 = zone_refused;
      refused_24 = offset_refused;
      unaltered = λ junction lent number place e. kept junction lent (ap is_refused e);
      unaltered_plan = λ junction plan offset number place e. shift_unaltered junction plan offset (ap is_refused e);
      c_read = c_read_holds;
      c_judged = c_judge_holds;
      c_delayed = delay_holds;
      c_shifted = c_shift_holds;
      c_planned = λ junction lent. c_plan_holds junction (length lent);
      c_unaltered = c_kept;
      c_unaltered_plan = c_shift_kept;
      intergreen = intergreen_holds;
      need = need_holds;
      saturation = saturation_holds;
      ratio = ratio_holds;
      signalled = λ stretch speed a b. answers _ _ _ (portable_answer_lem stretch speed a b) (portable_told stretch speed a b);
      c_signalled = c_portable_holds;
      newest = newest_holds;
    }
