-- File days change no answer of the C library (document 01, "The junction file": changing file days changes no answer of any entry).
use Rattle.std.specs.Prelude.{ℕ, List, ◌≡◌}
use Rattle.junction_file.specs.FileDays.{OnlyFileDays}
use Rattle.junction_file.proofs.FileDays.{file_days_without_effect}
use Rattle.plan_judge.proofs.FileDays.{file_days_unjudged}
use Rattle.offsets.proofs.FileDays.{file_days_unshifted}
use Rattle.offsets.specs.Shifting.{shifted_plan}
use Rattle.planner.proofs.Demand2.{file_days_unplanned}
use Rattle.delays.proofs.FileDays.{file_days_undelayed}
use Rattle.givendra.specs.Answers.{judge_answer, shift_answer, plan_answer, junction_answer, delay_answer}

-- of two junction files that differ only in file days
module _ (s t : List ℕ) (only : OnlyFileDays s t) where
  pub judge_same : (plan : List ℕ) → judge_answer s plan ≡ judge_answer t plan
  unfolding judge_answer
  judge_same plan = rw (file_days_unjudged s t only plan)

  -- nor a byte of the lent plan file
  pub shift_same : (plan : List ℕ) (offset : ℕ)
      → (shift_answer s plan offset ≡ shift_answer t plan offset) × (shifted_plan s plan offset ≡ shifted_plan t plan offset)
  unfolding shift_answer
  shift_same plan offset = let same = file_days_unshifted s t only plan offset in (rw same.0, same.1)

  pub plan_same : (size : ℕ) → plan_answer s size ≡ plan_answer t size
  unfolding plan_answer
  plan_same size = rw ((file_days_unplanned s t only).0 size)

  pub junction_same : junction_answer s ≡ junction_answer t
  unfolding junction_answer
  junction_same = rw (file_days_without_effect s t only)

  pub delay_same : (plan : List ℕ) (n : ℕ) → delay_answer s plan n ≡ delay_answer t plan n
  unfolding delay_answer
  delay_same plan n = rw (file_days_undelayed s t only plan n)
