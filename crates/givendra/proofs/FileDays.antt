-- File days change no answer of the C library (document 01, "The junction file": changing file days changes no answer of any entry).
use Rattle.std.specs.Prelude.{ℕ, List, ◌≡◌}
use Rattle.junction_file.specs.FileDays.{OnlyFileDays}
use Rattle.junction_file.proofs.FileDays.{file_days_without_effect}
use Rattle.givendra.specs.Answers.{intergreen_answer, need_answer, saturation_answer, ratio_answer}

-- of two junction files that differ only in file days
module _ (s t : List ℕ) (only : OnlyFileDays s t) where
  pub intergreen_same : (from to : ℕ) → intergreen_answer s from to ≡ intergreen_answer t from to
  unfolding intergreen_answer
  intergreen_same from to = rw (file_days_without_effect s t only)

  pub need_same : (n cycle : ℕ) → need_answer s n cycle ≡ need_answer t n cycle
  unfolding need_answer
  need_same n cycle = rw (file_days_without_effect s t only)

  pub saturation_same : (n : ℕ) → saturation_answer s n ≡ saturation_answer t n
  unfolding saturation_answer
  saturation_same n = rw (file_days_without_effect s t only)

  pub ratio_same : (n : ℕ) → ratio_answer s n ≡ ratio_answer t n
  unfolding ratio_answer
  ratio_same n = rw (file_days_without_effect s t only)
