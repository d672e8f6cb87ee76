-- File days change no delay (document 01, "The junction file": changing file days changes no answer of any entry).
use Rattle.std.specs.Prelude.{ℕ, List, ◌≡◌}
use Rattle.junction_file.specs.FileDays.{OnlyFileDays}
use Rattle.junction_file.proofs.FileDays.{file_days_without_effect}
use Rattle.plan_judge.proofs.FileDays.{file_days_unjudged}
use Rattle.delays.specs.Answer.{delay_verdict, answer}

-- two junction files that differ only in file days get the same answer with every plan, of every stream
pub file_days_undelayed : (s t : List ℕ) → OnlyFileDays s t → (plan : List ℕ) (n : ℕ) → answer s plan n ≡ answer t plan n
unfolding answer delay_verdict
file_days_undelayed s t o plan n = rw (file_days_unjudged s t o plan, file_days_without_effect s t o)
