-- File days change no judgement (document 01, "The junction file": changing file days changes no answer of any entry).
use Rattle.std.specs.Prelude.{ℕ, List, ◌≡◌}
use Rattle.junction_file.specs.FileDays.{OnlyFileDays}
use Rattle.junction_file.proofs.FileDays.{file_days_without_effect}
use Rattle.plan_judge.specs.Judgement.{judgement}

-- two junction files that differ only in file days get the same judgement with every plan
pub file_days_unjudged : (s t : List ℕ) → OnlyFileDays s t → (plan : List ℕ) → judgement s plan ≡ judgement t plan
unfolding judgement
file_days_unjudged s t o plan = rw (file_days_without_effect s t o)
