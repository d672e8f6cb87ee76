-- File days change neither the answer nor a byte (document 01, "The junction file": changing file days changes no answer of any entry).
use Rattle.std.specs.Prelude.{ℕ, List, ◌≡◌}
use Rattle.junction_file.specs.FileDays.{OnlyFileDays}
use Rattle.junction_file.proofs.FileDays.{file_days_without_effect}
use Rattle.offsets.specs.Shifting.{shift_verdict, shifted_plan}

-- two junction files that differ only in file days
pub file_days_unshifted : (s t : List ℕ) → OnlyFileDays s t → (plan : List ℕ) (offset : ℕ)
    → (shift_verdict s plan offset ≡ shift_verdict t plan offset) × (shifted_plan s plan offset ≡ shifted_plan t plan offset)
unfolding shifted_plan shift_verdict
file_days_unshifted s t only plan offset = let same = file_days_without_effect s t only in (rw same, rw same)
