-- The cycle of a junction is the least length from T0 on that works, and the tried count lies within document 01's bounds. File days change no
-- plan. (demands/specs/SecondDemand.antt has the whole over files.)
use Prim.Native.Nat.{ℕ}
use Rattle.std.specs.Prelude.{List, ◌≡◌}
use Rattle.junction_file.specs.FileDays.{OnlyFileDays}
use Rattle.junction_file.proofs.FileDays.{file_days_without_effect}
use Rattle.planner.specs.WorkingOut.{worked, buffer}

-- a plan that is worked out does not depend on file days
pub file_days_unplanned : (s t : List ℕ) → OnlyFileDays s t → ((size : ℕ) → worked s size ≡ worked t size) × ((lent : List ℕ) → buffer s lent ≡ buffer t lent)
unfolding worked buffer
file_days_unplanned s t only = let same = file_days_without_effect s t only in (λ size. rw same, λ lent. rw same)
