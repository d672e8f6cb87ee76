-- File days change nothing (document 01, "The junction file": changing file days changes no answer of any entry).
use Rattle.std.specs.Prelude.{ℕ, zero, suc, List, ◌≡◌, length}
use Rattle.laws.specs.Tests.{by_test}
use Rattle.fields.specs.Bytes.{field_end}
use Rattle.fields.specs.Verdict.{is_refused}
use Rattle.junction.specs.declared.Junction.{Junction}
use Rattle.junction_places.specs.Blank.{blank}
use Rattle.junction_file.specs.Reading.{read_field, read_from, reading}
use Rattle.junction_file.specs.lemmas.Rest.{passed_field}
use Rattle.junction_file.specs.FileDays.{OnlyFileDays, Alike, end_same, field_same, alike_later}

-- and so are all the fields from a place on
from_same : (fuel : ℕ) (s t : List ℕ) (at : ℕ) (j : Junction) → Alike fuel s t at → read_from fuel s at j ≡ read_from fuel t at j
unfolding read_from
from_same zero s t at j a = rw a.long
from_same (suc fuel) s t at j a =
    let later = from_same fuel s t (field_end s at) (read_field s at j).junction in
    rw (← a.long, ← field_same fuel s t at a j, ← end_same fuel s t at a)
    (by_test (is_refused (read_field s at j).verdict)
    (λ e. rw e)
    (λ e. rw (e, later (alike_later fuel s t at a j (passed_field s at j e)))))

-- the whole answer, verdict and junction, is the same
pub file_days_without_effect : (s t : List ℕ) → OnlyFileDays s t → reading s ≡ reading t
unfolding reading
file_days_without_effect s t o =
    rw (← o.long, from_same (length s) s t 0 blank (record { long = o.long; same = λ i h none. o.same i none }))
