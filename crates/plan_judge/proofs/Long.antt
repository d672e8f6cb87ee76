-- What the program `judge` reads of the two files is enough: the bytes after it change no answer.
use Rattle.std.specs.Prelude.{ℕ, ◌≤◌, ◌<◌, List, ◌≡◌, leb, length, take}
use Rattle.std.proofs.Common.{arith, length-take-le, take_all, leb-true, leb-false}
use Rattle.laws.specs.Tests.{by_test}
use Rattle.limits.specs.Limits.{most_bytes, most_streams}
use Rattle.fields.specs.Bytes.{byte_at}
use Rattle.fields.specs.Verdict.{later_same}
use Rattle.junction.specs.declared.Junction.{Junction}
use Rattle.junction_file.specs.Reading.{reading}
use Rattle.junction_file.proofs.TakenFile.{taken}
use Rattle.plan_file.specs.lemmas.Long.{enough}
use Rattle.plan_file.proofs.Long.{long_file}
use Rattle.plan_file.specs.Plans.{plan_verdict}
use Rattle.plan_file.proofs.WellFormed.{well_formed}
use Rattle.plan_judge.specs.Judgement.{plan_judgement, judgement}
use Rattle.plan_judge.specs.Long.{enough_junction}

-- a longer junction file is refused 1 at 0, read whole or not
pub junction_read : (s : List ℕ) → reading (take enough_junction s) ≡ reading s
unfolding enough_junction reading
junction_read s =
    by_test (leb (length s) most_bytes)
    (λ e. rw (take_all 16385 s (omega (arith, leb-true (length s) most_bytes e))))
    (λ e. rw (length-take-le 16385 s (leb-false _ _ e), e))

-- a longer plan file is refused alike, since the size of a well-formed one is at most 133
plan_read : (j : Junction) (plan : List ℕ) → ((i : ℕ) → byte_at plan i < 256) → j.held.streams ≤ most_streams
    → plan_judgement j (take enough plan) ≡ plan_judgement j plan
unfolding plan_judgement enough
plan_read j plan bytes few =
    by_test (leb (length plan) enough)
    (λ e. rw (take_all enough plan (leb-true _ _ e)))
    (λ e. let long : enough < length plan = leb-false _ _ e in
    rw (long_file plan j.held.streams bytes few (omega arith))
    (later_same (plan_verdict plan j.held.streams) _ _
    (λ p. absurd (omega (arith, ((well_formed plan j.held.streams).0 p).size)))))

pub enough_read : (junction plan : List ℕ) → ((i : ℕ) → byte_at plan i < 256)
    → judgement (take enough_junction junction) (take enough plan) ≡ judgement junction plan
unfolding judgement
enough_read junction plan bytes =
    rw (junction_read junction)
    (later_same (reading junction).verdict _ _
    (λ p. plan_read (reading junction).junction plan bytes (taken junction p).fields.few_streams))
