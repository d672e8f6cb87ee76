-- What the program `delay` reads of the two files is enough: the bytes after it change no answer.
use Rattle.std.specs.Prelude.{ℕ, ◌<◌, List, ◌≡◌, take}
use Rattle.std.proofs.Common.{ap}
use Rattle.fields.specs.Bytes.{byte_at}
use Rattle.junction_file.specs.Reading.{reading}
use Rattle.plan_file.specs.lemmas.Long.{enough}
use Rattle.plan_file.specs.Plans.{plan_of}
use Rattle.plan_judge.specs.Long.{enough_junction}
use Rattle.plan_judge.proofs.Long.{junction_read, enough_read}
use Rattle.delays.specs.Answer.{stream_figures, told, delay_verdict, answer}
use Rattle.delays.specs.Refused.{unless_same}
use Rattle.delays.proofs.Refused.{verdict_passed}
use Rattle.delays.specs.Long.{plan_whole}

pub enough_delayed : (junction plan : List ℕ) → ((i : ℕ) → byte_at plan i < 256) → (n : ℕ)
    → answer (take enough_junction junction) (take enough plan) n ≡ answer junction plan n
unfolding answer delay_verdict
enough_delayed junction plan bytes n =
    rw (enough_read junction plan bytes, junction_read junction)
    (unless_same (delay_verdict junction plan n) _ _
    (λ e. ap (λ (p : List ℕ). told (stream_figures (reading junction).junction (plan_of p) n)) (plan_whole junction plan ((verdict_passed junction plan n).0 e).0)))
