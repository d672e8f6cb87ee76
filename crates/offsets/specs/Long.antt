-- What the program `shift` reads is enough: the bytes after it change no answer, a file that is shifted was read whole, and of an offset no more
-- than some number above every cycle need count.
use Rattle.std.specs.Prelude.{ℕ, List, ◌≡◌, take}
use Rattle.std.proofs.Common.{arith, get_or-take}
use Rattle.fields.specs.Bytes.{byte_at, number_at}
use Rattle.junction_file.specs.Reading.{reading}
use Rattle.plan_file.specs.lemmas.Long.{enough}

-- the cycle is among those bytes
pub cycle_read : (plan : List ℕ) → number_at (take enough plan) 3 ≡ number_at plan 3
unfolding number_at byte_at enough
cycle_read plan = rw (get_or-take enough plan 3 0 (omega arith), get_or-take enough plan 4 0 (omega arith))

module _ (junction plan : List ℕ) (offset : ℕ) where
  abbrev pub streams : ℕ
  streams = (reading junction).junction.held.streams
