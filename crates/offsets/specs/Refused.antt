-- What is refused, and that a refusal alters no byte: nothing exactly where the junction file is taken, the plan file well-formed for it and the
-- offset below C; 24 at 0 where the two files are and the offset is not. The rules of the judge are not asked.
use Rattle.std.specs.Prelude.{ℕ, List}
use Rattle.junction_file.specs.Reading.{reading}

module _ (junction plan : List ℕ) (offset : ℕ) where
  abbrev pub streams : ℕ
  streams = (reading junction).junction.held.streams
