-- Moving every start by one offset changes no judgement (document 02, 2026-06): for every junction file, every well-formed plan file and every
-- whole offset, the judge's answer to the shifted file is its answer to the file, number and place included. `judgement` is what
-- `plan_judge::judge` is proved to answer, as it stands.
use Rattle.std.specs.Prelude.{ℕ, ◌%◌, List}
use Rattle.junction_file.specs.Reading.{reading}

-- what counts of an offset is its remainder, below the cycle: a start is moved by it, less the cycle where that is reached
module _ (cycle offset : ℕ) where
  abbrev pub remainder : ℕ
  remainder = offset % cycle

module _ (junction plan : List ℕ) (offset : ℕ) where
  abbrev pub streams : ℕ
  streams = (reading junction).junction.held.streams
