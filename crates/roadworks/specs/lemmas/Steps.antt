-- The answer by the questions in order, 25, 26, 21, 22 and 27: what each gives where those before it refuse nothing.
use Rattle.std.specs.Prelude.{ℕ}
use Rattle.roadworks.specs.Roadworks.{asked_of}
use Rattle.roadworks.specs.declared.Approach.{Approach}
use Rattle.roadworks.specs.declared.Asked.{Asked}

module _ (stretch speed : ℕ) (a b : Approach) where
  abbrev pub w : Asked
  w = asked_of stretch speed a b
