-- What the program `judge` reads of the two files is enough: the bytes after it change no answer.
use Rattle.std.specs.Prelude.{ℕ}

-- one more than the most bytes of a junction file
unfoldable pub enough_junction : ℕ
enough_junction = 16385
