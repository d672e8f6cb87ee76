-- How many of a plan file's first bytes decide its answer.
use Prim.Native.Nat.{ℕ}

-- past the end of every field that is looked at: it begins at 5 + 8 * 16 or before, and has three bytes and a body of at most 65535
unfoldable pub enough : ℕ
enough = 65672
