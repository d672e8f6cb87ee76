-- What a shifted plan file holds: it is as long as before, each start is (start + offset) modulo C, and every other byte is as it was. An offset of
-- C or more does what it does taken modulo C. The file is well-formed where it was before, and says the same cycle and the same lengths.
use Prim.Native.Nat.{ℕ, ◌+◌, ◌/◌, ◌%◌, ◌<◌}
use Rattle.std.proofs.Common.{◌∙◌}
use native.Mathlib.Omega.{arith}
use Rattle.std.specs.Prelude.{List, ◌⊎◌, ◌≡◌, set}
use Rattle.std.proofs.Math.ListN.{length, length-set}
use Rattle.std.proofs.Math.Seq.{get_or-set_same, get_or-set_other}
use Rattle.fields.specs.Bytes.{byte_at, number_at}
use Rattle.offsets.specs.Shifting.{moved, start_place, with_number}

-- a file with a number in two of its bytes
module _ (s : List ℕ) (at n : ℕ) where
  pub with_size : length (with_number s at n) ≡ length s
  unfolding with_number
  with_size = length-set (set s at (n / 256)) (at + 1) (n % 256) ∙ length-set s at (n / 256)

  pub with_others : (k : ℕ) → (k ≡ at → ⊥) → (k ≡ at + 1 → ⊥) → byte_at (with_number s at n) k ≡ byte_at s k
  unfolding with_number byte_at
  with_others k high low = get_or-set_other (set s at (n / 256)) (at + 1) k (n % 256) 0 low ∙ get_or-set_other s at k (n / 256) 0 high

  pub with_high : at + 1 < length s → byte_at (with_number s at n) at ≡ n / 256
  unfolding with_number byte_at
  with_high within = get_or-set_other (set s at (n / 256)) (at + 1) at (n % 256) 0 (omega arith) ∙ get_or-set_same s at (n / 256) 0 (omega arith)

  pub with_low : at + 1 < length s → byte_at (with_number s at n) (at + 1) ≡ n % 256
  unfolding with_number byte_at
  with_low within = get_or-set_same (set s at (n / 256)) (at + 1) (n % 256) 0 (omega (arith, length-set s at (n / 256)))

-- a place of one of the two bytes of a start, of the first n streams
unfoldable pub StartByte : ℕ → ℕ → Type 0
StartByte n k = (i : ℕ) × (i < n) × ((k ≡ start_place i) ⊎ (k ≡ start_place i + 1))

module _ (plan : List ℕ) (offset : ℕ) where
  abbrev pub moved_start : ℕ → ℕ
  moved_start i = moved (number_at plan 3) offset (number_at plan (start_place i))
