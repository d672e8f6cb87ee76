-- The first number of a range that passes a test.
use Prim.Native.Nat.{ℕ, zero, suc, ◌+◌, ◌-◌}
use Rattle.std.specs.Prelude.{Bool, true, false}

-- the first of fuel numbers from t that passes; t + fuel where none does
unfoldable pub first_of : (ℕ → Bool) → ℕ → ℕ → ℕ
first_of f zero t = t
first_of f (suc fuel) t = elim (f t) [ true ↦ t | false ↦ first_of f fuel (t + 1) ]

-- the first number from t on that passes; n where none below n does
unfoldable pub first_below : (ℕ → Bool) → ℕ → ℕ → ℕ
first_below f n t = first_of f (n - t) t
