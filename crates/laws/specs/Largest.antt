-- The largest of the first numbers of a sequence.
use Prim.Native.Nat.{ℕ, zero, suc, max}

-- the largest of f 0, .. f (n - 1); 0 where there is none
unfoldable pub largest_of : (ℕ → ℕ) → ℕ → ℕ
largest_of f zero = 0
largest_of f (suc n) = max (largest_of f n) (f n)
