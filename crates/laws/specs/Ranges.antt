-- Numbers of a range, and what one test that antt computes shows of every one of them.
use Rattle.std.specs.Prelude.{ℕ, zero, suc, ◌+◌, ◌≤◌, ◌<◌, Bool, true, ◌&&◌, ◌≡◌}
use Rattle.std.proofs.Common.{eq-or-lt_of_le, arith, ⊎_elim}
use Rattle.laws.specs.Tests.{both_left, both_right}

-- a number from low to high, both included
abbrev pub Between : ℕ → ℕ → ℕ → Type 0
Between low high n = (low ≤ n) × (n ≤ high)

-- the test passes at each of the n numbers from lo on
abbrev pub every_of : (ℕ → Bool) → ℕ → ℕ → Bool
every_of f zero lo = true
every_of f (suc n) lo = f lo && every_of f n (lo + 1)

pub every_at : (f : ℕ → Bool) (n lo : ℕ) → every_of f n lo ≡ true → (w : ℕ) → lo ≤ w → w < lo + n → f w ≡ true
every_at f zero lo t w a b = absurd (omega arith)
every_at f (suc n) lo t w a b =
    ⊎_elim (λ (same : lo ≡ w). rw (← same) (both_left (f lo) _ t))
    (λ (less : lo < w). every_at f n (lo + 1) (both_right (f lo) _ t) w (omega arith) (omega arith))
    (eq-or-lt_of_le a)
