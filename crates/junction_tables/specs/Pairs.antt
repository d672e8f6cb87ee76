-- A number for each ordered pair of streams, as a list.
use Rattle.std.specs.Prelude.{ℕ, ◌+◌, ◌-◌, ◌*◌, max, List, ◌≡◌, length, get_or, set}
use Rattle.laws.specs.Ranges.{Between}
use Rattle.limits.specs.Limits.{most_streams}
use Rattle.junction_tables.specs.declared.Conflict.{Conflict}

-- so many pairs, and the place of that from stream n to stream m
abbrev pub pairs : ℕ
pairs = most_streams * most_streams

abbrev pub pair_place : ℕ → ℕ → ℕ
pair_place n m = most_streams * (n - 1) + (m - 1)

pub record ByPair (number : ℕ → ℕ → ℕ) (l : List ℕ) : Type 0 where
  pub long : length l ≡ pairs
  pub each : (n m : ℕ) → Between 1 most_streams n → Between 1 most_streams m → get_or l (pair_place n m) 0 ≡ number n m

-- the number of one pair raised to another, where that is larger
abbrev pub raised_to : List ℕ → ℕ → ℕ → ℕ → List ℕ
raised_to l n m x = set l (pair_place n m) (max (get_or l (pair_place n m) 0) x)

-- two streams with the numbers of the pair as entries
abbrev pub conflict_by : List ℕ → ℕ → ℕ → Conflict
conflict_by l a b = record { a = a; b = b; atob = get_or l (pair_place a b) 0; btoa = get_or l (pair_place b a) 0 }
