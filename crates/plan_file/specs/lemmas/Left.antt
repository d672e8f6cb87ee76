-- The fields that are left from a place on have the answer of all of them: the invariant of the loop over the streams.
use Prim.Native.Nat.{ℕ, ◌+◌, ◌-◌, ◌≤◌}
use Rattle.std.proofs.Math.Nat.{sub-zero}
use native.Mathlib.Omega.{arith}
use Rattle.std.specs.Prelude.{List, ◌≡◌, length}
use Rattle.plan_file.specs.Plans.{greens_from}

-- the first i of the streams are judged, and their fields end at a place
pub record Left (s : List ℕ) (from streams at i : ℕ) : Type 0 where
  pub few : i ≤ streams
  pub inside : at ≤ length s
  pub same : greens_from (streams - i) s at (i + 1) ≡ greens_from streams s from 1

pub left_begins : (s : List ℕ) (from streams : ℕ) → from ≤ length s → Left s from streams from 0
left_begins s from streams h = record { few = omega arith; inside = h; same = rw (sub-zero streams) }
