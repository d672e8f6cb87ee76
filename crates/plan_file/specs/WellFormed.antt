-- What a plan file is, field by field and byte for byte, and the plan that it says (document 01, "Judging a plan").
use Prim.Native.Nat.{ℕ, ◌+◌, ◌-◌, ◌*◌, ◌≤◌, ◌<◌}
use native.Mathlib.Omega.{arith}
use Rattle.std.specs.Prelude.{true, List, ◌≡◌, refl, eqb, length, get_or, replicate}
use Rattle.std.proofs.Math.Bool.{and-eq-true_iff}
use borrow.Author.Tests.{le-ltb, ne_eqb, eqb-true}
use Rattle.laws.specs.Filled.{filled_at}
use Rattle.laws.specs.Ranges.{Between}
use Rattle.laws.specs.Tests.{both_right}
use Rattle.limits.specs.Limits.{most_seconds, most_streams}
use Rattle.fields.specs.Bytes.{byte_at, number_at, field_end}
use Rattle.plan_file.specs.Plans.{cycle_expected, green_expected}
use Rattle.plan_file.specs.Plans.{green_at, no_green, plan_of, green_of}
use Rattle.plan_file.specs.declared.Plan.{Plan}

-- field 12 of the stream with number i + 1
pub record GreenRight (s : List ℕ) (i : ℕ) : Type 0 where
  pub tag : byte_at s (5 + 8 * i) ≡ 18
  pub field_length : number_at s (5 + 8 * i + 1) ≡ 5
  pub stream : byte_at s (5 + 8 * i + 3) ≡ i + 1
  pub start : number_at s (5 + 8 * i + 4) < number_at s 3
  pub length : Between 1 (number_at s 3) (number_at s (5 + 8 * i + 6))

-- field 11, then a field 12 for each stream in order, and nothing after the last
pub record WellFormed (s : List ℕ) (streams : ℕ) : Type 0 where
  pub size : length s ≡ 5 + 8 * streams
  pub tag : byte_at s 0 ≡ 17
  pub field_length : number_at s 1 ≡ 2
  pub cycle : Between 1 most_seconds (number_at s 3)
  pub greens : (i : ℕ) → i < streams → GreenRight s i

-- the ranges of a plan's numbers
pub record PlanRight (p : Plan) (streams : ℕ) : Type 0 where
  pub cycle : Between 1 most_seconds p.cycle
  pub start : (n : ℕ) → Between 1 streams n → (green_of p n).start < p.cycle
  pub length : (n : ℕ) → Between 1 streams n → Between 1 p.cycle (green_of p n).length

module _ (s : List ℕ) where
  -- where a field has the right length, the next begins where it is read
  pub cycle_ends : number_at s 1 ≡ 2 → field_end s 0 ≡ 5
  unfolding field_end
  cycle_ends two = omega arith

  pub green_ends : (i : ℕ) → number_at s (5 + 8 * i + 1) ≡ 5 → field_end s (5 + 8 * i) ≡ 5 + 8 * (i + 1)
  unfolding field_end
  green_ends i five = omega arith

  -- so it does where the field is the expected one
  pub cycle_follows : cycle_expected s ≡ true → field_end s 0 ≡ 5
  unfolding cycle_expected
  cycle_follows e = cycle_ends (eqb-true _ _ (both_right (eqb (byte_at s 0) 17) _ e))

  pub green_follows : (at n : ℕ) → green_expected s at n ≡ true → field_end s at ≡ at + 8
  unfolding green_expected field_end
  green_follows at n e =
      let facts = simp and-eq-true_iff at e in
      let five : number_at s (at + 1) ≡ 5 = eqb-true _ _ facts.0.1 in omega arith

-- the plan is read from those places
pub cycle_read : (s : List ℕ) → (plan_of s).cycle ≡ number_at s 3
unfolding plan_of
cycle_read s = refl

-- the green of a stream that has a place, by its number and by the place
pub green_numbered : (p : Plan) (n : ℕ) → Between 1 most_streams n → green_of p n ≡ get_or p.greens (n - 1) no_green
unfolding green_of
green_numbered p n h = rw (ne_eqb n 0 (omega arith), le-ltb most_streams n (omega arith))

pub green_place : (p : Plan) (i : ℕ) → i < most_streams → get_or p.greens i no_green ≡ green_of p (i + 1)
green_place p i h = let there : i + 1 - 1 ≡ i = omega arith in rw (green_numbered p (i + 1) (omega arith), there)

pub green_read : (s : List ℕ) (streams : ℕ) → streams ≤ most_streams → WellFormed s streams → (n : ℕ) → Between 1 streams n
    → green_of (plan_of s) n ≡ green_at s (n - 1)
unfolding plan_of
green_read s streams few w n h =
    rw (green_numbered (plan_of s) n (omega arith))
    (filled_at (green_at s) (replicate most_streams no_green) most_streams (n - 1) no_green (omega arith) (omega arith))
