-- How large the flows and their factors can be, for code that computes them.
use Prim.Native.Nat.{ℕ, ◌+◌, ◌*◌, ◌^◌, ◌≤◌, ◌<◌, zero-le}
use Rattle.std.proofs.Common.{div-lt_iff_lt-mul, arith, leb-true, ltb-true}
use Rattle.std.proofs.Math.Nat.{le-pred_of_lt}
use Rattle.std.proofs.Math.Bridge.{le_by_compare, IsLe}
use Rattle.std.proofs.Math.Numerals.{bound}
use Rattle.std.specs.Prelude.{◌≡◌, refl, eqb, leb, ltb}
use Rattle.laws.specs.Ranges.{every_at}
use Rattle.laws.specs.Tests.{by_test}
use Rattle.flows.specs.Saturation.{table1, listed_from, straight_flow, turning_flow, turn_divisor}

-- A number that is a definition's, and below a limit. Each function has a limit of its own, so that a type in place of this would be one
-- for each of them.
pub record Bounded (value limit r : ℕ) : Type 0 where
  pub same : r ≡ value
  pub small : r < limit

listed_small : (w : ℕ) → w ≤ 540 → listed_from 0 table1 w < 2 ^ 19
listed_small w h =
    ltb-true _ _
    (every_at (λ v. ltb (listed_from 0 table1 v) (2 ^ 19)) 541 0 (unfold listed_from table1 in refl) w zero-le (omega arith))

pub straight_small : (w : ℕ) → w < 2 ^ 16 → straight_flow w < 2 ^ 19
unfolding straight_flow
straight_small w h =
    by_test (leb w 540) (λ e. rw e (listed_small w (leb-true w 540 e))) (λ e. rw e (omega arith))

pub turning_small : (radius rows : ℕ) → turning_flow radius rows < 2 ^ 19
unfolding turning_flow
turning_small radius rows =
    (div-lt_iff_lt-mul {k = 4 * radius + 61} (omega arith)).1
    (by_test (eqb rows 2) (λ e. rw e (omega arith)) (λ e. rw e (omega arith)))

pub turn_positive : (b c : ℕ) → 0 < turn_divisor b c
unfolding turn_divisor
turn_positive b c = by_test (leb 10 (b + c)) (λ e. rw e (omega arith)) (λ e. rw e (omega arith))

pub product_small : {base gradient conditions : ℕ}
    → base < 2 ^ 19 → gradient < 131 → conditions < 121 → base * gradient * conditions * 400 < 2 ^ 42
unfolding IsLe
product_small hb hg hk = grw (bound, le-pred_of_lt hb, le-pred_of_lt hg, le-pred_of_lt hk) (le_by_compare _ _ tt)
