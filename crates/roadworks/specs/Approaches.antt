-- What is asked of a listed stretch and of approaches in range: M is the least whole number not below 3 + t, the lost time is 2 × (M - 1), and the
-- two phases are as the rules of greens ask.
use Prim.Native.Nat.{ℕ, ◌*◌, ◌≤◌}
use native.Mathlib.Omega.{arith}
use Rattle.std.specs.Prelude.{true, ◌≡◌, leb}
use Rattle.std.proofs.Common.{leb-true, leb-false, ne_eqb}
use Rattle.laws.specs.Ranges.{Between}
use Rattle.laws.proofs.Rounding.{up_least}
use Rattle.laws.specs.Rounding.{up}
use Rattle.laws.specs.Tests.{by_test, both_left, both_right}
use Rattle.limits.specs.Limits.{least_flow, greatest_flow}
use Rattle.flows.specs.Saturation.{flow_ratio}
use Rattle.phase_lengths.specs.declared.Phases.{Phases}
use Rattle.roadworks.specs.Roadworks.{hourly, in_range, phases_of}
use Rattle.roadworks.specs.declared.Approach.{Approach}
use Rattle.roadworks.specs.declared.Asked.{Asked}

-- flow and S of an approach in range
pub record ApproachRight (a : Approach) : Type 0 where
  pub flow : Between least_flow greatest_flow a.flow
  pub saturation : Between least_flow greatest_flow a.saturation

hourly_range : (n : ℕ) → hourly n ≡ true → Between least_flow greatest_flow n
hourly_range n e = (leb-true _ _ (both_left (leb least_flow n) _ e), leb-true _ _ (both_right (leb least_flow n) _ e))

pub approach_right : (a : Approach) → in_range a ≡ true → ApproachRight a
unfolding in_range
approach_right a e =
    record {
      flow = hourly_range _ (both_left (hourly a.flow) _ e);
      saturation = hourly_range _ (both_right (hourly a.flow) _ e);
    }

-- the flow ratio of an approach in range is 1 or more
pub ratio_some : (flow s : ℕ) → 1 ≤ flow → 1 ≤ s → 1 ≤ flow_ratio flow s
unfolding flow_ratio
ratio_some flow s some_flow some_s =
    rw (ne_eqb s 0 (λ e. omega arith))
    (by_test (leb (up (10000 * flow) s) 0)
    (λ e. absurd (omega (arith, (up_least (10000 * flow) s 0 (omega arith)).0 (leb-true _ _ e))))
    (λ e. leb-false (up (10000 * flow) s) 0 e))

module _ (w : Asked) where
  abbrev pub q : Phases
  q = phases_of w
