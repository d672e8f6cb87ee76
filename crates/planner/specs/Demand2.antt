-- The cycle of a junction is the least length from T0 on that works, and the tried count lies within document 01's bounds. File days change no
-- plan. (demands/specs/SecondDemand.antt has the whole over files.)
use Prim.Native.Nat.{ℕ, zero, suc, ◌+◌, ◌-◌, ◌≤◌, ◌<◌, min}
use Rattle.std.proofs.Math.Nat.{min-eq_left}
use native.Mathlib.Omega.{arith}
use Rattle.std.specs.Prelude.{Bool, false, cond, ◌≡◌}
use Rattle.std.proofs.Math.Dec.{leb}
use Rattle.laws.proofs.Search.{first_fails}
use Rattle.laws.specs.Sums.{sum_of}
use Rattle.laws.specs.Tests.{by_test}
use Rattle.limits.specs.Limits.{no_cycle, most_seconds}
use Rattle.junction.specs.declared.Junction.{Junction}
use Rattle.phase_lengths.specs.Phases.{lost_time}
use Rattle.junction_phases.specs.JunctionPhases.{phases_at}
use Rattle.cycle_search.specs.Planning.{first_tried, works, cycle_from, cycle, found}

module _ (j : Junction) where
  -- no length from T0 on that is shorter than the cycle works
  pub cycle_least : (t : ℕ) → first_tried j ≤ t → t < cycle j → works j t ≡ false
  unfolding cycle cycle_from
  cycle_least t = first_fails (works j) no_cycle (first_tried j) t

  -- how many of n lengths from T0 on are not below their lost time
  unfoldable pub lengths_from_lost : ℕ → ℕ
  lengths_from_lost n = sum_of (λ i. cond (leb (lost_time (phases_at j (first_tried j + i))) (first_tried j + i)) 1 0) n

  at_most_all : (f : ℕ → Bool) (n : ℕ) → sum_of (λ i. cond (f i) 1 0) n ≤ n
  unfolding sum_of
  at_most_all f zero = omega arith
  at_most_all f (suc n) =
      let earlier = at_most_all f n in
      by_test (f n) (λ e. rw e (omega arith)) (λ e. rw e (omega arith))

  pub tried_exact : cycle j < no_cycle → (found j (first_tried j)).tried ≡ cycle j + 1 - first_tried j
  unfolding found cycle
  tried_exact low = let within : min (cycle_from j (first_tried j)) most_seconds ≡ cycle_from j (first_tried j) = min-eq_left (omega arith) in rw within

  -- the tried count of a cycle that is found: at most C - T0 + 1, and at least the number of lengths from T0 to C that are not below their L
  pub tried_bounds : cycle j < no_cycle
      → ((found j (first_tried j)).tried ≤ cycle j + 1 - first_tried j) × (lengths_from_lost (cycle j + 1 - first_tried j) ≤ (found j (first_tried j)).tried)
  tried_bounds low =
      let exact : (found j (first_tried j)).tried ≡ cycle j + 1 - first_tried j = tried_exact low in
      rw exact (omega arith, unfold lengths_from_lost in at_most_all (λ i. leb (lost_time (phases_at j (first_tried j + i))) (first_tried j + i)) _)
