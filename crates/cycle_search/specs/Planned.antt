-- The plan of a length that works: each stream has its phase's green, every number is in its range, and the cycle is filled.
use Prim.Native.Nat.{ℕ, ◌+◌, ◌-◌, ◌≤◌, ◌<◌}
use native.Mathlib.Omega.{arith}
use Rattle.std.specs.Prelude.{true, ◌≡◌, replicate}
use Rattle.laws.specs.Filled.{filled_at}
use Rattle.laws.specs.Ranges.{Between}
use Rattle.limits.specs.Limits.{most_streams, most_seconds}
use Rattle.junction.specs.declared.Junction.{Junction}
use Rattle.junction_places.specs.Places.{stream_numbered}
use Rattle.junction_file.specs.Taken.{Taken}
use Rattle.phase_greens.proofs.Fills.{green_some, start_within}
use Rattle.phase_greens.specs.Greens.{sharing, green_at, start_at, gives_greens}
use Rattle.junction_phases.specs.JunctionPhases.{phases_at}
use Rattle.junction_phases.specs.Meaning.{count_phases}
use Rattle.junction_phases.proofs.lemmas.Right.{phases_right_lem}
use Rattle.plan_file.specs.declared.Green.{Green}
use Rattle.plan_file.specs.Plans.{green_of, no_green}
use Rattle.plan_file.specs.WellFormed.{PlanRight, green_numbered}
use Rattle.cycle_search.specs.Planning.{phase_green, plan_at}

module _ (j : Junction) (taken : Taken j) (t : ℕ) where
  -- every stream gets its phase's green
  pub stream_green : (n : ℕ) → Between 1 j.held.streams n
      → green_of (plan_at j t) n ≡ phase_green (phases_at j t) (sharing (phases_at j t) t) (stream_numbered j n).phase
  unfolding plan_at
  stream_green n w =
      let few = taken.fields.few_streams in
      let there : n - 1 + 1 ≡ n = omega arith in
      let green : ℕ → Green = λ i. phase_green (phases_at j t) (sharing (phases_at j t) t) (stream_numbered j (i + 1)).phase in
      let filled = filled_at green (replicate most_streams no_green) j.held.streams (n - 1) no_green (omega arith) few in
      rw (green_numbered (plan_at j t) n (omega arith), filled, there)

  module _ (p : gives_greens (phases_at j t) t ≡ true) where
    -- which lies within the cycle
    green_within : (n : ℕ) → Between 1 j.held.streams n
        → (1 ≤ green_at (phases_at j t) (sharing (phases_at j t) t) ((stream_numbered j n).phase - 1))
        × (start_at (phases_at j t) (sharing (phases_at j t) t) ((stream_numbered j n).phase - 1)
        + green_at (phases_at j t) (sharing (phases_at j t) t) ((stream_numbered j n).phase - 1) ≤ t)
    green_within n w =
        let f = count_phases j taken n w in
        let low : (stream_numbered j n).phase - 1 < (phases_at j t).count = unfold phases_at in omega arith in
        (green_some (phases_at j t) (phases_right_lem j taken t) t p _ low, omega (arith, start_within (phases_at j t) (phases_right_lem j taken t) t p ((stream_numbered j n).phase - 1) low))

    -- so the plan's numbers are in range, as a plan file's have to be
    pub plan_in_range : Between 1 most_seconds t → PlanRight (plan_at j t) j.held.streams
    plan_in_range range =
        record {
          cycle = unfold plan_at in range;
          start = λ n w. rw (stream_green n w) (unfold plan_at phase_green in omega (arith, green_within n w));
          length = λ n w. rw (stream_green n w) (unfold plan_at phase_green in omega (arith, green_within n w));
        }
