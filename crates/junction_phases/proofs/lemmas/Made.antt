-- The phases made of the largest figures of every phase are those of the junction.
use Rattle.std.specs.Prelude.{ℕ, ◌+◌, ◌<◌, List, ◌≡◌, get_or, replicate}
use native.Mathlib.Omega.{arith}
use Rattle.limits.specs.Limits.{most_phases}
use Rattle.laws.specs.ByNumber.{ByNumber}
use Rattle.laws.specs.Filled.{filled}
use Rattle.junction.specs.declared.Junction.{Junction}
use Rattle.junction_file.specs.Taken.{Taken}
use Rattle.phase_lengths.specs.Phases.{no_phase}
use Rattle.junction_phases.specs.JunctionPhases.{phase_ratio, phase_need, phase_count}
use Rattle.junction_phases.specs.JunctionPhases.{next_phase, phase_entry, intergreen, phase_at, phases_at}
use Rattle.junction_phases.specs.lemmas.Placed.{few_phases}
use Rattle.junction_phases.proofs.lemmas.Placed.{phases_filled}
use Rattle.junction_phases.specs.lemmas.Made.{phase_with, cars_by_ratio}

module _ (j : Junction) (taken : Taken j) where
  phase_made : (t i : ℕ)
      → phase_with (phase_ratio j (i + 1)) (phase_entry j (i + 1) (next_phase j (i + 1))) (phase_need j (i + 1) t) ≡ phase_at j t i
  unfolding phase_at intergreen
  phase_made t i = rw (cars_by_ratio j taken (i + 1))

  pub phases_made : (t : ℕ) (ratios entries needs : List ℕ)
      → ByNumber most_phases (λ f. phase_ratio j f) ratios → ByNumber most_phases (λ f. phase_entry j f (next_phase j f)) entries
      → ByNumber most_phases (λ f. phase_need j f t) needs
      → record { count = phase_count j; of = filled (λ k. phase_with (get_or ratios k 0) (get_or entries k 0) (get_or needs k 0)) (replicate 6 no_phase) (phase_count j) }
      ≡ phases_at j t
  phases_made t ratios entries needs ratio entry need =
      phases_filled j t _ (λ k low.
      let six : k < 6 = omega (arith, few_phases j) in rw (ratio.each k six, entry.each k six, need.each k six) (phase_made t k))
