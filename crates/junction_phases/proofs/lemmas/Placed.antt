-- What stands at each of the six places of a junction's phases.
use Rattle.std.specs.Prelude.{ℕ, ◌+◌, ◌≤◌, ◌<◌, ◌≡◌, ltb, replicate}
use Rattle.std.proofs.Common.{arith, lt-ltb, ltb-true}
use Rattle.std.proofs.lemmas.List.{get_or-replicate}
use Rattle.laws.specs.Filled.{filled, filled_at, filled_past, filled_same}
use Rattle.laws.specs.Tests.{by_test}
use Rattle.junction.specs.declared.Junction.{Junction}
use Rattle.phase_lengths.specs.Phases.{no_phase, phase}
use Rattle.phase_lengths.specs.declared.Phase.{Phase}
use Rattle.junction_phases.specs.JunctionPhases.{phase_need, phase_count, phase_at, phases_at, with_need}
use Rattle.junction_phases.specs.lemmas.Placed.{few_phases}

module _ (j : Junction) where
  pub phase_placed : (t i : ℕ) → i < phase_count j → phase (phases_at j t) i ≡ phase_at j t i
  unfolding phase phases_at
  phase_placed t i low =
      rw (lt-ltb i 6 (omega (arith, (few_phases j)))) (filled_at (phase_at j t) (replicate 6 no_phase) (phase_count j) i no_phase low (few_phases j))

  pub phase_empty : (t i : ℕ) → phase_count j ≤ i → phase (phases_at j t) i ≡ no_phase
  unfolding phase phases_at
  phase_empty t i past =
      by_test (ltb i 6)
      (λ e. rw (e, filled_past (phase_at j t) (replicate 6 no_phase) (phase_count j) i no_phase past) (get_or-replicate 6 i no_phase no_phase (ltb-true _ _ e)))
      (λ e. rw e)

  -- places filled one after the other with the phases
  pub phases_filled : (t : ℕ) (p : ℕ → Phase) → ((k : ℕ) → k < phase_count j → p k ≡ phase_at j t k)
      → record { count = phase_count j; of = filled p (replicate 6 no_phase) (phase_count j) } ≡ phases_at j t
  unfolding phases_at
  phases_filled t p same = rw (filled_same p (replicate 6 no_phase) (phase_at j t) (phase_count j) same)

  -- a phase's need alone depends on the cycle
  pub need_moved : (t i : ℕ) → i < phase_count j → with_need (phase (phases_at j 0) i) (phase_need j (i + 1) t) ≡ phase_at j t i
  unfolding phase_at
  need_moved t i low = rw (phase_placed 0 i low)
