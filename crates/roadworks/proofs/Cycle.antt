-- The cycle is the least length from T0 to 180 s that works; there is none exactly where no such length does.
use Rattle.std.specs.Prelude.{ℕ, ◌≤◌, ◌<◌, true, false, ◌↔◌, ◌≡◌, ltb}
use Rattle.std.proofs.Common.{arith, true≢false, sym, ◌∙◌, ltb-true, ltb-false}
use Rattle.laws.specs.Ranges.{Between}
use Rattle.laws.proofs.Search.{first_range, first_passes, first_fails}
use Rattle.laws.specs.Tests.{by_test, both_left, both_right}
use Rattle.limits.specs.Limits.{most_seconds, no_cycle}
use Rattle.phase_lengths.specs.First.{first_length_range}
use Rattle.phase_greens.specs.Greens.{gives_greens}
use Rattle.roadworks.specs.Roadworks.{phases_of, first_tried, greens_at, rules_kept, works, cycle_from, cycle_of}
use Rattle.roadworks.specs.declared.Asked.{Asked}

module _ (w : Asked) where
  first_tried_range : Between 1 no_cycle (first_tried w)
  unfolding first_tried
  first_tried_range = first_length_range _ _ _

  pub cycle_range : Between (first_tried w) no_cycle (cycle_of w)
  unfolding cycle_of cycle_from
  cycle_range = first_range (works w) no_cycle (first_tried w) first_tried_range.1

  -- no length from T0 on before the cycle works
  pub none_before : (t : ℕ) → first_tried w ≤ t → t < cycle_of w → works w t ≡ false
  unfolding cycle_of cycle_from
  none_before t low high = first_fails (works w) no_cycle (first_tried w) t low high

  module _ (found : cycle_of w < no_cycle) where
    pub cycle_seconds : Between 1 most_seconds (cycle_of w)
    cycle_seconds = omega (arith, first_tried_range, cycle_range)

    pub cycle_from_lem : first_tried w ≤ cycle_of w
    cycle_from_lem = cycle_range.0

    pub cycle_works : works w (cycle_of w) ≡ true
    unfolding cycle_of cycle_from
    cycle_works = first_passes (works w) no_cycle (first_tried w) first_tried_range.1 found

    pub cycle_greens : gives_greens (phases_of w) (cycle_of w) ≡ true
    unfolding works
    cycle_greens = both_left (gives_greens (phases_of w) (cycle_of w)) _ cycle_works

    pub cycle_kept : rules_kept w (greens_at (phases_of w) (cycle_of w)) (cycle_of w) ≡ true
    unfolding works
    cycle_kept = both_right (gives_greens (phases_of w) (cycle_of w)) _ cycle_works

  -- 181 exactly where no length from T0 to 180 works
  pub no_cycle_lem : (no_cycle ≤ cycle_of w) ↔ ((t : ℕ) → Between (first_tried w) most_seconds t → works w t ≡ false)
  no_cycle_lem = (
    λ none t range. none_before t range.0 (omega arith),
    λ all. by_test (ltb (cycle_of w) no_cycle)
        (λ e. let found = ltb-true (cycle_of w) no_cycle e in
        absurd (true≢false (sym (cycle_works found) ∙ all (cycle_of w) (cycle_from_lem found, (cycle_seconds found).1))))
        (λ e. ltb-false _ _ e),
  )
