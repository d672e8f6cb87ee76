-- T0 is the least length, from 1 on, that is at least the optimum.
use Rattle.std.specs.Prelude.{ℕ, ◌-◌, ◌≤◌, Bool, true, false, ◌↔◌, ◌≡◌, leb}
use Rattle.std.proofs.Common.{le_trans, mul-le-mul, mul-le-mul_right, arith, sym, ◌∙◌}
use Rattle.std.proofs.lemmas.Bool.{false≢true}
use borrow.Author.Tests.{leb-true, leb-false, le-leb}
use Rattle.laws.specs.Ranges.{Between}
use Rattle.laws.proofs.Search.{first_range, first_passes, first_fails}
use Rattle.laws.specs.Tests.{by_test}
use Rattle.limits.specs.Limits.{no_cycle, most_seconds}
use Rattle.phase_lengths.specs.Phases.{long_enough, first_length}

-- a length that is long enough stays so when it grows
pub long_enough_stays : (mixed : Bool) (ratios lost t u : ℕ) → t ≤ u → long_enough mixed ratios lost t ≡ true
    → long_enough mixed ratios lost u ≡ true
unfolding long_enough
long_enough_stays true ratios lost t u more h =
    le-leb _ _ (le_trans (leb-true _ _ h) (mul-le-mul_right (10000 - ratios) (mul-le-mul more more)))
long_enough_stays false ratios lost t u more h = le-leb _ _ (le_trans (leb-true _ _ h) (mul-le-mul_right (10000 - ratios) more))

module _ (mixed : Bool) (ratios lost : ℕ) where
  -- 181 stands for none up to 180
  pub first_length_range : Between 1 no_cycle (first_length mixed ratios lost)
  unfolding first_length
  first_length_range = first_range (long_enough mixed ratios lost) no_cycle 1 (omega arith)

  pub first_length_least : (t : ℕ) → Between 1 most_seconds t → (first_length mixed ratios lost ≤ t) ↔ (long_enough mixed ratios lost t ≡ true)
  unfolding first_length
  first_length_least t b = (
    λ h. long_enough_stays mixed ratios lost _ t h (first_passes (long_enough mixed ratios lost) no_cycle 1 (omega arith) (omega arith)),
    λ h. by_test (leb (first_length mixed ratios lost) t) (λ e. leb-true _ _ e)
        (λ e. absurd (false≢true (sym (first_fails (long_enough mixed ratios lost) no_cycle 1 t b.0 (leb-false _ _ e)) ∙ h))),
  )
