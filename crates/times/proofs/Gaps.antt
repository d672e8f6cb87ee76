-- The least gap decides which gaps are enough, since the comparison stays true at every larger gap.
use Rattle.std.specs.Prelude.{ℕ, ◌<◌, ◌≡◌, leb}
use Rattle.std.proofs.Common.{zero-le, ◌∙◌, sym, leb-true, leb-false}
use Rattle.laws.proofs.Search.{first_decides, first_passes, first_fails}
use Rattle.laws.specs.Tests.{by_test}
use Rattle.times.specs.declared.Time.{Time}
use Rattle.times.specs.Comparison.{within}
use Rattle.times.proofs.Monotone.{within_stays}
use Rattle.times.specs.Entry.{least_gap}

-- Rounding up, for the general comparison: a gap below 65,535 is enough exactly where it is at least the least gap ..
pub gap_decides : (leave reach : Time) (gap : ℕ) → gap < 65535 → within leave reach gap ≡ leb (least_gap leave reach) gap
unfolding least_gap
gap_decides leave reach gap low = first_decides (within leave reach) (within_stays leave reach) 65535 gap low

-- .. and every gap is, where the least gap is below 65,535.
pub gap_least : (leave reach : Time) → least_gap leave reach < 65535 → (gap : ℕ) → within leave reach gap ≡ leb (least_gap leave reach) gap
unfolding least_gap
gap_least leave reach low gap =
    by_test (leb (least_gap leave reach) gap)
    (λ e. within_stays leave reach _ gap (leb-true _ _ e) (first_passes (within leave reach) 65535 0 zero-le low) ∙ sym e)
    (λ e. first_fails (within leave reach) 65535 0 gap zero-le (leb-false _ _ e) ∙ sym e)
