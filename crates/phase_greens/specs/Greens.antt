-- What a length of the cycle gives each phase, in the order of document 01, "Working out a plan". Sums go over six places; those after the
-- last phase are empty and add nothing.
use Rattle.std.specs.Prelude.{ℕ, ◌+◌, ◌-◌, ◌*◌, ◌/◌, Bool, ◌&&◌, cond, leb, ltb, eqb}
use Rattle.laws.specs.Search.{first_below}
use Rattle.laws.specs.Sums.{sum_of}
use Rattle.limits.specs.Limits.{most_phases}
use Rattle.phase_lengths.specs.Phases.{phase, ratio_sum, lost_time}
use Rattle.phase_lengths.specs.declared.Phase.{Phase}
use Rattle.phase_lengths.specs.declared.Phases.{Phases}
use Rattle.phase_greens.specs.declared.Sharing.{Sharing}

-- effective green y(T - L)/Y rounded down (34), with the seconds T - L and the sum of ratios Y
unfoldable pub share : ℕ → ℕ → ℕ → ℕ
share ratio seconds ratios = cond (eqb ratios 0) 0 (ratio * seconds / ratios)

-- the sum of the phases' shares
unfoldable pub shares : Phases → ℕ → ℕ → ℕ
shares q seconds ratios = sum_of (λ i. share (phase q i).ratio seconds ratios) most_phases

-- for a length T: the seconds T - L, Y, and the seconds left over after rounding down
unfoldable pub sharing : Phases → ℕ → Sharing
sharing q t =
    record {
      seconds = t - lost_time q;
      ratios = ratio_sum q;
      left = t - lost_time q - shares q (t - lost_time q) (ratio_sum q);
    }

-- seconds left over go one each to phases with cars, lowest number first
unfoldable pub cars_before : Phases → ℕ → ℕ
cars_before q i = sum_of (λ k. cond (phase q k).cars 1 0) i

unfoldable pub extra : ℕ → ℕ → ℕ
extra before left = cond (ltb before left) 1 0

-- green is effective - 1 (36); other phases have their need
abbrev pub green_by : Phase → Sharing → ℕ → ℕ
green_by p s before = cond p.cars (share p.ratio s.seconds s.ratios + extra before s.left - 1) p.need

unfoldable pub green_at : Phases → Sharing → ℕ → ℕ
green_at q s i = green_by (phase q i) s (cars_before q i)

-- phase 1 starts at 0, each next after green + M
unfoldable pub start_at : Phases → Sharing → ℕ → ℕ
start_at q s n = sum_of (λ i. green_at q s i + (phase q i).intergreen) n

-- the first place of a phase whose green is below 1; the number of phases where none is
unfoldable pub first_below_one : Phases → Sharing → ℕ
first_below_one q s = first_below (λ i. ltb (green_at q s i) 1) q.count 0

-- a length fails if it is below L or a green is below 1
unfoldable pub gives_greens : Phases → ℕ → Bool
gives_greens q t = leb (lost_time q) t && leb q.count (first_below_one q (sharing q t))
