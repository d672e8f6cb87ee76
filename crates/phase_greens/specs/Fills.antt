-- Phases as a junction has them, and what each gets of a cycle: its share, and of the seconds left over one each.
use Prim.Native.Nat.{ℕ, ◌+◌, ◌-◌, ◌≤◌, ◌<◌, min}
use native.Mathlib.Omega.{arith}
use Rattle.std.specs.Prelude.{false, cond, ◌≡◌}
use Rattle.laws.specs.Shares.{one_each}
use Rattle.laws.specs.Sums.{sum_of, sum_next}
use Rattle.limits.specs.Limits.{most_phases}
use Rattle.phase_lengths.specs.declared.Phases.{Phases}
use Rattle.phase_lengths.specs.Phases.{no_phase, phase, ratio_sum, lost_time}
use Rattle.phase_greens.specs.declared.Sharing.{Sharing}
use Rattle.phase_greens.specs.Greens.{share, cars_before, extra, green_at, start_at}

-- phases as a junction has them
pub record Right (q : Phases) : Type 0 where
  pub few : q.count ≤ most_phases
  -- a phase without cars has no flow ratio
  pub plain : (i : ℕ) → (phase q i).cars ≡ false → (phase q i).ratio ≡ 0
  -- M is at least 1
  pub between : (i : ℕ) → i < q.count → 1 ≤ (phase q i).intergreen
  -- the places after the last are empty
  pub none : (i : ℕ) → q.count ≤ i → phase q i ≡ no_phase
  pub some : 0 < ratio_sum q

-- each phase but the first starts after green and intergreen of the one before
module _ (q : Phases) (s : Sharing) where
  pub phase_follows_lem : (i : ℕ) → start_at q s (i + 1) ≡ start_at q s i + green_at q s i + (phase q i).intergreen
  unfolding start_at
  phase_follows_lem i = omega (arith, sum_next (λ k. green_at q s k + (phase q k).intergreen) i)

-- what the phase at a place gets of the seconds left over
abbrev pub given : Phases → ℕ → ℕ → ℕ
given q left i = cond (phase q i).cars (extra (cars_before q i) left) 0

-- they go one each to phases with cars: all of them, where there are at least as many such phases
pub extras : (q : Phases) (left n : ℕ) → sum_of (given q left) n ≡ min (cars_before q n) left
unfolding extra cars_before
extras q left n = one_each (λ i. (phase q i).cars) left n

-- 1 for a phase with cars
abbrev pub counted : Phases → ℕ → ℕ
counted q i = cond (phase q i).cars 1 0

-- the share of the phase at a place, at a length
abbrev pub shared : Phases → ℕ → ℕ → ℕ
shared q t i = share (phase q i).ratio (t - lost_time q) (ratio_sum q)
