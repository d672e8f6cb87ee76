-- The phases' lost time, flow ratios and first length, in the order of document 01, "Working out a plan". Sums go over six places; those after
-- the last phase are empty and add nothing.
use Rattle.std.specs.Prelude.{ℕ, ◌+◌, ◌-◌, ◌*◌, Bool, false, cond, leb, ltb, get_or}
use Rattle.laws.specs.Search.{first_below}
use Rattle.laws.specs.Sums.{sum_of}
use Rattle.phase_lengths.specs.declared.Phase.{Phase}
use Rattle.phase_lengths.specs.declared.Phases.{Phases}
use Rattle.phase_lengths.specs.declared.Sums.{Sums}
use Rattle.limits.specs.Limits.{most_phases, no_cycle}

abbrev pub no_phase : Phase
no_phase = record { cars = false; ratio = 0; intergreen = 0; need = 0 }

-- the phase at a place, from 0
unfoldable pub phase : Phases → ℕ → Phase
phase q i = cond (ltb i most_phases) (get_or q.of i no_phase) no_phase

-- the time lost to a phase: M - 1 with cars (30), need + M for others
unfoldable pub lost : Phase → ℕ
lost p = cond p.cars (p.intergreen - 1) (p.need + p.intergreen)

-- Y
unfoldable pub ratio_sum : Phases → ℕ
ratio_sum q = sum_of (λ i. (phase q i).ratio) most_phases

-- L (31)
unfoldable pub lost_time : Phases → ℕ
lost_time q = sum_of (λ i. lost (phase q i)) most_phases

abbrev pub sums_of : Phases → Sums
sums_of q = record { ratios = ratio_sum q; lost = lost_time q }

-- a length that is at least the optimum: with pedestrians or trams, T² × (10,000 - Y) at least 1,200,000 × L (33); otherwise
-- T × (10,000 - Y) at least 15,000 × L + 50,000 (32)
unfoldable pub long_enough : Bool → ℕ → ℕ → ℕ → Bool
long_enough mixed ratios lost t =
    cond mixed (leb (1200000 * lost) (t * t * (10000 - ratios))) (leb (15000 * lost + 50000) (t * (10000 - ratios)))

-- T0: the least such length, from 1 on; 181 where none up to 180 is
unfoldable pub first_length : Bool → ℕ → ℕ → ℕ
first_length mixed ratios lost = first_below (long_enough mixed ratios lost) no_cycle 1
