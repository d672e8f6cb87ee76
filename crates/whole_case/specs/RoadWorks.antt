-- Portable signals, computed through the definitions: a stretch of 100 m at 30 km/h with its waiting lengths at and above the needed ones; the one
-- place of the table where M by the rounded t would be another; and each refusal.
use Rattle.fields.specs.Verdict.{Refused}
use Rattle.std.specs.Prelude.{ℕ, ◌≡◌, refl, Ok}
use Rattle.laws.specs.Search.{first_of, first_below}
use Rattle.stretches.specs.Table.{table, by_steps, listed, entry}
use Rattle.phase_lengths.specs.Phases.{lost_time}
use Rattle.plan_rules.specs.Rules.{enough_capacity, off, zone_clear}
use Rattle.roadworks.specs.Roadworks.{in_range, intergreen, phases_of, first_tried, rules_kept, works, cycle_from, cycle_of, enough_waiting, later_verdict, portable_verdict, timing, unless, portable}
use Rattle.roadworks.specs.declared.Approach.{Approach}
use Rattle.roadworks.specs.declared.Timing.{Timing}
use Rattle.worked_values.specs.Computed.{to_flows, to_phases}

approach : ℕ → ℕ → ℕ → Approach
approach flow saturation waiting = record { flow = flow; saturation = saturation; waiting = waiting }

-- t and L in tenths, the cycle, and each approach's start and length
signals : ℕ → ℕ → ℕ → ℕ → ℕ → ℕ → ℕ → Timing
signals t l cycle a g b h =
    record {
      table = record { clearing = t; lost = l };
      cycle = cycle;
      greens = record { first = record { start = a; length = g }; second = record { start = b; length = h } };
    }

unfoldable to_signal : Unit {0}
unfolding approach signals to_flows to_phases first_of first_below table entry by_steps listed lost_time enough_capacity off zone_clear
    in_range intergreen phases_of first_tried rules_kept works cycle_from cycle_of enough_waiting later_verdict portable_verdict timing unless portable
to_signal = tt

-- 400 × 99/600 is 66 m, and 380 × 99/600 is 62.7 m
answered : portable 100 30 (approach 400 1800 67) (approach 380 1800 63) ≡ Ok (signals 144 328 99 0 33 51 30)
unfolding to_signal
answered = refl

first_waiting : portable 100 30 (approach 400 1800 66) (approach 380 1800 63) ≡ Refused 27 0
unfolding to_signal
first_waiting = refl

second_waiting : portable 100 30 (approach 400 1800 67) (approach 380 1800 62) ≡ Refused 27 0
unfolding to_signal
second_waiting = refl

-- t is 23.04 s, in the table 23.0: M is 27
unrounded : portable 140 25 (approach 200 1800 100) (approach 200 1800 100) ≡ Ok (signals 230 501 107 0 27 54 26)
unfolding to_signal
unrounded = refl

-- t is 9.0 s and M 12; of 36 s each has 18, and none is left over
none_left : portable 80 40 (approach 300 1800 30) (approach 300 1800 30) ≡ Ok (signals 90 220 58 0 17 29 17)
unfolding to_signal
none_left = refl

-- a stretch between two of the table; a flow above 9,999; flow ratios of one half each; an optimum of 180 s, and of 181 s
between : portable 95 30 (approach 0 1800 100) (approach 380 1800 100) ≡ Refused 25 0
unfolding to_signal
between = refl

above : portable 100 30 (approach 10000 1800 100) (approach 380 1800 100) ≡ Refused 26 0
unfolding to_signal
above = refl

halves : portable 100 30 (approach 900 1800 1000) (approach 900 1800 1000) ≡ Refused 21 0
unfolding to_signal
halves = refl

longest : portable 300 25 (approach 140 1800 100) (approach 139 1800 100) ≡ Ok (signals 461 962 180 0 41 91 39)
unfolding to_signal
longest = refl

too_long : portable 300 25 (approach 140 1800 100) (approach 140 1800 100) ≡ Refused 22 0
unfolding to_signal
too_long = refl
