-- Portable signals for road works: one narrowed stretch, one lane for both directions, an approach at each end (document 02, 2026-07; annex, part
-- B), in the order of the request.
use Rattle.fields.specs.declared.Refusal.{Refusal}
use Rattle.std.specs.Prelude.{ℕ, ◌+◌, ◌*◌, Bool, true, false, ◌&&◌, [], ◌∷◌, leb, ltb, Result, Ok, Err}
use Rattle.laws.specs.Rounding.{up}
use Rattle.laws.specs.Search.{first_below}
use Rattle.limits.specs.Limits.{no_cycle, least_flow, greatest_flow}
use Rattle.flows.specs.Needs.{car_need}
use Rattle.flows.specs.Saturation.{flow_ratio}
use Rattle.stretches.specs.Table.{listed, clearing_length, table_times}
use Rattle.stretches.specs.declared.TableTimes.{TableTimes}
use Rattle.fields.specs.Verdict.{ask, Verdict, Passed, answered}
use Rattle.junction_tables.specs.declared.Load.{Load}
use Rattle.phase_lengths.specs.Phases.{no_phase, ratio_sum, lost_time, first_length}
use Rattle.phase_lengths.specs.declared.Phase.{Phase}
use Rattle.phase_lengths.specs.declared.Phases.{Phases}
use Rattle.phase_greens.specs.Greens.{sharing, gives_greens}
use Rattle.phase_greens.specs.Slots.{slot_at}
use Rattle.plan_file.specs.Plans.{no_green}
use Rattle.plan_file.specs.declared.Green.{Green}
use Rattle.plan_rules.specs.Rules.{enough_capacity, zone_clear}
use Rattle.cycle_search.specs.Planning.{slot_green}
use Rattle.roadworks.specs.declared.Approach.{Approach}
use Rattle.roadworks.specs.declared.Asked.{Asked}
use Rattle.roadworks.specs.declared.Greens.{Greens}
use Rattle.roadworks.specs.declared.Timing.{Timing}

-- 26: is each flow and each S from 1 to 9,999?
abbrev pub hourly : ℕ → Bool
hourly flow = leb least_flow flow && leb flow greatest_flow

unfoldable pub in_range : Approach → Bool
in_range a = hourly a.flow && hourly a.saturation

-- M for both directions (19): 3 s (1) and the unrounded t, 3.6 × clearing length/speed (6), rounded up once; the reaching time is 0
unfoldable pub intergreen : ℕ → ℕ → ℕ
intergreen stretch speed = up (36 * clearing_length stretch + 30 * speed) (10 * speed)

-- flow and S of an approach, and what both ask of a plan
abbrev pub load_of : Approach → Load
load_of a = record { flow = a.flow; saturation = a.saturation }

abbrev pub asked_of : ℕ → ℕ → Approach → Approach → Asked
asked_of stretch speed a b = record { intergreen = intergreen stretch speed; first = load_of a; second = load_of b }

-- each approach is a phase of cars, with its flow ratio y (29) and M toward the other
abbrev pub approach_phase : ℕ → Load → Phase
approach_phase m l = record { cars = true; ratio = flow_ratio l.flow l.saturation; intergreen = m; need = car_need }

unfoldable pub phases_of : Asked → Phases
phases_of w =
    record {
      count = 2;
      of = approach_phase w.intergreen w.first ∷ approach_phase w.intergreen w.second ∷ no_phase ∷ no_phase ∷ no_phase ∷ no_phase ∷ [];
    }

-- T0, by (32), never (33); the planner's L, by (30) and (31), is then 2 × (M - 1)
unfoldable pub first_tried : Asked → ℕ
first_tried w = first_length false (ratio_sum (phases_of w)) (lost_time (phases_of w))

-- the greens of the two phases at a length T, as the planner gives them, (34) and (36): the first starts at 0
abbrev pub greens_at : Phases → ℕ → Greens
greens_at q t = record { first = slot_green (slot_at q (sharing q t) 0); second = slot_green (slot_at q (sharing q t) 1) }

-- at a length T, an approach's green is at least the need (38), and flow × T at most S × (length + 1)
abbrev pub served : Load → Green → ℕ → Bool
served l green t = leb car_need green.length && enough_capacity l.flow t l.saturation green.length

-- the rules of need, capacity and the zone, which is the stretch, with M as both entries
unfoldable pub rules_kept : Asked → Greens → ℕ → Bool
rules_kept w g t =
    served w.first g.first t && served w.second g.second t && zone_clear t g.first g.second w.intergreen w.intergreen

-- T fails if T is below L, a green is below 1, or a rule is broken
unfoldable pub works : Asked → ℕ → Bool
works w t = gives_greens (phases_of w) t && rules_kept w (greens_at (phases_of w) t) t

-- the least length from the first on to 180 that does not fail, 181 where each does
unfoldable pub cycle_from : Asked → ℕ → ℕ
cycle_from w first = first_below (works w) no_cycle first

unfoldable pub cycle_of : Asked → ℕ
cycle_of w = cycle_from w (first_tried w)

-- 27: is the available waiting length above the needed one, flow × C/600 m (71)?
unfoldable pub enough_waiting : Approach → ℕ → Bool
enough_waiting a cycle = ltb (a.flow * cycle) (600 * a.waiting)

-- the questions, each at place 0: 21, 22 and 27 come after 25 and 26
unfoldable pub later_verdict : Asked → Approach → Approach → Verdict
later_verdict w a b =
    ask (ltb (ratio_sum (phases_of w)) 10000) 21 0
    (ask (ltb (cycle_of w) no_cycle) 22 0
    (ask (enough_waiting a (cycle_of w) && enough_waiting b (cycle_of w)) 27 0 Passed))

unfoldable pub portable_verdict : ℕ → ℕ → Approach → Approach → Verdict
portable_verdict stretch speed a b =
    ask (listed stretch speed) 25 0
    (ask (in_range a && in_range b) 26 0
    (later_verdict (asked_of stretch speed a b) a b))

-- the table's t and L, the cycle, and each approach's start and length
abbrev pub timing_at : TableTimes → Phases → ℕ → Timing
timing_at table q t = record { table = table; cycle = t; greens = greens_at q t }

unfoldable pub timing : ℕ → ℕ → Approach → Approach → Timing
timing stretch speed a b =
    timing_at (table_times stretch speed) (phases_of (asked_of stretch speed a b)) (cycle_of (asked_of stretch speed a b))

-- a refusal, or the signals
abbrev pub Portable : Type 0
Portable = Result Timing Refusal

unfoldable pub unless : Verdict → Timing → Portable
unless v x = answered v x

unfoldable pub timed : ℕ → ℕ → Approach → Approach → Portable
timed stretch speed a b = unless (later_verdict (asked_of stretch speed a b) a b) (timing stretch speed a b)

unfoldable pub portable : ℕ → ℕ → Approach → Approach → Portable
portable stretch speed a b = unless (portable_verdict stretch speed a b) (timing stretch speed a b)

-- the paper's number and place of a refusal, 0 where nothing is refused
unfoldable pub refusal : Portable → ℕ
refusal (Err r) = r.number
refusal (Ok x) = 0

unfoldable pub refused_at : Portable → ℕ
refused_at (Err r) = r.place
refused_at (Ok x) = 0

-- the figures, each 0 where something is refused
abbrev pub no_timing : Timing
no_timing = record { table = record { clearing = 0; lost = 0 }; cycle = 0; greens = record { first = no_green; second = no_green } }

unfoldable pub figures : Portable → Timing
figures (Err r) = no_timing
figures (Ok x) = x
