-- Of a junction's counts nothing but each stream's newest rank decides: a junction with other counts, by which each stream has the same newest
-- rank, has the same figures, is judged alike and is worked out alike.
use Prim.Native.Nat.{ℕ, ◌+◌}
use Rattle.std.proofs.Math.Bool.{cond}
use Rattle.std.specs.Prelude.{List, ◌≡◌, length, replicate}
use Rattle.std.proofs.Math.Path.{refl, ap, fun_ext}
use Rattle.laws.specs.Filled.{filled}
use Rattle.laws.proofs.Largest.{largest_same}
use Rattle.laws.proofs.Search.{first_same}
use Rattle.limits.specs.Limits.{most_phases, no_cycle}
use Rattle.counts.specs.Newest.{rank_flow}
use Rattle.counts.specs.declared.Count.{Count}
use Rattle.fields.specs.Verdict.{ask_each, each_same}
use Rattle.junction.specs.declared.Junction.{Junction}
use Rattle.junction_places.specs.Places.{stream_at, stream_numbered, zone_at, zone_numbered}
use Rattle.junction_places.specs.Ranks.{newest_rank}
use Rattle.junction_figures.specs.Figures.{zone_entry, pair_entry, stream_need, stream_flow, stream_saturation, stream_ratio}
use Rattle.phase_lengths.specs.Phases.{no_phase}
use Rattle.phase_lengths.specs.declared.Phase.{Phase}
use Rattle.junction_phases.specs.JunctionPhases.{is_in, car_in, has_cars, phase_ratio, phase_need, phase_count, has_pedestrian_or_tram, next_phase, entry_between, phase_entry, intergreen, phase_at, phases_at}
use Rattle.plan_file.specs.declared.Plan.{Plan}
use Rattle.plan_file.specs.Plans.{plan_of}
use Rattle.plan_rules.specs.Rules.{need_met, capacity_met, zone_met, rules_verdict}
use Rattle.plan_judge.specs.Judgement.{plan_judgement}
use Rattle.delays.specs.Answer.{stream_figures}
use Rattle.cycle_search.specs.Planning.{ratios, first_tried, plan_at, outcome, works, cycle_from, cycle, found}
use Rattle.planner.specs.WorkingOut.{junction_verdict, junction_worked, junction_buffer}

-- a junction with other counts; its last tag may be another, since it may have none
abbrev pub recounted : Junction → ℕ → ℕ → List Count → Junction
recounted j last many counts =
    record {
      day = j.day;
      period = j.period;
      held = record { last = last; streams = j.held.streams; zones = j.held.zones; counts = many };
      streams = j.streams;
      zones = j.zones;
      counts = counts;
    }

module _ (j : Junction) (last many : ℕ) (counts : List Count) (same : (n : ℕ) → newest_rank (recounted j last many counts) n ≡ newest_rank j n) where
  abbrev k : Junction
  k = recounted j last many counts

  pub flow_same : (n : ℕ) → stream_flow k n ≡ stream_flow j n
  unfolding stream_flow
  flow_same n = ap rank_flow (same n)

  pub entry_same : (n m : ℕ) → pair_entry k n m ≡ pair_entry j n m
  unfolding pair_entry zone_entry zone_at stream_numbered stream_at
  entry_same n m = refl

  pub need_same : (n t : ℕ) → stream_need k n t ≡ stream_need j n t
  unfolding stream_need stream_numbered stream_at
  need_same n t = refl

  pub saturation_same : (n : ℕ) → stream_saturation k n ≡ stream_saturation j n
  unfolding stream_saturation stream_numbered stream_at
  saturation_same n = refl

  pub ratio_same : (n : ℕ) → stream_ratio k n ≡ stream_ratio j n
  unfolding stream_ratio
  ratio_same n = rw (flow_same n, saturation_same n)

  -- the rules
  capacity_same : (p : Plan) (n : ℕ) → capacity_met k p n ≡ capacity_met j p n
  unfolding capacity_met stream_numbered stream_at
  capacity_same p n = rw (flow_same n, saturation_same n)

  rules_same : (p : Plan) → rules_verdict k p ≡ rules_verdict j p
  unfolding rules_verdict need_met zone_met pair_entry zone_entry zone_numbered zone_at stream_numbered stream_at
  rules_same p =
      ap (ask_each (need_met j p) 15 j.held.streams)
      (each_same (capacity_met k p) (capacity_met j p) 16 j.held.streams _ (λ n w. capacity_same p n))

  pub judged_same : (plan : List ℕ) → plan_judgement k plan ≡ plan_judgement j plan
  unfolding plan_judgement
  judged_same plan = rw (rules_same (plan_of plan))

  pub figures_same : (p : Plan) (n : ℕ) → stream_figures k p n ≡ stream_figures j p n
  unfolding stream_figures
  figures_same p n = rw (flow_same n, saturation_same n)

  -- the phases
  phase_ratio_same : (f : ℕ) → phase_ratio k f ≡ phase_ratio j f
  unfolding phase_ratio car_in is_in stream_numbered stream_at
  phase_ratio_same f =
      largest_same (λ i. cond (car_in k f (i + 1)) (stream_ratio k (i + 1)) 0) (λ i. cond (car_in j f (i + 1)) (stream_ratio j (i + 1)) 0) j.held.streams
      (λ i low. ap (λ y. cond (car_in j f (i + 1)) y 0) (ratio_same (i + 1)))

  phase_same : (t i : ℕ) → phase_at k t i ≡ phase_at j t i
  unfolding phase_at has_cars car_in is_in intergreen phase_entry entry_between next_phase phase_count phase_need stream_need pair_entry zone_entry zone_at stream_numbered stream_at
  phase_same t i =
      ap (λ (y : ℕ). record { cars = has_cars j (i + 1); ratio = y; intergreen = intergreen j (i + 1); need = phase_need j (i + 1) t }) (phase_ratio_same (i + 1))

  phases_same : (t : ℕ) → phases_at k t ≡ phases_at j t
  unfolding phases_at phase_count stream_numbered stream_at
  phases_same t =
      ap (λ (each : ℕ → Phase). record { count = phase_count j; of = filled each (replicate most_phases no_phase) (phase_count j) }) (fun_ext (phase_same t))

  -- the search
  ratios_same : ratios k ≡ ratios j
  unfolding ratios
  ratios_same = rw (phases_same 0)

  first_tried_same : first_tried k ≡ first_tried j
  unfolding first_tried has_pedestrian_or_tram stream_numbered stream_at
  first_tried_same = rw (ratios_same, phases_same 0)

  plan_same : (t : ℕ) → plan_at k t ≡ plan_at j t
  unfolding plan_at stream_numbered stream_at
  plan_same t = rw (phases_same t)

  works_same : (t : ℕ) → works k t ≡ works j t
  unfolding works outcome
  works_same t = rw (phases_same t, plan_same t, rules_same (plan_at j t))

  cycle_from_same : (first : ℕ) → cycle_from k first ≡ cycle_from j first
  unfolding cycle_from
  cycle_from_same first = first_same (works k) (works j) no_cycle first (λ t low high. works_same t)

  cycle_same : cycle k ≡ cycle j
  unfolding cycle
  cycle_same = rw (first_tried_same, cycle_from_same (first_tried j))

  found_same : (first : ℕ) → found k first ≡ found j first
  unfolding found
  found_same first = rw (cycle_from_same first, plan_same (cycle_from j first))

  -- the calculation
  verdict_same : (size : ℕ) → junction_verdict k size ≡ junction_verdict j size
  unfolding junction_verdict
  verdict_same size = rw (ratios_same, cycle_same)

  pub worked_same : (size : ℕ) → junction_worked k size ≡ junction_worked j size
  unfolding junction_worked
  worked_same size = rw (verdict_same size, first_tried_same, found_same (first_tried j))

  pub buffer_same : (lent : List ℕ) → junction_buffer k lent ≡ junction_buffer j lent
  unfolding junction_buffer
  buffer_same lent = rw (verdict_same (length lent), cycle_same, plan_same (cycle j))
