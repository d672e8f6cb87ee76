-- Portable signals for road works (document 02, 2026-07), as the C library answers them: each refusal exactly, the least cycle, and what the signals
-- mean for every number of cycles.
--
-- `portable_answer` is what `givendra_portable` is proved to answer. `asked_of` has M, and flow and S of both approaches; `first_tried` is T0; `greens_at`
-- are the greens that the planner's steps give at a length, and `works` says that a length gives greens which keep the rules
-- (roadworks/specs/Roadworks.antt); `Signals` is the meaning (roadworks/specs/Meaning.antt).
use Rattle.std.specs.Prelude.{ℕ, ◌+◌, ◌-◌, ◌*◌, ◌≤◌, ◌<◌, true, false, ◌&&◌, cond, List, ◌↔◌, ◌≡◌, refl, length, Ok, Err, Some}
use Rattle.std.proofs.Common.{arith, ◌∙◌, ap}
use Rattle.laws.specs.Ranges.{Between}
use Rattle.laws.specs.Tests.{both_left, both_right}
use Rattle.limits.specs.Limits.{most_seconds, no_cycle}
use Rattle.fields.specs.Verdict.{number_of, is_refused, Verdict, Passed, Refused}
use Rattle.decimals.specs.Decimals.{most_decimal, value_of, counted, decimal_of, number_is as decimal_is}
use Rattle.stretches.specs.Table.{listed, clearing_length, table_t, table_l, table_times}
use Rattle.phase_lengths.specs.Phases.{ratio_sum}
use Rattle.roadworks.proofs.Answered.{signals, first_tried_least}
use Rattle.roadworks.proofs.Approaches.{intergreen_least, phases_right_lem}
use Rattle.roadworks.proofs.Cycle.{none_before}
use Rattle.roadworks.proofs.Large.{most_answered}
use Rattle.roadworks.specs.Meaning.{Enough, Signals}
use Rattle.roadworks.specs.Refused.{GivenRight, BelowOne}
use Rattle.roadworks.proofs.RefusedLaws.{refused_25, refused_26, refused_21, refused_22, refused_27, portable_passed, unless_number, unless_figures}
use Rattle.roadworks.specs.Roadworks.{in_range, intergreen, asked_of, phases_of, first_tried, greens_at, works, cycle_of, enough_waiting, portable_verdict, timing_at, timing, portable, no_timing}
use Rattle.roadworks.proofs.Works.{works_exact}
use Rattle.roadworks.specs.declared.Approach.{Approach}
use Rattle.roadworks.specs.declared.Timing.{Timing}
use Rattle.givendra.specs.Answers.{portable_answer}
use Rattle.givendra.specs.declared.PortableAnswer.{PortableAnswer}
use Rattle.demands.specs.Places.{PortablePlace, not_listed, out_of_range, too_much, no_length, waiting_short}
use Rattle.demands.specs.lemmas.Entries.{numbered_refused}
use Rattle.demands.specs.lemmas.Library.{portable_some, portable_told}
use Rattle.demands.specs.lemmas.Told.{Told}

-- the figures of an answer
abbrev pub answered_timing : PortableAnswer → Timing
answered_timing r =
    record {
      table = record { clearing = r.clearing_time; lost = r.lost_time };
      cycle = r.cycle;
      greens =
          record {
            first = record { start = r.first_start; length = r.first_length };
            second = record { start = r.second_start; length = r.second_length };
          };
    }

-- of every stretch, speed and two approaches
pub record PortableExact (stretch speed : ℕ) (a b : Approach) : Type 0 where
  pub not_listed : ((portable_answer stretch speed a b).refusal ≡ 25) ↔ (listed stretch speed ≡ false)
  pub out_of_range : ((portable_answer stretch speed a b).refusal ≡ 26) ↔ ((listed stretch speed ≡ true) × ((in_range a && in_range b) ≡ false))
  -- 21 where neither is, and the rounded flow ratios sum to one or more
  pub ratios_sum : ((portable_answer stretch speed a b).refusal ≡ 21) ↔ (GivenRight stretch speed a b × (10000 ≤ ratio_sum (phases_of (asked_of stretch speed a b))))
  -- 22 where they do not, and no length from T0 to 180 works
  pub no_length : ((portable_answer stretch speed a b).refusal ≡ 22)
      ↔ (BelowOne stretch speed a b
      × ((t : ℕ) → Between (first_tried (asked_of stretch speed a b)) most_seconds t → works (asked_of stretch speed a b) t ≡ false))
  -- 27 where some length does, and at the least of these a waiting length is not above the needed one
  pub waiting_short : ((portable_answer stretch speed a b).refusal ≡ 27)
      ↔ (BelowOne stretch speed a b × (cycle_of (asked_of stretch speed a b) < no_cycle)
      × ((enough_waiting a (cycle_of (asked_of stretch speed a b)) && enough_waiting b (cycle_of (asked_of stretch speed a b))) ≡ false))
  -- otherwise there are signals
  pub unrefused : ((portable_answer stretch speed a b).refusal ≡ 0)
      ↔ (BelowOne stretch speed a b × (cycle_of (asked_of stretch speed a b) < no_cycle)
      × ((enough_waiting a (cycle_of (asked_of stretch speed a b)) && enough_waiting b (cycle_of (asked_of stretch speed a b))) ≡ true))
  pub meant : (portable_answer stretch speed a b).refusal ≡ 0 → Signals stretch speed a b (answered_timing (portable_answer stretch speed a b))
  -- their cycle is the least length from T0 on that works
  pub least : (portable_answer stretch speed a b).refusal ≡ 0 → (t : ℕ) → first_tried (asked_of stretch speed a b) ≤ t → t < (portable_answer stretch speed a b).cycle
      → works (asked_of stretch speed a b) t ≡ false
  -- the answered t and L are the table's, and the greens those of the planner's steps at the cycle
  pub tabled : (portable_answer stretch speed a b).refusal ≡ 0
      → ((portable_answer stretch speed a b).clearing_time ≡ table_t stretch speed) × ((portable_answer stretch speed a b).lost_time ≡ table_l stretch speed)
  pub planned : (portable_answer stretch speed a b).refusal ≡ 0
      → (answered_timing (portable_answer stretch speed a b)).greens ≡ greens_at (phases_of (asked_of stretch speed a b)) (portable_answer stretch speed a b).cycle
  -- a length works exactly where it is at least L, each approach has 8 s or more, and flow × T is at most S × (length + 1) of each
  pub working : GivenRight stretch speed a b → (t : ℕ)
      → (works (asked_of stretch speed a b) t ≡ true)
      ↔ ((2 * (intergreen stretch speed - 1) ≤ t)
      × Enough a (greens_at (phases_of (asked_of stretch speed a b)) t).first t × Enough b (greens_at (phases_of (asked_of stretch speed a b)) t).second t)
  -- T0 is the least length for which T × (10,000 - Y) is at least 15,000 × L + 50,000, with L = 2 × (M - 1) (32); M the least whole number that is
  -- not below 3 + 3.6 × clearing length/speed
  pub optimum : (t : ℕ) → Between 1 most_seconds t
      → (first_tried (asked_of stretch speed a b) ≤ t)
      ↔ (15000 * (2 * (intergreen stretch speed - 1)) + 50000 ≤ t * (10000 - ratio_sum (phases_of (asked_of stretch speed a b))))
  pub intergreens : listed stretch speed ≡ true → (k : ℕ)
      → (intergreen stretch speed ≤ k) ↔ (36 * clearing_length stretch + 30 * speed ≤ k * (10 * speed))
  -- where something is refused, every figure is 0
  pub nothing : 1 ≤ (portable_answer stretch speed a b).refusal → answered_timing (portable_answer stretch speed a b) ≡ no_timing

place_zero : (n p : ℕ) → PortablePlace n p → p ≡ 0
place_zero n p not_listed = refl
place_zero n p out_of_range = refl
place_zero n p too_much = refl
place_zero n p no_length = refl
place_zero n p waiting_short = refl

-- a refusal's number says it all, since its place is 0
number_says : (v : Verdict) → Told PortablePlace v → (n : ℕ) → 1 ≤ n → (number_of v ≡ n) ↔ (v ≡ Refused n 0)
number_says (Ok u) told n some = (λ e. absurd (omega arith), λ e. ap number_of e)
number_says (Err r) told n some = (λ e. rw (e, place_zero r.number r.place told), λ e. ap number_of e)

none_says : (v : Verdict) → Told PortablePlace v → (number_of v ≡ 0) ↔ (v ≡ Passed)
none_says (Ok u) told = (λ e. refl, λ e. refl)
none_says (Err r) told = (λ e. absurd (omega (arith, portable_some r.number r.place told)), λ e. ap number_of e)

through : {A B C : Type 0} → A ↔ B → B ↔ C → A ↔ C
through f g = (λ x. g.0 (f.0 x), λ x. f.1 (g.1 x))

module _ (stretch speed : ℕ) (a b : Approach) where
  abbrev v : Verdict
  v = portable_verdict stretch speed a b

  number_is : (portable_answer stretch speed a b).refusal ≡ number_of v
  unfolding portable_answer portable
  number_is = (unless_number v (timing stretch speed a b)).0

  figures_are : answered_timing (portable_answer stretch speed a b) ≡ cond (is_refused v) no_timing (timing stretch speed a b)
  unfolding portable_answer portable
  figures_are = unless_figures v (timing stretch speed a b)

  refusal_says : (n : ℕ) → 1 ≤ n → ((portable_answer stretch speed a b).refusal ≡ n) ↔ (v ≡ Refused n 0)
  refusal_says n some = rw number_is (number_says v (portable_told stretch speed a b) n some)

  passed_says : ((portable_answer stretch speed a b).refusal ≡ 0) ↔ (v ≡ Passed)
  passed_says = rw number_is (none_says v (portable_told stretch speed a b))

  -- the figures where nothing is refused
  answered : (portable_answer stretch speed a b).refusal ≡ 0 → answered_timing (portable_answer stretch speed a b) ≡ timing stretch speed a b
  answered e = figures_are ∙ rw (passed_says.0 e)

  refused_figures : 1 ≤ (portable_answer stretch speed a b).refusal → answered_timing (portable_answer stretch speed a b) ≡ no_timing
  refused_figures some =
      let h : 1 ≤ number_of v = rw number_is at some in
      figures_are ∙ rw (numbered_refused v h)

  timing_answered : (portable_answer stretch speed a b).refusal ≡ 0
      → answered_timing (portable_answer stretch speed a b) ≡ timing_at (table_times stretch speed) (phases_of (asked_of stretch speed a b)) (cycle_of (asked_of stretch speed a b))
  unfolding timing
  timing_answered e = answered e

  cycle_answered : (portable_answer stretch speed a b).refusal ≡ 0 → (portable_answer stretch speed a b).cycle ≡ cycle_of (asked_of stretch speed a b)
  cycle_answered e = ap Timing.cycle (timing_answered e)

  pub portable_exact : PortableExact stretch speed a b
  portable_exact =
      record {
        not_listed = through (refusal_says 25 (omega arith)) (refused_25 stretch speed a b);
        out_of_range = through (refusal_says 26 (omega arith)) (refused_26 stretch speed a b);
        ratios_sum = through (refusal_says 21 (omega arith)) (refused_21 stretch speed a b);
        no_length = through (refusal_says 22 (omega arith)) (refused_22 stretch speed a b);
        waiting_short = through (refusal_says 27 (omega arith)) (refused_27 stretch speed a b);
        unrefused = through passed_says (portable_passed stretch speed a b);
        meant = λ e. rw (answered e) (signals stretch speed a b (passed_says.0 e));
        least = λ e t low high. none_before (asked_of stretch speed a b) t low (rw (cycle_answered e) at high);
        tabled = λ e. (ap (λ x. x.table.clearing) (timing_answered e), ap (λ x. x.table.lost) (timing_answered e));
        planned = λ e. ap Timing.greens (timing_answered e) ∙ rw (cycle_answered e);
        working = λ given t. works_exact stretch speed a b
            (phases_right_lem stretch speed a b given.0 (both_left (in_range a) _ given.1) (both_right (in_range a) _ given.1)) t;
        optimum = first_tried_least (asked_of stretch speed a b);
        intergreens = intergreen_least stretch speed;
        nothing = refused_figures;
      }

-- numbers that are typed, as the program `portable` takes them: the answer is that of the numbers that their digits make, however many digits it takes
abbrev pub typed : List ℕ → ℕ
typed text = value_of text (length text)

abbrev pub read_as : (List ℕ → ℕ) → List ℕ → List ℕ → List ℕ → Approach
read_as number flow saturation waiting = record { flow = number flow; saturation = number saturation; waiting = number waiting }

pub typed_portable : (stretch speed flow saturation waiting flow2 saturation2 waiting2 : List ℕ)
    → (let program : List ℕ → ℕ = counted in
    portable (program stretch) (program speed) (read_as program flow saturation waiting) (read_as program flow2 saturation2 waiting2))
    ≡ portable (typed stretch) (typed speed) (read_as typed flow saturation waiting) (read_as typed flow2 saturation2 waiting2)
unfolding most_decimal
typed_portable stretch speed flow saturation waiting flow2 saturation2 waiting2 =
    most_answered most_decimal (omega arith) (typed stretch) (typed speed) (read_as typed flow saturation waiting) (read_as typed flow2 saturation2 waiting2)

-- so it is with the numbers that the program reads
abbrev pub ReadAs : List ℕ → ℕ → Type 0
ReadAs text n = decimal_of text ≡ Some n

pub read_portable : (stretch speed flow saturation waiting flow2 saturation2 waiting2 : List ℕ) (a b c d e f g h : ℕ)
    → ReadAs stretch a → ReadAs speed b → ReadAs flow c → ReadAs saturation d → ReadAs waiting e
    → ReadAs flow2 f → ReadAs saturation2 g → ReadAs waiting2 h
    → portable a b (record { flow = c; saturation = d; waiting = e }) (record { flow = f; saturation = g; waiting = h })
    ≡ portable (typed stretch) (typed speed) (read_as typed flow saturation waiting) (read_as typed flow2 saturation2 waiting2)
read_portable stretch speed flow saturation waiting flow2 saturation2 waiting2 a b c d e f g h ra rb rc rd re rf rg rh =
    rw (
      decimal_is stretch a ra,
      decimal_is speed b rb,
      decimal_is flow c rc,
      decimal_is saturation d rd,
      decimal_is waiting e re,
      decimal_is flow2 f rf,
      decimal_is saturation2 g rg,
      decimal_is waiting2 h rh,
    ) (typed_portable stretch speed flow saturation waiting flow2 saturation2 waiting2)
