-- The numbers by which a delay is worked out are in range, for every accepted plan and every car: cycle and length by the plan's questions, flow and
-- saturation flow by the junction's.
use Rattle.std.specs.Prelude.{ℕ, ◌+◌, ◌-◌, ◌*◌, ◌^◌, ◌≤◌, ◌<◌, List, ◌≡◌, leb, eqb}
use Rattle.std.proofs.Common.{le_of_lt, div-lt_iff_lt-mul, sub-add_cancel, arith, leb-true}
use Rattle.std.proofs.Math.Bool.{true}
use Rattle.std.proofs.lemmas.Bool.{false≢true}
use Rattle.laws.specs.Ranges.{Between}
use Rattle.laws.specs.Tests.{by_test, both_left, both_right}
use Rattle.fields.specs.Verdict.{Passed}
use Rattle.streams.specs.Kinds.{is_car}
use Rattle.streams.specs.declared.CarFigures.{CarFigures}
use Rattle.streams.specs.declared.Kind.{Kind}
use Rattle.streams.specs.declared.Kind.TheVariants.{Car, Tram, Pedestrian, Cyclist, Island}
use Rattle.flows.specs.Saturation.{base_flow, gradient_percent, conditions_percent, turn_divisor, saturation_flow}
use Rattle.flows.specs.lemmas.Bounds.{straight_small, turning_small, product_small}
use Rattle.junction.specs.declared.Junction.{Junction}
use Rattle.junction_places.specs.Places.{stream_at, stream_numbered, numbered, numbered_at}
use Rattle.junction_questions.specs.Questions.{car_refers, count_refers}
use Rattle.junction_file.specs.Reading.{reading}
use Rattle.junction_file.specs.Taken.{CarRanges, KindRanges, Taken}
use Rattle.junction_figures.specs.Figures.{stream_flow, kind_saturation, stream_saturation}
use Rattle.junction_figures.specs.Positive.{saturation_some}
use Rattle.plan_file.specs.Plans.{plan_of, green_of}
use Rattle.plan_judge.specs.Judgement.{judgement}
use Rattle.plan_judge.proofs.Written.{accepted_pair}
use Rattle.service_level.specs.Divisors.{Numbers}

base_small : (c : CarFigures) → c.width < 2 ^ 16 → base_flow c < 2 ^ 19
unfolding base_flow
base_small c h =
    by_test (eqb c.radius 0) (λ e. rw e (straight_small c.width h)) (λ e. rw e (turning_small c.radius c.rows))

gradient_small : (g : ℕ) → gradient_percent g < 131
unfolding gradient_percent
gradient_small g = omega arith

conditions_small : (k : ℕ) → conditions_percent k < 121
unfolding conditions_percent
conditions_small k = by_test (eqb k 1) (λ e. rw e (omega arith)) (λ e. rw e (by_test (eqb k 2) (λ f. rw f (omega arith)) (λ f. rw f (omega arith))))

divisor_some : (b c : ℕ) → b + c ≤ 100 → 400 ≤ turn_divisor b c
unfolding turn_divisor
divisor_some b c h = by_test (leb 10 (b + c)) (λ e. rw e (omega arith)) (λ e. rw e (omega arith))

saturation_small : (c : CarFigures) → CarRanges c → saturation_flow c < 2 ^ 21
unfolding saturation_flow
saturation_small c r =
    let small = product_small (base_small c (omega (arith, r.width))) (gradient_small c.gradient) (conditions_small c.conditions) in
    let some = divisor_some c.left c.right r.shares in
    (div-lt_iff_lt-mul {k = 100 * 100 * turn_divisor c.left c.right} (omega (arith, some))).1 (omega (arith, some, small))

kind_saturation_lem : (k : Kind) → is_car k ≡ true → KindRanges k → Between 1 (2 ^ 21) (kind_saturation k)
kind_saturation_lem (Car c) e r = (saturation_some c r, le_of_lt (saturation_small c r))
kind_saturation_lem (Tram t) e r = absurd (false≢true e)
kind_saturation_lem (Pedestrian p) e r = absurd (false≢true e)
kind_saturation_lem (Cyclist y) e r = absurd (false≢true e)
kind_saturation_lem (Island i) e r = absurd (false≢true e)

-- a number asked for is that of an existing car
pub record CarOf (j : Junction) (n : ℕ) : Type 0 where
  pub existing : Between 1 j.held.streams n
  pub car : is_car (stream_numbered j n).kind ≡ true

pub car_of_lem : (j : Junction) (n : ℕ) → count_refers j n ≡ true → CarOf j n
unfolding count_refers car_refers numbered
car_of_lem j n e =
    let there = both_left (leb 1 n) (leb n j.held.streams) (both_left (numbered j.held.streams n) (is_car (stream_numbered j n).kind) e) in
    record {
      existing = (leb-true 1 n there, leb-true n j.held.streams (both_right (leb 1 n) _ (both_left (numbered j.held.streams n) _ e)));
      car = both_right (numbered j.held.streams n) _ e;
    }

module _ (j : Junction) (t : Taken j) (n : ℕ) (c : CarOf j n) where
  at_place : stream_numbered j n ≡ stream_at j (n - 1)
  at_place = numbered_at j n c.existing.0

  here : n - 1 < j.held.streams
  here = omega (arith, c.existing)

  pub flow_in_range : Between 1 9999 (stream_flow j n)
  unfolding stream_flow
  flow_in_range =
      let car : is_car (stream_at j (n - 1)).kind ≡ true = rw at_place at c.car in
      let flow = (t.flows (n - 1) here car).flow in
      rw (sub-add_cancel c.existing.0) at flow

  pub saturation_in_range : Between 1 (2 ^ 21) (stream_saturation j n)
  unfolding stream_saturation
  saturation_in_range = kind_saturation_lem (stream_numbered j n).kind c.car (rw at_place (t.fields.streams (n - 1) here).figures)

pub in_range : (junction plan : List ℕ) (n : ℕ) → judgement junction plan ≡ Passed → CarOf (reading junction).junction n
    → let j = (reading junction).junction in
    let p = plan_of plan in
    Numbers (green_of p n).length p.cycle (stream_flow j n) (stream_saturation j n)
in_range junction plan n accepted c =
    let pair = accepted_pair junction plan accepted in
    let length = pair.right.length n c.existing in
    let flow = flow_in_range (reading junction).junction pair.taken n c in
    record {
      of_length = omega (arith, length, pair.right.cycle);
      of_cycle = omega (arith, pair.right.cycle);
      of_flow = omega (arith, flow);
      of_s = omega (arith, saturation_in_range (reading junction).junction pair.taken n c);
    }
