-- What is told of every accepted plan and every car of its junction: by formulas whose divisors are all finite and above 0; no red exactly where the
-- green and one second fill the cycle; a delay that is finite and above 0; a saturation that is finite and 1 or more, and only where the flow meets its
-- capacity exactly.
use Rattle.std.specs.Prelude.{ℕ, ◌+◌, ◌*◌, ◌^◌, ◌≤◌, ◌<◌, true, List, ◌↔◌, ◌≡◌, T, Float}
use Rattle.std.proofs.Common.{eq-or-lt_of_le, arith, ⊎_elim, sym, ◌∙◌}
use Rattle.std.proofs.lemmas.Bool.{false≢true}
use Rattle.std.specs.Float.Ieee.{le}
use Rattle.std.specs.Float.Ieee.Positive.{positive}
use Rattle.laws.specs.Ranges.{Between}
use Rattle.fields.specs.Verdict.{Passed}
use Rattle.junction.specs.declared.Junction.{Junction}
use Rattle.junction_questions.specs.Questions.{count_refers}
use Rattle.junction_file.specs.Reading.{reading}
use Rattle.junction_figures.specs.Figures.{stream_flow, stream_saturation}
use Rattle.plan_file.specs.Plans.{plan_of, green_of}
use Rattle.plan_file.specs.declared.Plan.{Plan}
use Rattle.plan_judge.proofs.Demand3.{only_acceptable}
use Rattle.plan_judge.specs.Judgement.{judgement}
use Rattle.plan_judge.proofs.Written.{accepted_pair}
use Rattle.service_level.specs.Capacity.{just_above}
use Rattle.service_level.proofs.Capacity.{below_capacity, saturation_close}
use Rattle.service_level.specs.Delays.{whole, green_share, saturation_of, service_of}
use Rattle.service_level.specs.Divisors.{Numbers, Divisors}
use Rattle.service_level.proofs.Divisors.{divisors}
use Rattle.service_level.proofs.Told as service
use Rattle.service_level.specs.declared.Service.TheVariants.{Delay, Oversaturated, NoRed}
use Rattle.delays.specs.Answer.{stream_figures}
use Rattle.delays.specs.lemmas.InRange.{car_of_lem, flow_in_range, saturation_in_range, in_range}

module _ (junction plan : List ℕ) (n : ℕ) (accepted : judgement junction plan ≡ Passed) (car : count_refers (reading junction).junction n ≡ true) where
  abbrev pub j : Junction
  j = (reading junction).junction

  abbrev pub p : Plan
  p = plan_of plan

  -- g and u of the stream
  abbrev pub g : Float
  g = green_share (green_of p n).length p.cycle

  abbrev pub u : Float
  u = saturation_of g (stream_flow j n) (stream_saturation j n)

  numbers : Numbers (green_of p n).length p.cycle (stream_flow j n) (stream_saturation j n)
  numbers = in_range junction plan n accepted (car_of_lem j n car)

  pub divisors_some : Divisors g u p.cycle (stream_flow j n) (stream_saturation j n)
  divisors_some = divisors _ _ _ _ numbers

  pub no_red_lem : (service_of (stream_figures j p n) ≡ NoRed) ↔ (p.cycle ≤ (green_of p n).length + 1)
  unfolding stream_figures
  no_red_lem = service.no_red_told _ _ _ _ numbers

  pub delay_finite : (d : Float) → service_of (stream_figures j p n) ≡ Delay d → T (positive d)
  unfolding stream_figures
  delay_finite = service.delay_told _ _ _ _ numbers

  pub saturation_finite : (x : Float) → service_of (stream_figures j p n) ≡ Oversaturated x → T (positive x) × T (le (whole 1) x)
  unfolding stream_figures
  saturation_finite = service.saturation_told _ _ _ _ numbers

  -- the flow is at most its capacity, by the judge
  pub carried : stream_flow j n * p.cycle ≤ stream_saturation j n * ((green_of p n).length + 1)
  carried = let c = car_of_lem j n car in ((only_acceptable junction plan).0 accepted).2.capacity n c.existing c.car

  -- what Capacity.antt asks for
  abbrev Capable : Type 0
  Capable = (p.cycle ≤ 256) × Between 1 9999 (stream_flow j n) × Between 1 (2 ^ 21) (stream_saturation j n)

  capable : Capable
  capable =
      let pair = accepted_pair junction plan accepted in
      let c = car_of_lem j n car in
      (omega (arith, pair.right.cycle), flow_in_range j pair.taken n c, saturation_in_range j pair.taken n c)

  pub saturation_exact : (green_of p n).length + 1 < p.cycle → le (whole 1) u ≡ true
      → stream_flow j n * p.cycle ≡ stream_saturation j n * ((green_of p n).length + 1)
  saturation_exact red over =
      ⊎_elim (λ same. same)
      (λ below. absurd (false≢true (sym (below_capacity _ _ _ _ red capable.0 capable.1 capable.2 carried below) ∙ over)))
      (eq-or-lt_of_le carried)

  pub saturation_next : (green_of p n).length + 1 < p.cycle → T (le u just_above)
  saturation_next red = saturation_close _ _ _ _ red capable.0 capable.1 capable.2 carried
