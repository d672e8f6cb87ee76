-- The C library's answers are the answers to their questions too, and a refusal's number is never 0.
use Rattle.std.specs.Prelude.{ℕ, ◌≤◌, List, [], ◌∷◌, ◌⊎◌, ◌≡◌, ltb}
use Rattle.std.proofs.Common.{arith, inl, inr, ◌∙◌}
use Rattle.std.proofs.Math.Path.{refl, sym}
use Rattle.fields.specs.Bytes.{number_at}
use Rattle.fields.specs.Verdict.{ask, first_refusal, Verdict, Passed}
use Rattle.junction_questions.specs.Questions.{count_refers}
use Rattle.junction_places.specs.Places.{exists}
use Rattle.junction_file.specs.Reading.{reading}
use Rattle.plan_file.specs.Plans.{cycle_in_range, plan_verdict}
use Rattle.plan_judge.specs.Judgement.{judgement}
use Rattle.delays.specs.Answer.{car_asked as delay_car, delay_verdict}
use Rattle.offsets.specs.Shifting.{file_verdict, shift_verdict}
use Rattle.givendra.specs.Answers.{intergreen_verdict, need_verdict, car_verdict}
use Rattle.demands.specs.Asked.{question, answer, answer_append}
use Rattle.demands.specs.Places.{JunctionPlace, long, field, file, count, RulePlace, need, capacity, zone}
use Rattle.demands.specs.Places.{JudgePlace, WorkPlace, FigurePlace}
use Rattle.demands.specs.Places.{of_junction, of_plan, of_rule, of_calculation, of_stream_lem, of_cycle_lem, DelayPlace, of_judge, no_car, ShiftPlace, not_below_lem}
use Rattle.demands.specs.Questions.{plan_asked, judge_asked, delay_asked, shift_asked}
use Rattle.demands.specs.lemmas.Answered.{plan_answer_lem}
use Rattle.demands.proofs.lemmas.Answered.{judge_answer_lem}
use Rattle.demands.specs.lemmas.Told.{Told, ask_told, first_told, told_more, plan_told}
use Rattle.demands.proofs.lemmas.Told.{junction_told, judge_told}
use Rattle.demands.specs.lemmas.Library.{plan_some, calculation_some, own_answer}

-- no listed number is 0
pub junction_some : {size streams : ℕ} (n p : ℕ) → JunctionPlace size streams n p → 1 ≤ n
junction_some n p long = omega arith
junction_some n p (field w low) = omega arith
junction_some n p file = omega arith
junction_some n p (count w) = omega arith

rule_some : {streams zones : ℕ} (n p : ℕ) → RulePlace streams zones n p → 1 ≤ n
rule_some n p (need w) = omega arith
rule_some n p (capacity w) = omega arith
rule_some n p (zone w) = omega arith

pub judge_some : {junction plan : List ℕ} (n p : ℕ) → JudgePlace junction plan n p → 1 ≤ n
judge_some n p (of_junction w) = junction_some n p w
judge_some n p (of_plan w) = plan_some n p w
judge_some n p (of_rule w) = rule_some n p w

pub delay_some : {junction plan : List ℕ} {asked : ℕ} (n p : ℕ) → DelayPlace junction plan asked n p → 1 ≤ n
delay_some n p (of_judge w) = judge_some n p w
delay_some n p no_car = omega arith

pub shift_some : {junction plan : List ℕ} (n p : ℕ) → ShiftPlace junction plan n p → 1 ≤ n
shift_some n p (of_junction w) = junction_some n p w
shift_some n p (of_plan w) = plan_some n p w
shift_some n p not_below_lem = omega arith

pub work_some : {junction : List ℕ} (n p : ℕ) → WorkPlace junction n p → 1 ≤ n
work_some n p (of_junction w) = junction_some n p w
work_some n p (of_calculation w) = calculation_some n p w

pub figure_some : {junction : List ℕ} {Asked : ℕ → Type 0} {Cycle : Type 0} (n p : ℕ) → FigurePlace junction Asked Cycle n p → 1 ≤ n
figure_some n p (of_junction w) = junction_some n p w
figure_some n p (of_stream_lem w) = omega arith
figure_some n p (of_cycle_lem w) = omega arith

module _ (junction : List ℕ) where
  own_told : (Asked : ℕ → Type 0) (Cycle : Type 0) (v : Verdict) → Told (FigurePlace junction Asked Cycle) v
      → Told (FigurePlace junction Asked Cycle) (first_refusal (reading junction).verdict v)
  own_told Asked Cycle v t =
      let R = FigurePlace junction Asked Cycle in
      first_told R (reading junction).verdict v (told_more _ R (λ n p. of_junction) (reading junction).verdict (junction_told junction)) (λ e. t)

  module _ (from to : ℕ) where
    pub intergreen_told : Told (FigurePlace junction (λ p. (p ≡ from) ⊎ (p ≡ to)) ⊥)
        (first_refusal (reading junction).verdict (intergreen_verdict (reading junction).junction from to))
    unfolding intergreen_verdict
    intergreen_told =
        let j = (reading junction).junction in
        let R = FigurePlace junction (λ p. (p ≡ from) ⊎ (p ≡ to)) ⊥ in
        own_told _ _ _ (ask_told R (exists j from) 7 from _ (λ e. of_stream_lem (inl refl)) (λ e.
        ask_told R (exists j to) 7 to Passed (λ e. of_stream_lem (inr refl)) (λ e. tt)))

  module _ (n cycle : ℕ) where
    pub need_told : Told (FigurePlace junction (λ p. p ≡ n) (Unit {0}))
        (first_refusal (reading junction).verdict (need_verdict (reading junction).junction n cycle))
    unfolding need_verdict
    need_told =
        let j = (reading junction).junction in
        let R = FigurePlace junction (λ p. p ≡ n) (Unit {0}) in
        own_told _ _ _ (ask_told R (exists j n) 7 n _ (λ e. of_stream_lem refl) (λ e.
        ask_told R (cycle_in_range cycle) 13 0 Passed (λ e. of_cycle_lem tt) (λ e. tt)))

  module _ (n : ℕ) where
    pub car_told : Told (FigurePlace junction (λ p. p ≡ n) ⊥) (first_refusal (reading junction).verdict (car_verdict (reading junction).junction n))
    unfolding car_verdict
    car_told =
        let R = FigurePlace junction (λ p. p ≡ n) ⊥ in
        own_told _ _ _ (ask_told R (count_refers (reading junction).junction n) 7 n Passed (λ e. of_stream_lem refl) (λ e. tt))

module _ (junction plan : List ℕ) (n : ℕ) where
  pub delay_answer_lem : delay_verdict junction plan n ≡ answer (delay_asked junction plan n)
  unfolding delay_verdict
  delay_answer_lem =
      let last : answer (question 9 n (count_refers (reading junction).junction n) ∷ []) ≡ delay_car (reading junction).junction n = unfold answer delay_car in refl in
      sym (answer_append (judge_asked junction plan) _ ∙ rw (← judge_answer_lem junction plan, last))

  pub delay_told : Told (DelayPlace junction plan n) (delay_verdict junction plan n)
  unfolding delay_verdict delay_car
  delay_told =
      let R = DelayPlace junction plan n in
      first_told R (judgement junction plan) _ (told_more _ R (λ number place. of_judge) (judgement junction plan) (judge_told junction plan))
      (λ e. ask_told R (count_refers (reading junction).junction n) 9 n Passed (λ f. no_car) (λ f. tt))

module _ (junction plan : List ℕ) (offset : ℕ) where
  pub shift_answer_lem : shift_verdict junction plan offset ≡ answer (shift_asked junction plan offset)
  unfolding shift_verdict file_verdict
  shift_answer_lem =
      let streams = (reading junction).junction.held.streams in
      let last : answer (question 24 0 (ltb offset (number_at plan 3)) ∷ []) ≡ ask (ltb offset (number_at plan 3)) 24 0 Passed = unfold answer in refl in
      own_answer junction _ _ (answer_append (plan_asked plan streams) _ ∙ rw (plan_answer_lem plan streams, last))

  pub shift_told : Told (ShiftPlace junction plan) (shift_verdict junction plan offset)
  unfolding shift_verdict file_verdict
  shift_told =
      let R = ShiftPlace junction plan in
      let streams = (reading junction).junction.held.streams in
      first_told R (reading junction).verdict _ (told_more _ R (λ n p. of_junction) (reading junction).verdict (junction_told junction)) (λ e.
      first_told R (plan_verdict plan streams) _ (told_more _ R (λ n p. of_plan) (plan_verdict plan streams) (plan_told plan streams)) (λ f.
      ask_told R (ltb offset (number_at plan 3)) 24 0 Passed (λ g. not_below_lem) (λ g. tt)))
