-- The C library's answers are the answers to their questions too, and a refusal's number is never 0.
use Rattle.std.specs.Prelude.{ℕ, zero, suc, ◌≤◌, ◌&&◌, List, ◌++◌, ◌≡◌, leb, ltb, Ok, Err}
use Rattle.std.proofs.Common.{arith, ◌∙◌}
use Rattle.std.proofs.Math.Path.{refl, sym}
use Rattle.fields.specs.Verdict.{number_of, place_of, ask, first_refusal, Verdict, Passed, Refused}
use Rattle.counts.specs.declared.Wanted.{Wanted}
use Rattle.junction_file.specs.Reading.{reading}
use Rattle.limits.specs.Limits.{no_cycle}
use Rattle.phase_lengths.specs.Phases.{ratio_sum}
use Rattle.stretches.specs.Table.{listed}
use Rattle.roadworks.specs.Roadworks.{in_range as approach_in_range, asked_of, phases_of, cycle_of, enough_waiting, later_verdict, portable_verdict}
use Rattle.roadworks.specs.declared.Approach.{Approach}
use Rattle.givendra.specs.Answers.{intergreen_verdict, need_verdict, car_verdict}
use Rattle.givendra.specs.LentList.{list_rank}
use Rattle.givendra.specs.declared.CountRecord.{CountRecord}
use Rattle.demands.specs.Asked.{Question, answer, answer_append, said}
use Rattle.demands.specs.Places.{PlanPlace, fit, expected, range}
use Rattle.demands.specs.Places.{CalculationPlace, ratios_sum, no_cycle_lem, no_room, ListPlace}
use Rattle.demands.specs.Places.{none_usable}
use Rattle.demands.specs.Places.{PortablePlace, not_listed, out_of_range, too_much, no_length, waiting_short}
use Rattle.demands.specs.Questions.{junction_asked, intergreen_asked, need_asked, car_asked, list_asked, portable_asked}
use Rattle.demands.specs.lemmas.Answered.{read_answer}
use Rattle.demands.specs.lemmas.Told.{Told, ask_told}

-- where a refusal's number is not 0, the number and the place of a verdict say the verdict
pub said_is : (v : Verdict) → Told (λ number place. 1 ≤ number) v → said (number_of v) (place_of v) ≡ v
said_is (Ok u) t = refl
said_is (Err r) t = said_some r.number r.place t
  where
    said_some : (number place : ℕ) → 1 ≤ number → said number place ≡ Refused number place
    said_some zero place t = absurd (omega arith)
    said_some (suc number) place t = refl

pub plan_some : {size : ℕ} (n p : ℕ) → PlanPlace size n p → 1 ≤ n
plan_some n p (fit l) = omega arith
plan_some n p (expected l) = omega arith
plan_some n p (range l) = omega arith

pub calculation_some : (n p : ℕ) → CalculationPlace n p → 1 ≤ n
calculation_some n p ratios_sum = omega arith
calculation_some n p no_cycle_lem = omega arith
calculation_some n p no_room = omega arith

pub list_some : {asked : ℕ} (n p : ℕ) → ListPlace asked n p → 1 ≤ n
list_some n p none_usable = omega arith

module _ (junction : List ℕ) where
  -- a figure's own questions after the junction's
  pub own_answer : (own : List Question) (v : Verdict) → answer own ≡ v → first_refusal (reading junction).verdict v ≡ answer (junction_asked junction ++ own)
  own_answer own v e = sym (answer_append (junction_asked junction) own ∙ rw (← read_answer junction, e))

  module _ (from to : ℕ) where
    pub intergreen_answer_lem : first_refusal (reading junction).verdict (intergreen_verdict (reading junction).junction from to)
        ≡ answer (intergreen_asked junction from to)
    intergreen_answer_lem = own_answer _ _ (unfold answer intergreen_verdict in refl)

  module _ (n cycle : ℕ) where
    pub need_answer_lem : first_refusal (reading junction).verdict (need_verdict (reading junction).junction n cycle) ≡ answer (need_asked junction n cycle)
    need_answer_lem = own_answer _ _ (unfold answer need_verdict in refl)

  module _ (n : ℕ) where
    pub car_answer : first_refusal (reading junction).verdict (car_verdict (reading junction).junction n) ≡ answer (car_asked junction n)
    car_answer = own_answer _ _ (unfold answer car_verdict in refl)

pub portable_some : (n p : ℕ) → PortablePlace n p → 1 ≤ n
portable_some n p not_listed = omega arith
portable_some n p out_of_range = omega arith
portable_some n p too_much = omega arith
portable_some n p no_length = omega arith
portable_some n p waiting_short = omega arith

module _ (stretch speed : ℕ) (a b : Approach) where
  pub portable_answer_lem : portable_verdict stretch speed a b ≡ answer (portable_asked stretch speed a b)
  unfolding portable_verdict later_verdict portable_asked answer
  portable_answer_lem = refl

  pub portable_told : Told PortablePlace (portable_verdict stretch speed a b)
  unfolding portable_verdict later_verdict
  portable_told =
      let w = asked_of stretch speed a b in
      ask_told PortablePlace (listed stretch speed) 25 0 _ (λ e. not_listed) (λ e.
      ask_told PortablePlace (approach_in_range a && approach_in_range b) 26 0 _ (λ f. out_of_range) (λ f.
      ask_told PortablePlace (ltb (ratio_sum (phases_of w)) 10000) 21 0 _ (λ g. too_much) (λ g.
      ask_told PortablePlace (ltb (cycle_of w) no_cycle) 22 0 _ (λ h. no_length) (λ h.
      ask_told PortablePlace (enough_waiting a (cycle_of w) && enough_waiting b (cycle_of w)) 27 0 Passed (λ i. waiting_short) (λ i. tt)))))

module _ (list : List CountRecord) (w : Wanted) where
  pub list_answer : ask (leb 1 (list_rank w list)) 9 w.stream Passed ≡ answer (list_asked list w)
  unfolding answer
  list_answer = refl

  pub list_told : Told (ListPlace w.stream) (ask (leb 1 (list_rank w list)) 9 w.stream Passed)
  list_told = ask_told (ListPlace w.stream) (leb 1 (list_rank w list)) 9 w.stream Passed (λ e. none_usable) (λ e. tt)
