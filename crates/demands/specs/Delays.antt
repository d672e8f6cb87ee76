-- The delay over files (document 02, 2026-05), as the C library answers it for an accepted plan and an existing car of its junction: no red, tested
-- first; the saturation where it is 1 or more; else the delay; with the level of each.
--
-- `whole`, `green_share`, `saturation_of`, `term_a`, `term_b`, `delay_of` and `delay_level` are the request's formulas and levels, in f64
-- (service_level/specs/Delays.antt); 1, 2 and 3 the numbers of the answers, 65 to 70 the letters A to F.
use Rattle.std.specs.Prelude.{ℕ, ◌+◌, ◌*◌, ◌≤◌, ◌<◌, true, false, List, ◌≡◌, leb, Float}
use Rattle.std.proofs.Common.{sym, ◌∙◌, subst}
use Rattle.std.proofs.Math.Dec.{T}
use Rattle.std.specs.Float.Ieee.{le}
use Rattle.std.specs.Float.Ieee.Positive.{positive}
use borrow.Author.Tests.{le-leb, lt-leb}
use Rattle.fields.specs.Verdict.{Passed}
use Rattle.junction_questions.specs.Questions.{count_refers}
use Rattle.junction_file.specs.Reading.{reading}
use Rattle.junction_figures.specs.Figures.{stream_flow, stream_saturation}
use Rattle.plan_file.specs.Plans.{plan_of, green_of}
use Rattle.plan_judge.specs.Judgement.{judgement}
use Rattle.service_level.specs.Delays.{whole, green_share, saturation_of, term_a, term_b, delay_of, figures_of, service_of, delay_level, service_level, level_of, outcome, value, letter}
use Rattle.service_level.proofs.Divisors.{divisors, u_ranged}
use Rattle.service_level.specs.Divisors.{Numbers, Divisors}
use Rattle.service_level.proofs.NoRed.{no_red_exact}
use Rattle.service_level.proofs.Positive.{delay_positive}
use Rattle.service_level.specs.lemmas.Ranged.{ranged_positive}
use Rattle.tenths.specs.Tenths.{tenths_up, tenths_down, level_of_tenths}
use Rattle.tenths.proofs.Printed.{delay_printed, saturation_printed}
use Rattle.delays.specs.Answer.{stream_figures, told, refusal, refused_at, told_outcome, told_value, told_letter}
use Rattle.delays.specs.Told.{saturation_exact, saturation_next}
use Rattle.delays.proofs.ToldLaws.{is_told}
use Rattle.delays.specs.lemmas.InRange.{car_of_lem, in_range}
use Rattle.givendra.specs.Answers.{delay_answer}

module _ (junction plan : List ℕ) (n : ℕ) where
  -- length and C of the plan, flow and S of the junction
  abbrev length : ℕ
  length = (green_of (plan_of plan) n).length

  abbrev cycle : ℕ
  cycle = (plan_of plan).cycle

  abbrev flow : ℕ
  flow = stream_flow (reading junction).junction n

  abbrev s : ℕ
  s = stream_saturation (reading junction).junction n

  abbrev g : Float
  g = green_share length cycle

  abbrev u : Float
  u = saturation_of g flow s

  abbrev d : Float
  d = delay_of cycle flow (term_a g u) (term_b u)

  pub record DelayExact : Type 0 where
    -- g is 1 or more, by the test in f64, exactly where the green and one second fill the cycle
    pub full : le (whole 1) g ≡ leb cycle (length + 1)
    pub no_red_lem : cycle ≤ length + 1 → delay_answer junction plan n ≡ record { place = 0; refusal = 0; outcome = 3; level = 65; value = whole 0 }
    pub saturated : length + 1 < cycle → le (whole 1) u ≡ true
        → delay_answer junction plan n ≡ record { place = 0; refusal = 0; outcome = 2; level = 70; value = u }
    pub delayed : length + 1 < cycle → le (whole 1) u ≡ false
        → delay_answer junction plan n ≡ record { place = 0; refusal = 0; outcome = 1; level = letter (delay_level d); value = d }
    -- no divisor is 0
    pub dividing : Divisors g u cycle flow s
    -- a delay is finite and above 0, as a saturation is, and its level is that of its tenths, rounded up, as they are printed
    pub finite : length + 1 < cycle → le (whole 1) u ≡ false → T (positive d)
    pub finite_saturation : T (positive u)
    pub printed : length + 1 < cycle → le (whole 1) u ≡ false → level_of_tenths (tenths_up d) ≡ delay_level d
    -- a saturation is told only where the flow meets its capacity exactly, and has 10 tenths, rounded down, as they are printed
    pub at_capacity : length + 1 < cycle → le (whole 1) u ≡ true → flow * cycle ≡ s * (length + 1)
    pub printed_saturation : length + 1 < cycle → le (whole 1) u ≡ true → tenths_down u ≡ 10

  pub delay_exact : judgement junction plan ≡ Passed → count_refers (reading junction).junction n ≡ true → DelayExact
  unfolding delay_answer told stream_figures figures_of service_of service_level level_of outcome value letter refusal refused_at told_outcome told_value told_letter
  delay_exact accepted car =
      let numbers : Numbers length cycle flow s = in_range junction plan n accepted (car_of_lem (reading junction).junction n car) in
      let exact = no_red_exact length cycle numbers.of_length numbers.of_cycle in
      let is = is_told junction plan n accepted car in
      record {
        full = exact;
        no_red_lem = λ full. simp (is, exact, le-leb cycle (length + 1) full);
        saturated = λ red over. simp (is, exact, lt-leb cycle (length + 1) red, over);
        delayed = λ red free. simp (is, exact, lt-leb cycle (length + 1) red, free);
        dividing = divisors length cycle flow s numbers;
        finite = λ red free. delay_positive length cycle flow s numbers (exact ∙ lt-leb cycle (length + 1) red) free;
        finite_saturation = ranged_positive (u_ranged length cycle flow s numbers);
        printed = λ red free. delay_printed length cycle flow s numbers (exact ∙ lt-leb cycle (length + 1) red) free;
        at_capacity = saturation_exact junction plan n accepted car;
        printed_saturation = λ red over. saturation_printed length cycle flow s numbers (subst T (sym over) tt) (saturation_next junction plan n accepted car red);
      }
