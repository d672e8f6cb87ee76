-- What the C library's numbers say: refusal 0 exactly where nothing is refused, and the figure itself then; every other number 0 where
-- something is refused.
use Rattle.std.specs.Prelude.{ℕ, true, List, ◌↔◌, ◌≡◌}
use Rattle.std.proofs.Common.{arith}
use Rattle.std.proofs.Math.Path.{refl}
use Rattle.fields.specs.lemmas.Numbers.{Numbered, ask_numbered, passed_number}
use Rattle.fields.specs.Verdict.{is_refused, ask, first_refusal, both_passed, Verdict, Passed}
use Rattle.junction_questions.specs.Questions.{count_refers}
use Rattle.junction_places.specs.Places.{exists}
use Rattle.junction_file.specs.Reading.{reading}
use Rattle.plan_file.specs.Plans.{cycle_in_range}
use Rattle.junction_figures.specs.Figures.{pair_entry, stream_need, stream_saturation, stream_ratio}
use Rattle.givendra.specs.Answers.{figure, intergreen_verdict, need_verdict, car_verdict}
use Rattle.givendra.specs.Answers.{intergreen_answer, need_answer, saturation_answer, ratio_answer}
use Rattle.givendra.specs.Answered.{asked, own_numbered}

-- a figure is told exactly where its verdict is no refusal, and then it is the figure; else its value is 0
pub figure_told : (v : Verdict) (x : ℕ) → v ≡ Passed → figure v x ≡ record { place = 0; refusal = 0; value = x }
unfolding figure
figure_told v x e = rw e

pub figure_refused : (v : Verdict) (x : ℕ) → is_refused v ≡ true → (figure v x).value ≡ 0
unfolding figure
figure_refused v x e = rw e

figure_number : (v : Verdict) (x : ℕ) → Numbered v → ((figure v x).refusal ≡ 0) ↔ (v ≡ Passed)
unfolding figure
figure_number v x n = passed_number v n

module _ (junction : List ℕ) where
  -- an intergreen is told exactly where the file is taken and both streams exist
  pub intergreen_told : (from to : ℕ)
      → ((intergreen_answer junction from to).refusal ≡ 0)
      ↔ (((reading junction).verdict ≡ Passed) × (exists (reading junction).junction from ≡ true) × (exists (reading junction).junction to ≡ true))
  unfolding intergreen_answer intergreen_verdict
  intergreen_told from to =
      let j = (reading junction).junction in
      let second = ask (exists j to) 7 to Passed in
      let own = ask (exists j from) 7 from second in
      let told = figure_number (first_refusal (reading junction).verdict own) (pair_entry j from to)
      (own_numbered junction own (ask_numbered (exists j from) 7 from second (omega arith) (ask_numbered (exists j to) 7 to Passed (omega arith) tt))) in
      let both = both_passed (reading junction).verdict own in
      let first = asked (exists j from) 7 from second in
      let last = asked (exists j to) 7 to Passed in (
        λ e. let b = both.0 (told.0 e) in let f = first.0 b.1 in (b.0, f.0, (last.0 f.1).0),
        λ h. told.1 (both.1 (h.0, first.1 (h.1, last.1 (h.2, refl)))),
      )

  -- a need, exactly where the file is taken, the stream exists and the cycle is in range
  pub need_told : (n cycle : ℕ)
      → ((need_answer junction n cycle).refusal ≡ 0)
      ↔ (((reading junction).verdict ≡ Passed) × (exists (reading junction).junction n ≡ true) × (cycle_in_range cycle ≡ true))
  unfolding need_answer need_verdict
  need_told n cycle =
      let j = (reading junction).junction in
      let second = ask (cycle_in_range cycle) 13 0 Passed in
      let own = ask (exists j n) 7 n second in
      let told = figure_number (first_refusal (reading junction).verdict own) (stream_need j n cycle)
      (own_numbered junction own (ask_numbered (exists j n) 7 n second (omega arith) (ask_numbered (cycle_in_range cycle) 13 0 Passed (omega arith) tt))) in
      let both = both_passed (reading junction).verdict own in
      let first = asked (exists j n) 7 n second in
      let last = asked (cycle_in_range cycle) 13 0 Passed in (
        λ e. let b = both.0 (told.0 e) in let f = first.0 b.1 in (b.0, f.0, (last.0 f.1).0),
        λ h. told.1 (both.1 (h.0, first.1 (h.1, last.1 (h.2, refl)))),
      )

  car_told : (n x : ℕ)
      → ((figure (first_refusal (reading junction).verdict (car_verdict (reading junction).junction n)) x).refusal ≡ 0)
      ↔ (((reading junction).verdict ≡ Passed) × (count_refers (reading junction).junction n ≡ true))
  unfolding car_verdict
  car_told n x =
      let j = (reading junction).junction in
      let own = ask (count_refers j n) 7 n Passed in
      let told = figure_number (first_refusal (reading junction).verdict own) x
      (own_numbered junction own (ask_numbered (count_refers j n) 7 n Passed (omega arith) tt)) in
      let both = both_passed (reading junction).verdict own in
      let first = asked (count_refers j n) 7 n Passed in (
        λ e. let b = both.0 (told.0 e) in (b.0, (first.0 b.1).0),
        λ h. told.1 (both.1 (h.0, first.1 (h.1, refl))),
      )

  -- saturation flow and flow ratio, exactly where the file is taken and the stream is an existing car
  pub saturation_told : (n : ℕ)
      → ((saturation_answer junction n).refusal ≡ 0)
      ↔ (((reading junction).verdict ≡ Passed) × (count_refers (reading junction).junction n ≡ true))
  unfolding saturation_answer
  saturation_told n = car_told n (stream_saturation (reading junction).junction n)

  pub ratio_told : (n : ℕ)
      → ((ratio_answer junction n).refusal ≡ 0)
      ↔ (((reading junction).verdict ≡ Passed) × (count_refers (reading junction).junction n ≡ true))
  unfolding ratio_answer
  ratio_told n = car_told n (stream_ratio (reading junction).junction n)
