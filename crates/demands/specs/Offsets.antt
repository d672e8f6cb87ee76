-- One offset for every start, over files (document 02, 2026-06), as the C library answers it and leaves the lent plan file: which bytes are
-- changed, and that neither judgement nor delay changes.
--
-- `shift_answer` and `shifted_plan` are what `givendra_shift` is proved to answer and to leave; `shifted` moves the starts of a plan file by any whole
-- offset (offsets/specs/Shifting.antt); `StartByte` says of a place that it is one of the two bytes of a start.
use Rattle.std.specs.Prelude.{ℕ, ◌+◌, ◌*◌, ◌/◌, ◌%◌, ◌≤◌, ◌<◌, List, ◌↔◌, ◌≡◌, length, Some}
use native.Mathlib.Omega.{arith}
use Rattle.std.proofs.Math.Path.{refl, ap}
use Rattle.laws.specs.Tests.{by_test}
use Rattle.fields.specs.Bytes.{byte_at, number_at}
use Rattle.fields.specs.Verdict.{is_refused, not_refused, Passed}
use Rattle.junction_file.specs.Reading.{reading}
use Rattle.junction_file.proofs.TakenFile.{taken}
use Rattle.plan_file.specs.Plans.{plan_verdict, plan_of}
use Rattle.plan_file.proofs.WellFormed.{well_formed}
use Rattle.plan_judge.specs.Judgement.{judgement}
use Rattle.plan_judge.specs.Meaning.{Acceptable}
use Rattle.delays.specs.Answer.{stream_figures, told, delay_verdict, answer}
use Rattle.delays.specs.Refused.{unless_same}
use Rattle.delays.proofs.Refused.{verdict_passed}
use Rattle.delays.specs.lemmas.InRange.{car_of_lem}
use Rattle.decimals.specs.Decimals.{most_decimal, value_of, counted, decimal_of, number_is}
use Rattle.offsets.proofs.Long.{most_asked, most_shifted}
use Rattle.offsets.proofs.Refused.{shift_passed, shift_unaltered, shift_altered}
use Rattle.offsets.proofs.SameJudgement.{same_judgement, same_acceptable, shift_judged}
use Rattle.offsets.specs.Shifted.{StartByte}
use Rattle.offsets.proofs.Shifted.{others_kept, start_bytes, offset_modulo, shifted_size, cycle_same, green_shifted, shifted_formed}
use Rattle.offsets.specs.Shifting.{moved, start_place, shifted, shift_verdict, shifted_plan}
use Rattle.givendra.specs.Answered.{shift_told}
use Rattle.givendra.specs.Answers.{judge_answer, delay_answer, shift_answer}
use Rattle.demands.specs.Questions.{Formed}
use Rattle.demands.specs.lemmas.Entries.{c_shift_kept}

module _ (junction plan : List ℕ) where
  abbrev streams : ℕ
  streams = (reading junction).junction.held.streams

  abbrev cycle : ℕ
  cycle = number_at plan 3

  -- of a file: the two bytes of each start are those of (start + offset) modulo C, by the starts and the cycle of the plan file
  abbrev pub StartsMoved : ℕ → List ℕ → Type 0
  StartsMoved offset file =
      (i : ℕ) → i < streams
      → (byte_at file (5 + 8 * i + 4) ≡ (number_at plan (5 + 8 * i + 4) + offset) % cycle / 256)
      × (byte_at file (5 + 8 * i + 5) ≡ (number_at plan (5 + 8 * i + 4) + offset) % cycle % 256)

  -- every other byte is as it is in the plan file
  abbrev pub OthersKept : List ℕ → Type 0
  OthersKept file = (length file ≡ length plan) × ((k : ℕ) → (StartByte streams k → ⊥) → byte_at file k ≡ byte_at plan k)

  -- of a plan file that is well-formed for a junction file, and every whole offset
  pub record EveryOffset (offset : ℕ) : Type 0 where
    pub starts : StartsMoved offset (shifted plan offset streams)
    pub others : OthersKept (shifted plan offset streams)
    -- an offset of C or more does what its remainder does
    pub modulo : shifted plan (offset % cycle) streams ≡ shifted plan offset streams
    pub formed : plan_verdict (shifted plan offset streams) streams ≡ Passed
    -- the same judgement, number and place, and the same meaning
    pub judged : judgement junction (shifted plan offset streams) ≡ judgement junction plan
    pub acceptable : Acceptable (reading junction).junction (plan_of (shifted plan offset streams)) ↔ Acceptable (reading junction).junction (plan_of plan)
    -- and the same delay of every stream
    pub delayed : (n : ℕ) → answer junction (shifted plan offset streams) n ≡ answer junction plan n

  module _ (offset : ℕ) (both : Formed junction plan) where
    -- the figures of a car: its length and the cycle are the same
    figures_same : (n : ℕ) → delay_verdict junction plan n ≡ Passed
        → stream_figures (reading junction).junction (plan_of (shifted plan offset streams)) n ≡ stream_figures (reading junction).junction (plan_of plan) n
    unfolding stream_figures plan_of
    figures_same n passed =
        let few = (taken junction both.0).fields.few_streams in
        let car = car_of_lem (reading junction).junction n ((verdict_passed junction plan n).0 passed).1 in
        rw (green_shifted plan offset streams ((well_formed plan streams).0 both.1) few n car.existing, cycle_same plan offset streams)

    delay_same : (n : ℕ) → answer junction (shifted plan offset streams) n ≡ answer junction plan n
    unfolding answer delay_verdict
    delay_same n =
        rw (same_judgement junction plan offset both.0 both.1)
        (unless_same (delay_verdict junction plan n) _ _ (λ passed. ap told (figures_same n passed)))

    starts_moved : StartsMoved offset (shifted plan offset streams)
    unfolding moved start_place
    starts_moved i low =
        let next : 5 + 8 * i + 4 + 1 ≡ 5 + 8 * i + 5 = omega arith in
        rw next at (start_bytes plan offset streams i low (omega (arith, ((well_formed plan streams).0 both.1).size)))

    pub every_offset : EveryOffset offset
    every_offset =
        record {
          starts = starts_moved;
          others = (shifted_size plan offset streams, others_kept plan offset streams);
          modulo = offset_modulo plan offset streams;
          formed = shifted_formed plan offset streams both.1;
          judged = same_judgement junction plan offset both.0 both.1;
          acceptable = same_acceptable junction plan offset both.0 both.1;
          delayed = delay_same;
        }

  -- of any two files and every offset that is handed in
  pub record ShiftExact (offset : ℕ) : Type 0 where
    -- nothing is refused exactly where both files pass their questions and the offset is below C
    pub unrefused : ((shift_answer junction plan offset).refusal ≡ 0) ↔ (Formed junction plan × (offset < cycle))
    -- then every start is moved
    pub starts : (shift_answer junction plan offset).refusal ≡ 0 → StartsMoved offset (shifted_plan junction plan offset)
    -- in any case every other byte is as it was, and where something is refused every byte
    pub others : OthersKept (shifted_plan junction plan offset)
    pub refused : 1 ≤ (shift_answer junction plan offset).refusal → shifted_plan junction plan offset ≡ plan
    -- the judge and the delays answer as before
    pub judged : judge_answer junction (shifted_plan junction plan offset) ≡ judge_answer junction plan
    pub delayed : (n : ℕ) → delay_answer junction (shifted_plan junction plan offset) n ≡ delay_answer junction plan n

  module _ (offset : ℕ) where
    -- what holds of the file as it was and of the shifted file holds of the file that is left
    either : (P : List ℕ → Type 0) → P plan → (Formed junction plan → P (shifted plan offset streams)) → P (shifted_plan junction plan offset)
    either P before after =
        by_test (is_refused (shift_verdict junction plan offset))
        (λ e. rw (shift_unaltered junction plan offset e) before)
        (λ e. let passed = not_refused (shift_verdict junction plan offset) e in
        let h = (shift_passed junction plan offset).0 passed in
        rw (shift_altered junction plan offset passed) (after (h.0, h.1)))

    pub shift_exact : ShiftExact offset
    unfolding judge_answer delay_answer
    shift_exact =
        record {
          unrefused = (λ e. let h = (shift_told junction plan offset).0 e in ((h.0, h.1), h.2), λ h. (shift_told junction plan offset).1 (h.0.0, h.0.1, h.1));
          starts = λ none.
              let h = (shift_told junction plan offset).0 none in
              rw (shift_altered junction plan offset ((shift_passed junction plan offset).1 h)) (starts_moved offset (h.0, h.1));
          others = either OthersKept (refl, λ k other. refl) (λ h. (shifted_size plan offset streams, others_kept plan offset streams));
          refused = c_shift_kept junction plan offset;
          judged = rw (shift_judged junction plan offset);
          delayed = λ n. either (λ p. delay_answer junction p n ≡ delay_answer junction plan n) refl (λ h. rw (delay_same offset h n));
        }

  -- an offset that is typed, as the program `shift` takes it: the answer is that of the number that its digits make, however long
  module _ (text : List ℕ) where
    pub typed_asked : shift_verdict junction plan (counted text) ≡ shift_verdict junction plan (value_of text (length text))
    unfolding most_decimal
    typed_asked = most_asked junction plan (value_of text (length text)) most_decimal (omega arith)

    pub typed_shifted : shifted_plan junction plan (counted text) ≡ shifted_plan junction plan (value_of text (length text))
    unfolding most_decimal
    typed_shifted = most_shifted junction plan (value_of text (length text)) most_decimal (omega arith)

    -- so it is with the number that the program reads
    pub read_asked : (n : ℕ) → decimal_of text ≡ Some n → shift_verdict junction plan n ≡ shift_verdict junction plan (value_of text (length text))
    read_asked n e = rw (number_is text n e) typed_asked

    pub read_shifted : (n : ℕ) → decimal_of text ≡ Some n → shifted_plan junction plan n ≡ shifted_plan junction plan (value_of text (length text))
    read_shifted n e = rw (number_is text n e) typed_shifted
