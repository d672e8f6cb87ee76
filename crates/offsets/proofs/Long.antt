-- What the program `shift` reads is enough: the bytes after it change no answer, a file that is shifted was read whole, and of an offset no more
-- than some number above every cycle need count.
use Rattle.std.specs.Prelude.{ℕ, ◌≤◌, ◌<◌, min, List, ◌≡◌, leb, length, take}
use Rattle.std.proofs.Common.{le_of_lt, arith, sym, ◌∙◌}
use Rattle.std.proofs.Math.Nat.{min-eq_left, min-eq_right}
use Rattle.std.proofs.Math.Seq.{take_all}
use borrow.Author.Tests.{leb-true, leb-false, le-ltb}
use Rattle.laws.specs.Tests.{by_test}
use Rattle.limits.specs.Limits.{most_seconds, most_streams}
use Rattle.fields.specs.Bytes.{byte_at, number_at}
use Rattle.fields.specs.Verdict.{is_refused, not_refused, later_same, Passed}
use Rattle.junction_file.specs.Reading.{reading}
use Rattle.junction_file.proofs.TakenFile.{taken}
use Rattle.plan_file.specs.lemmas.Long.{enough}
use Rattle.plan_file.proofs.Long.{long_file}
use Rattle.plan_file.specs.Plans.{plan_verdict}
use Rattle.plan_file.proofs.WellFormed.{well_formed}
use Rattle.plan_judge.specs.Long.{enough_junction}
use Rattle.plan_judge.proofs.Long.{junction_read}
use Rattle.offsets.proofs.Refused.{shift_passed, shift_unaltered}
use Rattle.offsets.specs.Shifting.{file_verdict, shift_verdict, shifted_plan}
use Rattle.offsets.specs.Long.{cycle_read, streams}

-- of a plan file, for a junction of at most 16 streams
file_read : (plan : List ℕ) (streams offset : ℕ) → ((i : ℕ) → byte_at plan i < 256) → streams ≤ most_streams
    → file_verdict (take enough plan) streams offset ≡ file_verdict plan streams offset
unfolding file_verdict
file_read plan streams offset bytes few =
    by_test (leb (length plan) enough)
    (λ e. rw (take_all enough plan (leb-true _ _ e)))
    (λ e. let long : enough < length plan = leb-false _ _ e in rw (long_file plan streams bytes few (omega arith), cycle_read plan))

module _ (junction plan : List ℕ) (offset : ℕ) where
  pub enough_asked : ((i : ℕ) → byte_at plan i < 256) → shift_verdict (take enough_junction junction) (take enough plan) offset ≡ shift_verdict junction plan offset
  unfolding shift_verdict
  enough_asked bytes =
      rw (junction_read junction)
      (later_same (reading junction).verdict _ _ (λ is. file_read plan (streams junction plan offset) offset bytes (taken junction is).fields.few_streams))

  pub enough_shifted : shift_verdict junction plan offset ≡ Passed
      → (take enough plan ≡ plan) × (shifted_plan (take enough_junction junction) (take enough plan) offset ≡ shifted_plan junction plan offset)
  unfolding shifted_plan shift_verdict enough
  enough_shifted passed =
      let both = (shift_passed junction plan offset).0 passed in
      let size = ((well_formed plan (streams junction plan offset)).0 both.1).size in
      let whole = take_all enough plan (omega (arith, size, (taken junction both.0).fields.few_streams)) in
      (whole, rw (junction_read junction, whole))

  -- an offset above every cycle is refused alike, whatever it is
  any_above : (other : ℕ) → most_seconds < offset → most_seconds < other → shift_verdict junction plan offset ≡ shift_verdict junction plan other
  unfolding shift_verdict file_verdict
  any_above other high higher =
      later_same (reading junction).verdict _ _ (λ is. later_same (plan_verdict plan (streams junction plan offset)) _ _ (λ formed.
      let cycle = ((well_formed plan (streams junction plan offset)).0 formed).cycle.1 in
      rw (le-ltb offset (number_at plan 3) (omega arith), le-ltb other (number_at plan 3) (omega arith))))

  -- and alters no byte
  untouched : most_seconds < offset → shifted_plan junction plan offset ≡ plan
  untouched high =
      by_test (is_refused (shift_verdict junction plan offset)) (shift_unaltered junction plan offset)
      (λ e. let h = (shift_passed junction plan offset).0 (not_refused _ e) in
      absurd (omega (arith, h.2, ((well_formed plan (streams junction plan offset)).0 h.1).cycle.1)))

-- so an offset of which no more than some number above every cycle counts gets the answer of the whole offset, and leaves the same bytes
module _ (junction plan : List ℕ) (offset most : ℕ) (above : most_seconds < most) where
  pub most_asked : shift_verdict junction plan (min offset most) ≡ shift_verdict junction plan offset
  most_asked =
      by_test (leb offset most)
      (λ e. rw (min-eq_left (leb-true offset most e)))
      (λ e. let high = leb-false offset most e in
      rw (min-eq_right (le_of_lt high)) (any_above junction plan most offset above (omega arith)))

  pub most_shifted : shifted_plan junction plan (min offset most) ≡ shifted_plan junction plan offset
  most_shifted =
      by_test (leb offset most)
      (λ e. rw (min-eq_left (leb-true offset most e)))
      (λ e. let high = leb-false offset most e in
      rw (min-eq_right (le_of_lt high))
      (untouched junction plan most above ∙ sym (untouched junction plan offset (omega arith))))
