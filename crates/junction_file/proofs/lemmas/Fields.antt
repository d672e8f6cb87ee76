-- What the questions of a taken file's fields, and of the whole, say of its junction, step by step.
use Prim.Native.Nat.{ℕ, zero, suc}
use Rattle.std.proofs.Common.{true≢false, ap}
use Rattle.std.specs.Prelude.{List, ◌≡◌, leb, ltb, length}
use Rattle.std.proofs.lemmas.Bool.{false≢true}
use Rattle.laws.specs.Tests.{by_test}
use Rattle.limits.specs.Limits.{most_bytes}
use Rattle.fields.specs.Bytes.{field_end}
use Rattle.fields.specs.Verdict.{is_refused, Passed}
use Rattle.junction.specs.declared.Junction.{Junction}
use Rattle.junction_places.specs.Blank.{blank}
use Rattle.junction_questions.specs.lemmas.Passed.{BodyPassed}
use Rattle.junction_questions.specs.Questions.{whole_verdict}
use Rattle.junction_file.specs.Reading.{with_field, read_field, at_end, read_from, reading}
use Rattle.junction_file.specs.lemmas.Rest.{passed_field}
use Rattle.junction_file.specs.lemmas.Fields.{Reached, field_reached}

module _ (P : Junction → Type 0) (step : (tag : ℕ) (b : List ℕ) (j : Junction) → BodyPassed tag b j → P j → P (with_field tag b j)) where
  from_reached : (fuel : ℕ) (s : List ℕ) (at : ℕ) (j : Junction) → P j → Reached P (length s) (read_from fuel s at j)
  unfolding read_from at_end
  from_reached zero s at j p = λ e. (p, e)
  from_reached (suc fuel) s at j p =
      let later = from_reached fuel s (field_end s at) (read_field s at j).junction in
      by_test (ltb at (length s))
      (λ l. by_test (is_refused (read_field s at j).verdict)
      (λ e. rw (l, e) (λ v. absurd (false≢true (rw v at e))))
      (λ e. rw (l, e) (later ((field_reached P step) s at j p (passed_field s at j e)))))
      (λ l. rw l (λ e. (p, e)))

  -- what holds before the first field, and after a field that passes where it held before that field, holds of a junction that is taken
  pub by_fields : P blank → (s : List ℕ) → (reading s).verdict ≡ Passed
      → P (reading s).junction × (whole_verdict (length s) (reading s).junction ≡ Passed)
  unfolding reading
  by_fields p s =
      by_test (leb (length s) most_bytes) (λ l. rw l (from_reached (length s) s 0 blank p))
      (λ l. rw l (λ v. absurd (true≢false (ap is_refused v))))
