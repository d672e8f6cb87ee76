-- What is left of a file from a place on has the answer of the whole file: the invariant of the loop over its fields.
use Prim.Native.Nat.{ℕ, ◌-◌, ◌≤◌}
use Rattle.std.proofs.Common.{sym, ◌∙◌}
use Rattle.std.specs.Prelude.{false, List, ◌≡◌, length}
use borrow.Author.Tests.{le-leb}
use Rattle.fields.specs.Bytes.{byte_at, field_end, body_of, fits_end}
use Rattle.fields.specs.Verdict.{is_refused, not_refused, Passed}
use Rattle.junction.specs.declared.Junction.{Junction}
use Rattle.junction_places.specs.Blank.{blank}
use Rattle.junction_questions.specs.Questions.{body_verdict, named_by, field_verdict}
use Rattle.junction_file.specs.Reading.{after_field, read_field, read_from}

pub record Rest (s : List ℕ) (at : ℕ) (j : Junction) : Type 0 where
  pub fuel : ℕ
  pub enough : length s - at ≤ fuel
  pub inside : at ≤ length s
  pub same : read_from fuel s at j ≡ read_from (length s) s 0 blank

module _ (s : List ℕ) (at : ℕ) (j : Junction) where
  pub field_fits : field_end s at ≤ length s
      → field_verdict s at j ≡ body_verdict (byte_at s at) (body_of s at) at j.held (named_by j (body_of s at) 0) (named_by j (body_of s at) 1)
  unfolding field_verdict
  field_fits h = rw (sym (fits_end s at) ∙ le-leb _ _ h)

  -- a field that is not refused fits the file
  pub passed_field : is_refused (read_field s at j).verdict ≡ false → field_verdict s at j ≡ Passed
  unfolding read_field after_field
  passed_field t = not_refused (field_verdict s at j) t
