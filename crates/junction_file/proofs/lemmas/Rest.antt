-- What is left of a file from a place on has the answer of the whole file: the invariant of the loop over its fields.
use Prim.Native.Nat.{ℕ, zero, suc, ◌-◌, ◌≤◌, ◌<◌}
use Rattle.std.proofs.Common.{arith, sym, ◌∙◌, ap}
use Rattle.std.specs.Prelude.{true, false, List, ◌≡◌, length}
use Rattle.std.proofs.Math.Path.{refl}
use borrow.Author.Tests.{lt-ltb, le-ltb, lt-leb}
use Rattle.fields.specs.Bytes.{byte_at, field_end, body_of, fits_within, field_long, fits_end}
use Rattle.fields.specs.Verdict.{is_refused, Passed, Refused}
use Rattle.junction.specs.declared.Junction.{Junction}
use Rattle.junction_file.specs.Reading.{Reading}
use Rattle.junction_places.specs.Blank.{blank}
use Rattle.junction_questions.specs.lemmas.Passed.{field_passed}
use Rattle.junction_questions.specs.Questions.{field_verdict}
use Rattle.junction_file.specs.Reading.{with_field, after_field, read_field, at_end, read_from}
use Rattle.junction_file.specs.lemmas.Rest.{Rest}

pub rest_begins : (s : List ℕ) → Rest s 0 blank
rest_begins s = record { fuel = length s; enough = omega arith; inside = omega arith; same = refl }

module _ (s : List ℕ) (at : ℕ) (j : Junction) where
  -- at the end of the file
  from_end : (fuel : ℕ) → length s ≤ at → read_from fuel s at j ≡ at_end (length s) j
  unfolding read_from
  from_end zero h = refl
  from_end (suc fuel) h = rw (le-ltb at (length s) h)

  pub rest_ends : Rest s at j → length s ≤ at → at_end (length s) j ≡ read_from (length s) s 0 blank
  rest_ends r h = sym (from_end r.fuel h) ∙ r.same

  -- at a field that is refused
  from_refused : (fuel : ℕ) → length s - at ≤ fuel → at < length s → is_refused (read_field s at j).verdict ≡ true → read_from fuel s at j ≡ read_field s at j
  unfolding read_from
  from_refused zero few h t = absurd (omega arith)
  from_refused (suc fuel) few h t = rw (lt-ltb at (length s) h, t)

  pub rest_refused : Rest s at j → at < length s → is_refused (field_verdict s at j) ≡ true
      → ◌≡◌ {A = Reading} (record { verdict = field_verdict s at j; junction = j }) (read_from (length s) s 0 blank)
  unfolding read_field after_field
  rest_refused r h t = simp t at (sym (from_refused r.fuel r.enough h t) ∙ r.same)

  -- at a field that does not fit; a field that fits has the answer of its body
  pub rest_unfit : Rest s at j → at < length s → length s < field_end s at
      → ◌≡◌ {A = Reading} (record { verdict = Refused 2 at; junction = j }) (read_from (length s) s 0 blank)
  rest_unfit r h past =
      let e : field_verdict s at j ≡ Refused 2 at = unfold field_verdict in rw (sym (fits_end s at) ∙ lt-leb _ _ past) in
      rw e at (rest_refused r h (ap is_refused e))

  -- at a field that passes
  from_passed : (fuel : ℕ) → length s - at ≤ fuel → at < length s → is_refused (read_field s at j).verdict ≡ false → field_end s at ≤ length s
      → read_from fuel s at j ≡ read_from (length s) s 0 blank → Rest s (field_end s at) (read_field s at j).junction
  unfolding read_from
  from_passed zero few h t inside same = absurd (omega arith)
  from_passed (suc fuel) few h t inside same =
      record {
        fuel = fuel;
        enough = omega (arith, field_long s at);
        inside = inside;
        same = simp (lt-ltb at (length s) h, t) at same;
      }

  pub rest_turns : Rest s at j → at < length s → field_verdict s at j ≡ Passed → (end : ℕ) → end ≡ field_end s at
      → Rest s end (with_field (byte_at s at) (body_of s at) j)
  unfolding read_field after_field
  rest_turns r h e end is =
      rw is (simp e at (from_passed r.fuel r.enough h (ap is_refused e) (fits_within s at (field_passed s at j e).0).1 r.same))
