-- A file is taken exactly where its fields pass one after the other to its end, and the whole then passes.
use Prim.Native.Nat.{ℕ, zero, suc, ◌-◌, ◌≤◌, ◌<◌}
use Rattle.std.proofs.Common.{arith, true≢false, sym, ◌∙◌, ap}
use Rattle.std.proofs.lemmas.Bool.{false≢true}
use Rattle.std.specs.Prelude.{List, ◌≡◌, leb, ltb, length}
use Rattle.std.proofs.Math.Path.{refl}
use borrow.Author.Tests.{ltb-true, ltb-false, leb-true, le-leb}
use Rattle.laws.specs.Tests.{by_test}
use Rattle.limits.specs.Limits.{most_bytes}
use Rattle.fields.specs.Bytes.{byte_at, body_of, field_long}
use Rattle.fields.specs.Verdict.{is_refused, not_refused, Passed}
use Rattle.junction.specs.declared.Junction.{Junction}
use Rattle.junction_file.specs.Reading.{Reading}
use Rattle.junction_places.specs.Blank.{blank}
use Rattle.junction_questions.specs.Questions.{field_verdict, whole_verdict}
use Rattle.junction_file.specs.Reading.{with_field, after_field, read_field, at_end, read_from, reading}
use Rattle.junction_file.specs.lemmas.Rest.{Rest}
use Rattle.junction_file.proofs.lemmas.Rest.{rest_begins, rest_turns, rest_ends}
use Rattle.junction_description.specs.File.{place}

-- the first i fields pass, and say j
pub data Passes (s : List ℕ) : ℕ → Junction → Type 0 where
  begin : Passes s 0 blank
  next : {i : ℕ} {j : Junction} → Passes s i j → place s i < length s → field_verdict s (place s i) j ≡ Passed
      → Passes s (suc i) (with_field (byte_at s (place s i)) (body_of s (place s i)) j)

-- all fields pass, and the whole
pub record Read (s : List ℕ) : Type 0 where
  pub size : length s ≤ most_bytes
  pub fields : ℕ
  pub passes : Passes s fields (reading s).junction
  pub end : length s ≤ place s fields
  pub whole : whole_verdict (length s) (reading s).junction ≡ Passed

module _ (s : List ℕ) where
  rest : {i : ℕ} {j : Junction} → Passes s i j → Rest s (place s i) j
  unfolding place
  rest begin = rest_begins s
  rest (next p low e) = rest_turns s _ _ (rest p) low e _ refl

  -- a reading that passes ends after some fields that pass
  Ends : Reading → Type 0
  Ends r =
      r.verdict ≡ Passed
      → (n : ℕ) × Passes s n r.junction × (length s ≤ place s n) × (whole_verdict (length s) r.junction ≡ Passed)

  at_end_lem : (i : ℕ) (j : Junction) → Passes s i j → length s ≤ place s i → Ends (at_end (length s) j)
  unfolding Ends at_end
  at_end_lem i j p high e = (i, p, high, e)

  from_passes : (fuel i : ℕ) (j : Junction) → Passes s i j → length s - place s i ≤ fuel → Ends (read_from fuel s (place s i) j)
  unfolding read_from read_field after_field place
  from_passes zero i j p few = at_end_lem i j p (omega arith)
  from_passes (suc fuel) i j p few =
      let later = from_passes fuel (suc i) (with_field (byte_at s (place s i)) (body_of s (place s i)) j) in
      by_test (ltb (place s i) (length s))
      (λ l. by_test (is_refused (field_verdict s (place s i) j))
      (λ e. rw (l, e) (unfold Ends in λ v. absurd (false≢true (rw v at e))))
      (λ e. rw (l, e) (later (next p (ltb-true _ _ l) (not_refused _ e)) (omega (arith, field_long s (place s i))))))
      (λ l. rw l (at_end_lem i j p (ltb-false _ _ l)))

  all_passes : Ends (read_from (length s) s 0 blank)
  unfolding place
  all_passes = from_passes (length s) 0 blank begin (omega arith)

  within_size : length s ≤ most_bytes → reading s ≡ read_from (length s) s 0 blank
  unfolding reading
  within_size h = rw (le-leb _ _ h)

  size_passed : (reading s).verdict ≡ Passed → length s ≤ most_bytes
  unfolding reading
  size_passed v =
      by_test (leb (length s) most_bytes) (λ l. leb-true _ _ l) (λ l. absurd (true≢false (ap is_refused (rw l at v))))

  pub taken_read : (reading s).verdict ≡ Passed → Read s
  unfolding Ends
  taken_read v =
      let h = size_passed v in
      let end = (rw (← within_size h) at all_passes) v in
      record { size = h; fields = end.0; passes = end.1; end = end.2; whole = end.3 }

  -- the other way: after all fields the questions of the whole are asked
  pub read_all : length s ≤ most_bytes → (n : ℕ) (j : Junction) → Passes s n j → length s ≤ place s n → reading s ≡ at_end (length s) j
  read_all h n j p high = within_size h ∙ sym (rest_ends s (place s n) j (rest p) high)
