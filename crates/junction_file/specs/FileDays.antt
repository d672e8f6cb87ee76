-- File days change nothing (document 01, "The junction file": changing file days changes no answer of any entry).
use Rattle.std.specs.Prelude.{ℕ, zero, suc, ◌+◌, ◌≤◌, ◌<◌, List, ◌⊎◌, ◌≡◌, ltb, eqb, length}
use Rattle.std.proofs.Common.{arith, sym, ◌∙◌, length-take, get_or-take, get_or-drop}
use Rattle.std.proofs.Math.Logic.{⊎_elim}
use Rattle.std.proofs.Math.ListN.{length-drop}
use Rattle.std.proofs.Math.Seq.{ext_get_or}
use borrow.Author.Tests.{ltb-true, ltb-false, eqb-true, eqb-false}
use Rattle.laws.specs.Tests.{by_test}
use Rattle.fields.specs.Bytes.{byte_at, number_at, field_end, fits, body_of, number_in, byte_in, byte_at_past, field_long}
use Rattle.fields.specs.Verdict.{Passed}
use Rattle.junction.specs.declared.Junction.{Junction}
use Rattle.junction.specs.Layout.{count_length, count_in_range, count_of}
use Rattle.junction_questions.specs.lemmas.Passed.{field_passed}
use Rattle.junction_questions.specs.Questions.{length_right, in_range, refers, body_verdict, named_by, field_verdict}
use Rattle.junction_file.specs.Reading.{with_count, with_field, after_field, read_field}

-- the place i is one of the two bytes of a file day, the sixth and seventh after the tag of a count, of the fields from a place on; fuel is
-- at least the number of those fields
unfoldable pub FileDay : ℕ → List ℕ → ℕ → ℕ → Type 0
FileDay zero s at i = ⊥
FileDay (suc fuel) s at i = ((byte_at s at ≡ 4) × ((i ≡ at + 6) ⊎ (i ≡ at + 7))) ⊎ FileDay fuel s (field_end s at) i

-- two files that differ only in file days
pub record OnlyFileDays (s t : List ℕ) : Type 0 where
  pub long : length s ≡ length t
  pub same : (i : ℕ) → (FileDay (length s) s 0 i → ⊥) → byte_at s i ≡ byte_at t i

-- a file day stands behind the tag, the length, the stream and the count day
file_day_far : (fuel : ℕ) (s : List ℕ) (at i : ℕ) → FileDay fuel s at i → at + 6 ≤ i
unfolding FileDay
file_day_far zero s at i d = absurd d
file_day_far (suc fuel) s at i d =
    let later = file_day_far fuel s (field_end s at) i in
    ⊎_elim (λ (here : (byte_at s at ≡ 4) × ((i ≡ at + 6) ⊎ (i ≡ at + 7))).
    ⊎_elim (λ (e : i ≡ at + 6). omega arith) (λ (e : i ≡ at + 7). omega arith) here.1)
    (λ (l : FileDay fuel s (field_end s at) i). omega (arith, later l, field_long s at)) d

-- a body's bytes are the file's, after the three bytes; past its end there are none
body_at : (s : List ℕ) (at k : ℕ) → k < number_at s (at + 1) → byte_at (body_of s at) k ≡ byte_at s (at + 3 + k)
unfolding byte_at body_of
body_at s at k h = rw (get_or-take, get_or-drop)

body_short : (s : List ℕ) (at : ℕ) → length (body_of s at) ≤ number_at s (at + 1)
unfolding body_of
body_short s at = simp length-take (omega arith)

body_past : (s : List ℕ) (at k : ℕ) → number_at s (at + 1) ≤ k → byte_at (body_of s at) k ≡ 0
body_past s at k h = byte_at_past (body_of s at) k (omega (arith, body_short s at))

-- all that is read of a count
record SameCount (b c : List ℕ) : Type 0 where
  pub long : length b ≡ length c
  stream : byte_at b 0 ≡ byte_at c 0
  day : number_at b 1 ≡ number_at c 1
  flow : number_at b 5 ≡ number_at c 5
  period : byte_at b 7 ≡ byte_at c 7

count_verdict_same : (b c : List ℕ) (at : ℕ) (j : Junction) → SameCount b c
    → body_verdict 4 b at j.held (named_by j b 0) (named_by j b 1) ≡ body_verdict 4 c at j.held (named_by j c 0) (named_by j c 1)
unfolding body_verdict length_right in_range count_in_range number_in byte_in refers
count_verdict_same b c at j e = rw (e.long, e.stream, e.flow, e.period)

with_count_same : (b c : List ℕ) (j : Junction) → SameCount b c → with_field 4 b j ≡ with_field 4 c j
unfolding with_field with_count count_of
with_count_same b c j e = rw (e.stream, e.day, e.flow, e.period)

-- two files agree from a place on, but for the file days
pub record Alike (fuel : ℕ) (s t : List ℕ) (at : ℕ) : Type 0 where
  pub long : length s ≡ length t
  pub same : (i : ℕ) → at ≤ i → (FileDay fuel s at i → ⊥) → byte_at s i ≡ byte_at t i

module _ (fuel : ℕ) (s t : List ℕ) (at : ℕ) (a : Alike (suc fuel) s t at) where
  near_same : (i : ℕ) → at ≤ i → i < at + 6 → byte_at s i ≡ byte_at t i
  near_same i h l = a.same i h (λ d. omega (arith, file_day_far (suc fuel) s at i d))

  tag_same : byte_at s at ≡ byte_at t at
  tag_same = near_same at (omega arith) (omega arith)

  number_same : number_at s (at + 1) ≡ number_at t (at + 1)
  unfolding number_at
  number_same = rw (near_same (at + 1) (omega arith) (omega arith), near_same (at + 1 + 1) (omega arith) (omega arith))

  pub end_same : field_end s at ≡ field_end t at
  unfolding field_end
  end_same = rw number_same

  fits_same : fits s at ≡ fits t at
  unfolding fits
  fits_same = rw (end_same, a.long)

  body_long_same : length (body_of s at) ≡ length (body_of t at)
  unfolding body_of
  body_long_same = simp (length-take, length-drop, a.long, number_same)

  no_file_day : (k : ℕ) → k < number_at s (at + 1) → (byte_at s at ≡ 4 → (k ≡ 3 → ⊥) × (k ≡ 4 → ⊥)) → FileDay (suc fuel) s at (at + 3 + k) → ⊥
  unfolding FileDay field_end
  no_file_day k h other d =
      ⊎_elim (λ (here : (byte_at s at ≡ 4) × ((at + 3 + k ≡ at + 6) ⊎ (at + 3 + k ≡ at + 7))).
      ⊎_elim (λ (e : at + 3 + k ≡ at + 6). (other here.0).0 (omega arith))
      (λ (e : at + 3 + k ≡ at + 7). (other here.0).1 (omega arith)) here.1)
      (λ (l : FileDay fuel s (field_end s at) (at + 3 + k)). omega (arith, file_day_far fuel s (field_end s at) _ l)) d

  -- the bodies agree, but for a count's file day
  body_same : (k : ℕ) → (byte_at s at ≡ 4 → (k ≡ 3 → ⊥) × (k ≡ 4 → ⊥)) → byte_at (body_of s at) k ≡ byte_at (body_of t at) k
  body_same k other =
      by_test (ltb k (number_at s (at + 1)))
      (λ e. let low = ltb-true _ _ e in
      body_at s at k low ∙ a.same (at + 3 + k) (omega arith) (no_file_day k low other) ∙ sym (body_at t at k (rw number_same at low)))
      (λ e. let past = ltb-false _ _ e in body_past s at k past ∙ sym (body_past t at k (rw number_same at past)))

  same_count : byte_at s at ≡ 4 → SameCount (body_of s at) (body_of t at)
  unfolding number_at
  same_count e =
      record {
        long = body_long_same;
        stream = body_same 0 (λ e. omega arith);
        day = rw (body_same 1 (λ e. omega arith), body_same 2 (λ e. omega arith));
        flow = rw (body_same 5 (λ e. omega arith), body_same 6 (λ e. omega arith));
        period = body_same 7 (λ e. omega arith);
      }

  same_body : (byte_at s at ≡ 4 → ⊥) → body_of s at ≡ body_of t at
  unfolding byte_at
  same_body other = ext_get_or 0 _ _ body_long_same (λ i h. body_same i (λ e. absurd (other e)))

  -- so the field is answered alike
  pub field_same : (j : Junction) → read_field s at j ≡ read_field t at j
  unfolding read_field field_verdict after_field
  field_same j =
      by_test (eqb (byte_at s at) 4)
      (λ e. let count : byte_at s at ≡ 4 = eqb-true _ _ e in
      rw (← fits_same, ← tag_same, count, count_verdict_same _ _ at j (same_count count), with_count_same _ _ j (same_count count)))
      (λ e. rw (← fits_same, ← tag_same, same_body (eqb-false _ _ e)))

  -- a count that passes ends after its file day
  count_ends : (j : Junction) → field_verdict s at j ≡ Passed → byte_at s at ≡ 4 → at + 10 ≤ field_end s at
  unfolding field_end length_right
  count_ends j p e =
      let passed = (field_passed s at j p).1 in
      let long = eqb-true (length (body_of s at)) count_length (rw e at passed.long) in
      omega (arith, body_short s at)

  -- and after it the files agree too
  pub alike_later : (j : Junction) → field_verdict s at j ≡ Passed → Alike fuel s t (field_end s at)
  unfolding FileDay
  alike_later j p =
      record {
        long = a.long;
        same = λ i h none. a.same i (omega (arith, field_long s at)) (λ d.
            ⊎_elim (λ (here : (byte_at s at ≡ 4) × ((i ≡ at + 6) ⊎ (i ≡ at + 7))).
            let ends = count_ends j p here.0 in
            ⊎_elim (λ (e : i ≡ at + 6). omega arith) (λ (e : i ≡ at + 7). omega arith) here.1)
            none d);
      }
