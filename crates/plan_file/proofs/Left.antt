-- The fields that are left from a place on keep the answer of all of them where a field is passed, refused, or the last.
use Prim.Native.Nat.{ℕ, suc, ◌+◌, ◌-◌, ◌≤◌, ◌<◌}
use Rattle.std.proofs.Common.{sub-eq-zero_of_le, sym, ◌∙◌}
use native.Mathlib.Omega.{arith}
use Rattle.std.specs.Prelude.{true, false, List, ◌≡◌, leb, length}
use Rattle.fields.specs.Bytes.{field_end}
use Rattle.fields.specs.Verdict.{ask, is_refused, not_refused, first_refusal, first_refused, first_passed, Passed}
use Rattle.plan_file.specs.Plans.{cycle_verdict, green_verdict, greens_from}
use Rattle.plan_file.specs.WellFormed.{cycle_follows, green_follows}
use Rattle.plan_file.specs.lemmas.Passed.{due_passed}
use Rattle.plan_file.specs.lemmas.Left.{Left}

-- where field 11 is not refused it has five bytes, and field 12 eight, within the file
pub cycle_ends : (s : List ℕ) → cycle_verdict s ≡ Passed → (field_end s 0 ≡ 5) × (5 ≤ length s)
unfolding cycle_verdict
cycle_ends s e =
    let due = (due_passed s 0 _ _).0 e in
    let five = cycle_follows s due.awaited in (five, omega (arith, due.within))

green_ends : (s : List ℕ) (at n : ℕ) → green_verdict s at n ≡ Passed → (field_end s at ≡ at + 8) × (at + 8 ≤ length s)
unfolding green_verdict
green_ends s at n e =
    let due = (due_passed s at _ _).0 e in
    let eight = green_follows s at n due.awaited in (eight, omega (arith, due.within))

module _ (s : List ℕ) (from streams at i : ℕ) (l : Left s from streams at i) where
  -- after the last stream
  pub left_ends : streams ≤ i → ask (leb (length s) at) 12 at Passed ≡ greens_from streams s from 1
  unfolding greens_from
  left_ends h = rw (sub-eq-zero_of_le h) at l.same

  -- at the next one
  next : i < streams
      → first_refusal (green_verdict s at (i + 1)) (greens_from (streams - (i + 1)) s (field_end s at) (i + 1 + 1)) ≡ greens_from streams s from 1
  unfolding greens_from
  next h = let more : streams - i ≡ suc (streams - (i + 1)) = omega arith in rw more at l.same

  pub left_refused : i < streams → is_refused (green_verdict s at (i + 1)) ≡ true → green_verdict s at (i + 1) ≡ greens_from streams s from 1
  left_refused h t = sym (first_refused _ _ t) ∙ next h

  -- a field that is not refused has eight bytes, which fit the file
  pub left_turns : i < streams → is_refused (green_verdict s at (i + 1)) ≡ false → Left s from streams (at + 8) (i + 1)
  left_turns h t =
      let passed = green_ends s at (i + 1) (not_refused (green_verdict s at (i + 1)) t) in
      record {
        few = omega arith;
        inside = passed.1;
        same = rw passed.0 at (sym (first_passed (green_verdict s at (i + 1)) _ t) ∙ next h);
      }
