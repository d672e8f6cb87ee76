-- What is refused, and that a refusal alters no byte: nothing exactly where the junction file is taken, the plan file well-formed for it and the
-- offset below C; 24 at 0 where the two files are and the offset is not. The rules of the judge are not asked.
use Rattle.std.specs.Prelude.{ℕ, ◌≤◌, ◌<◌, true, List, ◌↔◌, ◌≡◌, ltb}
use Rattle.std.proofs.Common.{arith}
use Rattle.std.proofs.Math.Bool.{cond}
use Rattle.std.proofs.Math.Path.{ap}
use borrow.Author.Tests.{ltb-true, lt-ltb, le-ltb}
use Rattle.fields.specs.Bytes.{number_at}
use Rattle.fields.specs.lemmas.Numbers.{Numbered, ask_numbered, first_numbered, passed_number}
use Rattle.fields.specs.Verdict.{number_of, is_refused, ask, ask_passed, both_passed, Passed, Refused}
use Rattle.junction_file.proofs.Numbers.{reading_numbered}
use Rattle.junction_file.specs.Reading.{reading}
use Rattle.plan_file.proofs.Numbers.{plan_numbered}
use Rattle.plan_file.specs.Plans.{plan_verdict}
use Rattle.offsets.specs.Shifting.{shifted, file_verdict, shift_verdict, shifted_plan}
use Rattle.offsets.specs.Refused.{streams}

-- the plan's questions and 24
module _ (plan : List ℕ) (streams offset : ℕ) where
  pub file_passed : (file_verdict plan streams offset ≡ Passed) ↔ ((plan_verdict plan streams ≡ Passed) × (offset < number_at plan 3))
  unfolding file_verdict
  file_passed =
      let both = both_passed (plan_verdict plan streams) (ask (ltb offset (number_at plan 3)) 24 0 Passed) in (
        λ e. ((both.0 e).0, ltb-true _ _ (ask_passed (ltb offset (number_at plan 3)) 24 0 Passed (both.0 e).1).0),
        λ h. both.1 (h.0, simp (lt-ltb offset (number_at plan 3) h.1)),
      )

  file_numbered : Numbered (file_verdict plan streams offset)
  unfolding file_verdict
  file_numbered =
      first_numbered (plan_verdict plan streams) _ (plan_numbered plan streams) (ask_numbered (ltb offset (number_at plan 3)) 24 0 Passed (omega arith) tt)

module _ (junction plan : List ℕ) (offset : ℕ) where
  pub shift_passed : (shift_verdict junction plan offset ≡ Passed)
      ↔ (((reading junction).verdict ≡ Passed) × (plan_verdict plan (streams junction plan offset) ≡ Passed) × (offset < number_at plan 3))
  unfolding shift_verdict
  shift_passed =
      let both = both_passed (reading junction).verdict (file_verdict plan (streams junction plan offset) offset) in
      let own = file_passed plan (streams junction plan offset) offset in (
        λ e. let b = both.0 e in let f = own.0 b.1 in (b.0, f.0, f.1),
        λ h. both.1 (h.0, own.1 (h.1, h.2)),
      )

  -- the paper's number is 0 exactly there
  pub shift_number : (number_of (shift_verdict junction plan offset) ≡ 0) ↔ (shift_verdict junction plan offset ≡ Passed)
  unfolding shift_verdict
  shift_number = passed_number _ (first_numbered (reading junction).verdict _ (reading_numbered junction) (file_numbered plan (streams junction plan offset) offset))

  -- 24
  pub not_below_lem : (reading junction).verdict ≡ Passed → plan_verdict plan (streams junction plan offset) ≡ Passed → number_at plan 3 ≤ offset
      → shift_verdict junction plan offset ≡ Refused 24 0
  unfolding shift_verdict file_verdict
  not_below_lem is formed most = simp (is, formed, le-ltb offset (number_at plan 3) most)

  -- the bytes of the lent file
  pub shift_unaltered : is_refused (shift_verdict junction plan offset) ≡ true → shifted_plan junction plan offset ≡ plan
  unfolding shifted_plan
  shift_unaltered e = ap (λ refused. cond refused plan (shifted plan offset (streams junction plan offset))) e

  pub shift_altered : shift_verdict junction plan offset ≡ Passed → shifted_plan junction plan offset ≡ shifted plan offset (streams junction plan offset)
  unfolding shifted_plan
  shift_altered e = ap (λ v. cond (is_refused v) plan (shifted plan offset (streams junction plan offset))) e
