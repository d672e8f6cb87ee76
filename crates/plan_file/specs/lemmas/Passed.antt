-- The field that is due passes exactly where it ends within the file, is the expected one and has its numbers in range.
use Rattle.std.specs.Prelude.{ℕ, ◌≤◌, Bool, true, List, ◌↔◌, ◌≡◌, ltb, length}
use Rattle.std.proofs.Common.{arith, sym, ◌∙◌, le-leb, lt-ltb}
use Rattle.fields.specs.Bytes.{field_end, fits, fits_within, field_long, fits_end}
use Rattle.fields.specs.Verdict.{ask_passed, Passed}
use Rattle.plan_file.specs.Plans.{due_verdict}

pub record DuePassed (s : List ℕ) (at : ℕ) (expected in_range : Bool) : Type 0 where
  pub within : field_end s at ≤ length s
  pub awaited : expected ≡ true
  pub ranged : in_range ≡ true

pub within_fits : (s : List ℕ) (at : ℕ) → field_end s at ≤ length s → fits s at ≡ true
within_fits s at h = sym (fits_end s at) ∙ le-leb _ _ h

pub due_passed : (s : List ℕ) (at : ℕ) (expected in_range : Bool) → (due_verdict s at expected in_range ≡ Passed) ↔ DuePassed s at expected in_range
unfolding due_verdict
due_passed s at expected in_range = (
  λ e. let early = ask_passed (ltb at (length s)) 12 _ _ e in
      let eleven = ask_passed (fits s at) 11 at _ early.1 in
      let twelve = ask_passed expected 12 at _ eleven.1 in
      record { within = (fits_within s at eleven.0).1; awaited = twelve.0; ranged = (ask_passed in_range 13 at _ twelve.1).0 },
  λ p. simp (lt-ltb at (length s) (omega (arith, p.within, field_long s at)), within_fits s at p.within, p.awaited, p.ranged),
)
