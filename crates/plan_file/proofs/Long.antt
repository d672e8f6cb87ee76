-- A plan file's answer is decided by its first bytes: a program that reads so many of them answers as for the whole file.
use Prim.Native.Nat.{ℕ, zero, suc, ◌+◌, ◌*◌, ◌≤◌, ◌<◌}
use Rattle.std.proofs.Common.{le_refl, arith, ◌∙◌, length-take-le, get_or-take}
use Rattle.std.specs.Prelude.{Bool, List, ◌≡◌, length, take}
use Rattle.std.proofs.Math.Path.{sym}
use borrow.Author.Tests.{lt-leb, lt-ltb}
use Rattle.limits.specs.Limits.{most_streams}
use Rattle.fields.specs.Bytes.{byte_at, number_at, number_in, field_end}
use Rattle.fields.specs.Verdict.{ask, later_same, Passed}
use Rattle.plan_file.specs.lemmas.Passed.{due_passed, within_fits}
use Rattle.plan_file.specs.Plans.{due_verdict, cycle_expected, cycle_verdict, green_expected, green_in_range, green_verdict, greens_from}
use Rattle.plan_file.specs.Plans.{plan_verdict}
use Rattle.plan_file.specs.WellFormed.{cycle_follows, green_follows}
use Rattle.plan_file.specs.lemmas.Long.{enough}

-- where so many bytes follow, the file does not end too early and the field fits
due_long : (s : List ℕ) (at : ℕ) (expected in_range : Bool) → at + 3 + 65535 ≤ length s → number_at s (at + 1) ≤ 65535
    → due_verdict s at expected in_range ≡ ask expected 12 at (ask in_range 13 at Passed)
unfolding due_verdict field_end
due_long s at expected in_range long small = simp (lt-ltb at (length s) (omega arith), within_fits s at (omega arith))

-- two long files with the same first bytes
record SameStart (s t : List ℕ) : Type 0 where
  bytes : (i : ℕ) → byte_at s i < 256
  long_s : enough ≤ length s
  long_t : enough ≤ length t
  same : (i : ℕ) → i < enough → byte_at t i ≡ byte_at s i

module _ (s t : List ℕ) (a : SameStart s t) where
  number_small : (i : ℕ) → number_at s i ≤ 65535
  unfolding number_at
  number_small i = omega (arith, a.bytes i, a.bytes (i + 1))

  byte_same : (i : ℕ) → i ≤ 140 → byte_at t i ≡ byte_at s i
  unfolding enough
  byte_same i h = a.same i (omega arith)

  number_same : (i : ℕ) → i < 140 → number_at t i ≡ number_at s i
  unfolding number_at
  number_same i h = rw (byte_same i (omega arith), byte_same (i + 1) (omega arith))

  due_same : (at : ℕ) (expected in_range : Bool) → at ≤ 133 → due_verdict t at expected in_range ≡ due_verdict s at expected in_range
  unfolding enough
  due_same at expected in_range h =
      let small = number_small (at + 1) in
      due_long t at expected in_range (omega (arith, a.long_t)) (rw (number_same (at + 1) (omega arith)) small)
      ∙ sym (due_long s at expected in_range (omega (arith, a.long_s)) small)

  cycle_same : cycle_verdict t ≡ cycle_verdict s
  unfolding cycle_verdict cycle_expected
  cycle_same =
      rw (byte_same 0 (omega arith), number_same 1 (omega arith), number_same 3 (omega arith)) (due_same 0 _ _ (omega arith))

  green_same : (at n : ℕ) → at ≤ 133 → green_verdict t at n ≡ green_verdict s at n
  unfolding green_verdict green_expected green_in_range number_in
  green_same at n h =
      rw (
        byte_same at (omega arith),
        number_same (at + 1) (omega arith),
        byte_same (at + 3) (omega arith),
        number_same 3 (omega arith),
        number_same (at + 4) (omega arith),
        number_same (at + 6) (omega arith),
      )
      (due_same at _ _ h)

  end_same : (at : ℕ) → at ≤ 133 → field_end t at ≡ field_end s at
  unfolding field_end
  end_same at h = rw (number_same (at + 1) (omega arith))

  greens_same : (streams i : ℕ) → i + streams ≤ most_streams → greens_from streams t (5 + 8 * i) (i + 1) ≡ greens_from streams s (5 + 8 * i) (i + 1)
  unfolding greens_from green_verdict enough
  greens_same zero i h =
      simp (lt-leb (length s) (5 + 8 * i) (omega (arith, a.long_s)), lt-leb (length t) (5 + 8 * i) (omega (arith, a.long_t)))
  greens_same (suc streams) i h =
      let later = greens_same streams (i + 1) in
      rw (green_same (5 + 8 * i) (i + 1) (omega arith))
      (later_same (green_verdict s (5 + 8 * i) (i + 1)) _ _
      (λ p.
      let eight : field_end s (5 + 8 * i) ≡ 5 + 8 * (i + 1) =
      omega (arith, green_follows s (5 + 8 * i) (i + 1) ((due_passed s (5 + 8 * i) _ _).0 p).awaited) in
      rw (end_same (5 + 8 * i) (omega arith), eight) (later (omega arith))))

  plan_same : (streams : ℕ) → streams ≤ most_streams → plan_verdict t streams ≡ plan_verdict s streams
  unfolding plan_verdict cycle_verdict
  plan_same streams h =
      rw cycle_same
      (later_same (cycle_verdict s) _ _
      (λ p. rw (end_same 0 (omega arith), cycle_follows s ((due_passed s 0 _ _).0 p).awaited) (greens_same streams 0 (omega arith))))

-- more bytes change no answer
pub long_file : (s : List ℕ) (streams : ℕ) → ((i : ℕ) → byte_at s i < 256) → streams ≤ most_streams → enough ≤ length s
    → plan_verdict (take enough s) streams ≡ plan_verdict s streams
unfolding byte_at
long_file s streams bytes few long =
    plan_same s (take enough s)
    (record { bytes = bytes; long_s = long; long_t = rw (length-take-le enough s long) (le_refl enough); same = λ i h. get_or-take enough s i 0 h })
    streams few
