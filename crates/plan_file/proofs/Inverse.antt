-- Reader and writer are each other's inverse: a right plan that is written is read back, and a well-formed file that is read is written again.
use Prim.Native.Nat.{ℕ, zero, suc, ◌+◌, ◌-◌, ◌*◌, ◌/◌, ◌%◌, ◌≤◌, ◌<◌}
use Rattle.std.proofs.Math.Nat.{add-zero, add-sub_cancel}
use native.Mathlib.Omega.{arith}
use Rattle.std.specs.Prelude.{List, ◌≡◌, ltb}
use Rattle.std.proofs.Math.Path.{refl, sym}
use Rattle.std.proofs.Common.{◌∙◌}
use Rattle.std.proofs.Math.ListN.{length}
use Rattle.std.proofs.Math.Seq.{ext_get_or}
use borrow.Author.Tests.{le-ltb, ltb-true, ltb-false}
use Rattle.laws.specs.Ranges.{Between}
use Rattle.laws.specs.Tests.{by_test}
use Rattle.limits.specs.Limits.{most_streams}
use Rattle.fields.specs.Bytes.{byte_at, number_at}
use Rattle.fields.specs.Verdict.{Passed}
use Rattle.plan_file.specs.Plans.{green_at, green_of, plan_of, plan_verdict}
use Rattle.plan_file.proofs.WellFormed.{well_formed}
use Rattle.plan_file.specs.WellFormed.{GreenRight, PlanRight, WellFormed, cycle_read, green_read}
use Rattle.plan_file.specs.Writing.{cycle_field, green_field, plan_file, plan_size, plan_long}
use Rattle.plan_file.specs.lemmas.Bytes.{cycle_byte, green_byte, plan_byte, plan_byte_lem}
use Rattle.plan_file.specs.declared.Plan.{Plan}

-- a number is its two bytes
pub two_bytes : (n : ℕ) → n / 256 * 256 + n % 256 ≡ n
two_bytes n = omega arith

-- the byte at place r of field 12 of the stream with number i + 1
green_byte_lem : (p : Plan) (i r k : ℕ) → r < 8 → k ≡ 5 + 8 * i + r → plan_byte p k ≡ green_byte (green_of p (i + 1)) (i + 1) r
unfolding plan_byte
green_byte_lem p i r k low e =
    let stream : (k - 5) / 8 ≡ i = omega arith in
    let place : (k - 5) % 8 ≡ r = omega arith in
    rw (le-ltb k 5 (omega arith), stream, place)

module _ (p : Plan) (streams : ℕ) (few : streams ≤ most_streams) (right : PlanRight p streams) where
  byte_there : (k : ℕ) → k < plan_size streams → byte_at (plan_file p streams) k ≡ plan_byte p k
  unfolding byte_at
  byte_there k h = plan_byte_lem p streams k h

  number_there : (k : ℕ) → k + 1 < plan_size streams → number_at (plan_file p streams) k ≡ plan_byte p k * 256 + plan_byte p (k + 1)
  unfolding number_at
  number_there k h = rw (byte_there k (omega arith), byte_there (k + 1) h)

  cycle_there : number_at (plan_file p streams) 3 ≡ p.cycle
  unfolding plan_size plan_byte cycle_byte cycle_field
  cycle_there = number_there 3 (omega arith) ∙ two_bytes p.cycle

  start_there : (i : ℕ) → i < streams → number_at (plan_file p streams) (5 + 8 * i + 4) ≡ (green_of p (i + 1)).start
  unfolding plan_size green_byte green_field
  start_there i h =
      number_there (5 + 8 * i + 4) (omega arith)
      ∙ rw (green_byte_lem p i 4 (5 + 8 * i + 4) (omega arith) refl, green_byte_lem p i 5 (5 + 8 * i + 4 + 1) (omega arith) (omega arith))
      (two_bytes (green_of p (i + 1)).start)

  length_there : (i : ℕ) → i < streams → number_at (plan_file p streams) (5 + 8 * i + 6) ≡ (green_of p (i + 1)).length
  unfolding plan_size green_byte green_field
  length_there i h =
      number_there (5 + 8 * i + 6) (omega arith)
      ∙ rw (green_byte_lem p i 6 (5 + 8 * i + 6) (omega arith) refl, green_byte_lem p i 7 (5 + 8 * i + 6 + 1) (omega arith) (omega arith))
      (two_bytes (green_of p (i + 1)).length)

  green_right : (i : ℕ) → i < streams → GreenRight (plan_file p streams) i
  unfolding plan_size green_byte green_field
  green_right i h =
      record {
        tag = byte_there (5 + 8 * i) (omega arith) ∙ green_byte_lem p i 0 (5 + 8 * i) (omega arith) (omega arith);
        field_length =
            number_there (5 + 8 * i + 1) (omega arith)
            ∙ rw (green_byte_lem p i 1 (5 + 8 * i + 1) (omega arith) refl, green_byte_lem p i 2 (5 + 8 * i + 1 + 1) (omega arith) (omega arith));
        stream =
            byte_there (5 + 8 * i + 3) (omega arith)
            ∙ green_byte_lem p i 3 (5 + 8 * i + 3) (omega arith) refl;
        start = rw (start_there i h, cycle_there) (right.start (i + 1) (omega arith));
        length = rw (length_there i h, cycle_there) (right.length (i + 1) (omega arith));
      }

  pub written_well_formed : WellFormed (plan_file p streams) streams
  unfolding plan_size plan_byte cycle_byte cycle_field
  written_well_formed =
      record {
        size = plan_long p streams;
        tag = byte_there 0 (omega arith);
        field_length = number_there 1 (omega arith);
        cycle = rw cycle_there right.cycle;
        greens = green_right;
      }

  pub written_passes : plan_verdict (plan_file p streams) streams ≡ Passed
  written_passes = (well_formed _ streams).1 written_well_formed

  pub written_cycle : (plan_of (plan_file p streams)).cycle ≡ p.cycle
  written_cycle = cycle_read _ ∙ cycle_there

  pub written_green : (n : ℕ) → Between 1 streams n → green_of (plan_of (plan_file p streams)) n ≡ green_of p n
  unfolding green_at
  written_green n h =
      let same : n - 1 + 1 ≡ n = omega arith in
      green_read _ streams few written_well_formed n h
      ∙ rw (start_there (n - 1) (omega arith), length_there (n - 1) (omega arith), same)

-- the other way: what is read is written again
module _ (s : List ℕ) (streams : ℕ) (few : streams ≤ most_streams) (w : WellFormed s streams) (bytes : (i : ℕ) → byte_at s i < 256) where
  -- the bytes of a number are its quotient and its remainder
  high_byte : (i : ℕ) → number_at s i / 256 ≡ byte_at s i
  unfolding number_at
  high_byte i = omega (arith, bytes (i + 1))

  low_byte : (i k : ℕ) → k ≡ i + 1 → number_at s i % 256 ≡ byte_at s k
  unfolding number_at
  low_byte i k next = rw next (omega (arith, bytes (i + 1)))

  cycle_again : (k : ℕ) → k < 5 → cycle_byte (number_at s 3) k ≡ byte_at s k
  unfolding cycle_byte cycle_field
  cycle_again zero h = sym w.tag
  cycle_again (suc zero) h = omega (arith, high_byte 1, w.field_length)
  cycle_again (suc (suc zero)) h = omega (arith, low_byte 1 2 refl, w.field_length)
  cycle_again (suc (suc (suc zero))) h = high_byte 3
  cycle_again (suc (suc (suc (suc zero)))) h = low_byte 3 4 refl
  cycle_again (suc (suc (suc (suc (suc k))))) h = absurd (omega arith)

  green_again : (i : ℕ) → i < streams → (r : ℕ) → r < 8 → green_byte (green_at s i) (i + 1) r ≡ byte_at s (5 + 8 * i + r)
  unfolding green_byte green_field green_at
  green_again i here zero h = rw add-zero (sym (w.greens i here).tag)
  green_again i here (suc zero) h = omega (arith, high_byte (5 + 8 * i + 1), (w.greens i here).field_length)
  green_again i here (suc (suc zero)) h = omega (arith, low_byte (5 + 8 * i + 1) (5 + 8 * i + 2) (omega arith), (w.greens i here).field_length)
  green_again i here (suc (suc (suc zero))) h = omega (arith, (w.greens i here).stream)
  green_again i here (suc (suc (suc (suc zero)))) h = high_byte (5 + 8 * i + 4)
  green_again i here (suc (suc (suc (suc (suc zero))))) h = low_byte (5 + 8 * i + 4) _ (omega arith)
  green_again i here (suc (suc (suc (suc (suc (suc zero)))))) h = high_byte (5 + 8 * i + 6)
  green_again i here (suc (suc (suc (suc (suc (suc (suc zero))))))) h = low_byte (5 + 8 * i + 6) _ (omega arith)
  green_again i here (suc (suc (suc (suc (suc (suc (suc (suc r)))))))) h = absurd (omega arith)

  byte_again : (k : ℕ) → k < length s → plan_byte (plan_of s) k ≡ byte_at s k
  unfolding plan_byte
  byte_again k h =
      by_test (ltb k 5) (λ e. rw (e, cycle_read) (cycle_again k (ltb-true k 5 e)))
      (λ e. let late : 5 ≤ k = ltb-false k 5 e in
      let here : (k - 5) / 8 < streams = omega (arith, w.size) in
      let there : 5 + 8 * ((k - 5) / 8) + (k - 5) % 8 ≡ k = omega arith in
      rw (e, green_read s streams few w ((k - 5) / 8 + 1) (omega arith), add-sub_cancel ((k - 5) / 8) 1)
      (green_again ((k - 5) / 8) here ((k - 5) % 8) (omega arith) ∙ rw there))

  pub read_written : plan_file (plan_of s) streams ≡ s
  unfolding byte_at plan_size
  read_written =
      let long = plan_long (plan_of s) streams in
      ext_get_or 0 _ _ (long ∙ sym w.size) (λ k h.
      plan_byte_lem (plan_of s) streams k (omega (arith, long)) ∙ byte_again k (omega (arith, long, w.size)))
