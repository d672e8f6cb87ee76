-- What a shifted plan file holds: it is as long as before, each start is (start + offset) modulo C, and every other byte is as it was. An offset of
-- C or more does what it does taken modulo C. The file is well-formed where it was before, and says the same cycle and the same lengths.
use Prim.Native.Nat.{ℕ, zero, suc, ◌+◌, ◌-◌, ◌*◌, ◌/◌, ◌%◌, ◌≤◌, ◌<◌}
use Rattle.std.proofs.Common.{mod-lt, add-one, ⊎_elim, ◌∙◌}
use Rattle.std.proofs.Math.Nat.{add-mod-mod}
use native.Mathlib.Omega.{arith}
use Rattle.std.specs.Prelude.{List, ◌≡◌, eqb}
use Rattle.std.proofs.Math.Logic.{inl, inr}
use Rattle.std.proofs.Math.Path.{refl}
use Rattle.std.proofs.Math.ListN.{length}
use borrow.Author.Tests.{eqb-true, eqb-false}
use Rattle.laws.specs.Ranges.{Between}
use Rattle.laws.specs.Tests.{by_test}
use Rattle.limits.specs.Limits.{most_streams}
use Rattle.fields.specs.Bytes.{byte_at, number_at}
use Rattle.fields.specs.Verdict.{Passed}
use Rattle.plan_file.proofs.Inverse.{two_bytes}
use Rattle.plan_file.specs.Plans.{plan_verdict, plan_of, green_of, green_at}
use Rattle.plan_file.specs.WellFormed.{GreenRight, WellFormed, green_read}
use Rattle.plan_file.proofs.WellFormed.{well_formed}
use Rattle.offsets.specs.Shifting.{moved, start_place, with_number, shifted}
use Rattle.offsets.specs.Shifted.{with_size, with_others, with_high, with_low, StartByte, moved_start}

-- the bytes of field 11 are no start's, nor are those of a field 12 before its start and after it
before_greens : (n k : ℕ) → k < 5 → StartByte n k → ⊥
unfolding StartByte start_place
before_greens n k first b = ⊎_elim (λ e. omega (arith, e)) (λ e. omega (arith, e)) b.2

before_start : (n i r k : ℕ) → r < 4 → k ≡ 5 + 8 * i + r → StartByte n k → ⊥
unfolding StartByte start_place
before_start n i r k early place b = ⊎_elim (λ e. omega (arith, e)) (λ e. omega (arith, e)) b.2

after_start : (n i r k : ℕ) → Between 6 7 r → k ≡ 5 + 8 * i + r → StartByte n k → ⊥
unfolding StartByte start_place
after_start n i r k late place b = ⊎_elim (λ e. omega (arith, e)) (λ e. omega (arith, e)) b.2

-- nor are those from the start of the next stream on
later_start : (n k : ℕ) → start_place n ≤ k → StartByte n k → ⊥
unfolding StartByte start_place
later_start n k late b = ⊎_elim (λ e. omega (arith, e, b.1)) (λ e. omega (arith, e, b.1)) b.2

module _ (plan : List ℕ) (offset : ℕ) where
  -- where a loop over the streams begins and turns
  pub shifted_none : shifted plan offset 0 ≡ plan
  unfolding shifted
  shifted_none = refl

  pub shifted_next : (n : ℕ) → shifted plan offset (n + 1)
      ≡ with_number (shifted plan offset n) (start_place n) (moved (number_at plan 3) offset (number_at plan (start_place n)))
  unfolding shifted
  shifted_next n = rw (add-one n)

  -- an offset of C or more
  pub offset_modulo : (n : ℕ) → shifted plan (offset % number_at plan 3) n ≡ shifted plan offset n
  unfolding shifted moved
  offset_modulo zero = refl
  offset_modulo (suc n) = rw (offset_modulo n, add-mod-mod (number_at plan (start_place n)) offset (number_at plan 3))

  pub shifted_size : (n : ℕ) → length (shifted plan offset n) ≡ length plan
  unfolding shifted
  shifted_size zero = refl
  shifted_size (suc n) = with_size (shifted plan offset n) (start_place n) _ ∙ shifted_size n

  -- every byte that is no start's is as it was
  pub others_kept : (n k : ℕ) → (StartByte n k → ⊥) → byte_at (shifted plan offset n) k ≡ byte_at plan k
  unfolding shifted StartByte
  others_kept zero k other = refl
  others_kept (suc n) k other =
      with_others (shifted plan offset n) (start_place n) _ k (λ e. other (n, omega arith, inl e)) (λ e. other (n, omega arith, inr e))
      ∙ others_kept n k (λ b. other (b.0, omega (arith, b.1), b.2))

  -- the two bytes of each start
  pub start_bytes : (n i : ℕ) → i < n → 5 + 8 * n ≤ length plan
      → (byte_at (shifted plan offset n) (start_place i) ≡ moved_start plan offset i / 256) × (byte_at (shifted plan offset n) (start_place i + 1) ≡ moved_start plan offset i % 256)
  unfolding shifted start_place
  start_bytes zero i low room = absurd (omega arith)
  start_bytes (suc n) i low room =
      let before = shifted plan offset n in
      let earlier = start_bytes n i in
      by_test (eqb i n)
      (λ e. let same : i ≡ n = eqb-true _ _ e in
      let within : start_place n + 1 < length before = omega (arith, shifted_size n) in
      rw same (with_high before (start_place n) (moved_start plan offset n) within, with_low before (start_place n) (moved_start plan offset n) within))
      (λ e. let differ = eqb-false i n e in
      let there = earlier (omega arith) (omega arith) in (
        with_others before (start_place n) (moved_start plan offset n) (start_place i) (omega arith) (omega arith) ∙ there.0,
        with_others before (start_place n) (moved_start plan offset n) (start_place i + 1) (omega arith) (omega arith) ∙ there.1,
      ))

  -- so each start is (start + offset) modulo C
  pub start_shifted : (n i : ℕ) → i < n → 5 + 8 * n ≤ length plan
      → number_at (shifted plan offset n) (start_place i) ≡ (number_at plan (start_place i) + offset) % number_at plan 3
  unfolding number_at moved
  start_shifted n i low room = let bytes = start_bytes n i low room in rw (bytes.0, bytes.1) (two_bytes (moved_start plan offset i))

  number_kept : (n k : ℕ) → (StartByte n k → ⊥) → (StartByte n (k + 1) → ⊥) → number_at (shifted plan offset n) k ≡ number_at plan k
  unfolding number_at
  number_kept n k high low = rw (others_kept n k high, others_kept n (k + 1) low)

  -- a start is as it was until its stream's turn
  pub start_waiting : (n : ℕ) → number_at (shifted plan offset n) (start_place n) ≡ number_at plan (start_place n)
  start_waiting n = number_kept n (start_place n) (later_start n (start_place n) (omega arith)) (later_start n (start_place n + 1) (omega arith))

  pub cycle_same : (n : ℕ) → number_at (shifted plan offset n) 3 ≡ number_at plan 3
  cycle_same n = number_kept n 3 (before_greens n 3 (omega arith)) (before_greens n 4 (omega arith))

  pub length_same : (n i : ℕ) → number_at (shifted plan offset n) (5 + 8 * i + 6) ≡ number_at plan (5 + 8 * i + 6)
  length_same n i = number_kept n (5 + 8 * i + 6) (after_start n i 6 _ (omega arith) (omega arith)) (after_start n i 7 _ (omega arith) (omega arith))

-- for a junction of so many streams
module _ (plan : List ℕ) (offset streams : ℕ) (w : WellFormed plan streams) where
  start_in_cycle : (i : ℕ) → i < streams → number_at (shifted plan offset streams) (5 + 8 * i + 4) < number_at plan 3
  unfolding start_place
  start_in_cycle i h = rw (start_shifted plan offset streams i h (omega (arith, w.size))) (mod-lt _ (omega (arith, w.cycle.0)))

  green_right : (i : ℕ) → i < streams → GreenRight (shifted plan offset streams) i
  green_right i h =
      let right = w.greens i h in
      let early = before_start streams i in
      record {
        tag = others_kept plan offset streams _ (early 0 _ (omega arith) (omega arith)) ∙ right.tag;
        field_length = number_kept plan offset streams _ (early 1 _ (omega arith) (omega arith)) (early 2 _ (omega arith) (omega arith)) ∙ right.field_length;
        stream = others_kept plan offset streams _ (early 3 _ (omega arith) (omega arith)) ∙ right.stream;
        start = rw (cycle_same plan offset streams) (start_in_cycle i h);
        length = rw (cycle_same plan offset streams, length_same plan offset streams i) right.length;
      }

  pub shifted_right : WellFormed (shifted plan offset streams) streams
  shifted_right =
      let first = before_greens streams in
      record {
        size = shifted_size plan offset streams ∙ w.size;
        tag = others_kept plan offset streams 0 (first 0 (omega arith)) ∙ w.tag;
        field_length = number_kept plan offset streams 1 (first 1 (omega arith)) (first 2 (omega arith)) ∙ w.field_length;
        cycle = rw (cycle_same plan offset streams) w.cycle;
        greens = green_right;
      }

  -- the plan that it says: the same cycle, each start moved, the same lengths
  pub green_shifted : streams ≤ most_streams → (n : ℕ) → Between 1 streams n
      → green_of (plan_of (shifted plan offset streams)) n
      ≡ record { start = moved (plan_of plan).cycle offset (green_of (plan_of plan) n).start; length = (green_of (plan_of plan) n).length }
  unfolding green_at moved start_place plan_of
  green_shifted few n h =
      rw (
        green_read (shifted plan offset streams) streams few shifted_right n h,
        green_read plan streams few w n h,
        start_shifted plan offset streams (n - 1) (omega arith) (omega (arith, w.size)),
        length_same plan offset streams (n - 1),
      )

-- the shifted file is well-formed where the file was
pub shifted_formed : (plan : List ℕ) (offset streams : ℕ) → plan_verdict plan streams ≡ Passed → plan_verdict (shifted plan offset streams) streams ≡ Passed
shifted_formed plan offset streams e =
    (well_formed (shifted plan offset streams) streams).1 (shifted_right plan offset streams ((well_formed plan streams).0 e))
