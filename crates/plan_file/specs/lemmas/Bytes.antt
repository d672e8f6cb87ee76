-- The byte at a place of the plan file: what the writer's loop puts there.
use Rattle.std.specs.Prelude.{ℕ, zero, suc, ◌+◌, ◌-◌, ◌*◌, ◌/◌, ◌%◌, ◌≤◌, ◌<◌, cond, List, ◌++◌, ◌≡◌, ltb, drop}
use native.Mathlib.Omega.{arith}
use Rattle.std.proofs.Common.{◌∙◌}
use Rattle.std.proofs.Math.Path.{ap}
use Rattle.std.proofs.Math.ListN.{length, get_or, get_or-append}
use Rattle.std.proofs.Math.Seq.{get_or-append-add}
use borrow.Author.Tests.{ltb-true, ltb-false}
use Rattle.laws.specs.Filled.{filled, filled_front}
use Rattle.laws.specs.Tests.{by_test}
use Rattle.plan_file.specs.Plans.{green_of}
use Rattle.plan_file.specs.Writing.{cycle_field, green_field, green_fields, plan_file, plan_size, plan_long}
use Rattle.plan_file.specs.declared.Green.{Green}
use Rattle.plan_file.specs.declared.Plan.{Plan}

-- of field 11, and of field 12 of stream n
unfoldable pub cycle_byte : ℕ → ℕ → ℕ
cycle_byte cycle k = get_or (cycle_field cycle) k 0

unfoldable pub green_byte : Green → ℕ → ℕ → ℕ
green_byte g n k = get_or (green_field g n) k 0

-- of the file
unfoldable pub plan_byte : Plan → ℕ → ℕ
plan_byte p k =
    let n = (k - 5) / 8 + 1 in
    cond (ltb k 5) (cycle_byte p.cycle k) (green_byte (green_of p n) n ((k - 5) % 8))

-- the byte at place k of the fields 12, the first of them stream n's
greens_byte : (p : Plan) (streams n k : ℕ) → k < 8 * streams
    → get_or (green_fields p streams n) k 0 ≡ green_byte (green_of p (n + k / 8)) (n + k / 8) (k % 8)
unfolding green_fields green_byte
greens_byte p zero n k h = absurd (omega arith)
greens_byte p (suc streams) n k h =
    let field = green_field (green_of p n) n in
    let eight : length field ≡ 8 = unfold green_field in omega arith in
    by_test (ltb k 8)
    (λ e. let low : k < 8 = ltb-true _ _ e in
    let stream : n + k / 8 ≡ n = omega arith in
    let place : k % 8 ≡ k = omega arith in
    rw (stream, place) (get_or-append field (green_fields p streams (n + 1)) 0 k (omega arith)))
    (λ e. let high : 8 ≤ k = ltb-false _ _ e in
    let there : k ≡ length field + (k - 8) = omega arith in
    let stream : n + 1 + (k - 8) / 8 ≡ n + k / 8 = omega arith in
    let place : (k - 8) % 8 ≡ k % 8 = omega arith in
    ap (λ i. get_or (field ++ green_fields p streams (n + 1)) i 0) there
    ∙ get_or-append-add field (green_fields p streams (n + 1)) (k - 8) 0
    ∙ (rw (stream, place) at (greens_byte p streams (n + 1) (k - 8) (omega arith))))

module _ (p : Plan) (streams : ℕ) where
  pub plan_byte_lem : (k : ℕ) → k < plan_size streams → get_or (plan_file p streams) k 0 ≡ plan_byte p k
  unfolding plan_file plan_byte cycle_byte plan_size
  plan_byte_lem k h =
      let first = cycle_field p.cycle in
      let greens = green_fields p streams 1 in
      let five : length first ≡ 5 = unfold cycle_field in omega arith in
      by_test (ltb k 5)
      (λ e. rw e (get_or-append first greens 0 k (omega (arith, ltb-true k 5 e))))
      (λ e. let high : 5 ≤ k = ltb-false _ _ e in
      let there : k ≡ length first + (k - 5) = omega arith in
      let stream : 1 + (k - 5) / 8 ≡ (k - 5) / 8 + 1 = omega arith in
      rw e
      (ap (λ i. get_or (first ++ greens) i 0) there ∙ get_or-append-add first greens (k - 5) 0
      ∙ (rw stream at (greens_byte p streams 1 (k - 5) (omega arith)))))

  -- so a buffer whose first places are filled with these bytes begins with the file
  pub bytes_written : (buffer : List ℕ) → plan_size streams ≤ length buffer
      → filled (plan_byte p) buffer (plan_size streams) ≡ plan_file p streams ++ drop (plan_size streams) buffer
  bytes_written buffer room = filled_front (plan_byte p) buffer (plan_size streams) (plan_file p streams) 0 (plan_long p streams) room plan_byte_lem
