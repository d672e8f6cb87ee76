-- A plan file is well-formed exactly where nothing is refused, and the plan that it says then has its numbers in range.
use Prim.Native.Nat.{ℕ, zero, suc, ◌+◌, ◌-◌, ◌*◌, ◌≤◌, ◌<◌}
use native.Mathlib.Omega.{arith}
use Rattle.std.specs.Prelude.{List, ◌↔◌, ◌≡◌, leb, eqb, length}
use Rattle.std.proofs.Math.Bool.{and-eq-true_iff}
use borrow.Author.Tests.{le-leb, leb-true, lt-ltb, ltb-true, eq-eqb, eqb-true, eqb-false}
use Rattle.laws.specs.Ranges.{Between}
use Rattle.laws.specs.Tests.{by_test}
use Rattle.limits.specs.Limits.{most_seconds, most_streams}
use Rattle.fields.specs.Bytes.{byte_at, number_at, number_in, field_end}
use Rattle.fields.specs.Verdict.{ask_passed, both_passed, Passed}
use Rattle.plan_file.specs.lemmas.Passed.{due_passed}
use Rattle.plan_file.specs.Plans.{cycle_expected, cycle_verdict, green_expected, green_in_range, green_verdict, greens_from, plan_verdict}
use Rattle.plan_file.specs.Plans.{green_at, plan_of}
use Rattle.plan_file.specs.WellFormed.{GreenRight, WellFormed, PlanRight, cycle_ends, green_ends, cycle_read, green_read}

-- field 11
record CycleRight (s : List ℕ) : Type 0 where
  tag : byte_at s 0 ≡ 17
  field_length : number_at s 1 ≡ 2
  cycle : Between 1 most_seconds (number_at s 3)

module _ (s : List ℕ) where
  -- a field passes exactly where it is right and ends within the file
  cycle_passed : (cycle_verdict s ≡ Passed) ↔ (CycleRight s × (5 ≤ length s))
  unfolding cycle_verdict cycle_expected field_end
  cycle_passed = (
    λ e. let p = (due_passed s 0 _ _).0 e in
        let expected = simp and-eq-true_iff at p.awaited in
        let ranged = simp and-eq-true_iff at p.ranged in
        omega (arith, eqb-true, leb-true),
    λ r. (due_passed s 0 _ _).1
        (record {
          within = omega (arith, r.0);
          awaited = simp (eq-eqb _ _ r.0.tag, eq-eqb _ _ r.0.field_length);
          ranged = simp (le-leb _ _ r.0.cycle.0, le-leb _ _ r.0.cycle.1);
        }),
  )

  green_passed : (i : ℕ) → (green_verdict s (5 + 8 * i) (i + 1) ≡ Passed) ↔ (GreenRight s i × (5 + 8 * (i + 1) ≤ length s))
  unfolding green_verdict green_expected green_in_range number_in field_end
  green_passed i = (
    λ e. let p = (due_passed s (5 + 8 * i) _ _).0 e in
        let expected = simp and-eq-true_iff at p.awaited in
        let ranged = simp and-eq-true_iff at p.ranged in
        omega (arith, eqb-true, ltb-true, leb-true),
    λ r. (due_passed s (5 + 8 * i) _ _).1
        (record {
          within = omega (arith, r.0);
          awaited = simp (eq-eqb _ _ r.0.tag, eq-eqb _ _ r.0.field_length, eq-eqb _ _ r.0.stream);
          ranged = simp (lt-ltb _ _ r.0.start, le-leb _ _ r.0.length.0, le-leb _ _ r.0.length.1);
        }),
  )

  -- the fields 12 of so many streams, the first of them that with number i + 1, with nothing after the last
  GreensRight : ℕ → ℕ → Type 0
  GreensRight streams i = (length s ≡ 5 + 8 * (i + streams)) × ((k : ℕ) → i ≤ k → k < i + streams → GreenRight s k)

  greens_passed : (streams i : ℕ) → 5 + 8 * i ≤ length s → (greens_from streams s (5 + 8 * i) (i + 1) ≡ Passed) ↔ GreensRight streams i
  unfolding greens_from GreensRight
  greens_passed zero i h = (
    λ e. let last = leb-true (length s) (5 + 8 * i) (ask_passed (leb (length s) (5 + 8 * i)) 12 _ _ e).0 in
        (omega arith, λ k low high. absurd (omega arith)),
    λ r. simp (le-leb (length s) (5 + 8 * i) (omega arith)),
  )
  greens_passed (suc streams) i h =
      let later = greens_passed streams (i + 1) in (
        λ e. let passed = (both_passed (green_verdict s (5 + 8 * i) (i + 1)) _).0 e in
            let here = (green_passed i).0 passed.0 in
            let rest = (later here.1).0 (rw (green_ends s i here.0.field_length) at passed.1) in (
              omega (arith, rest.0),
              λ k low high.
                  by_test (eqb k i) (λ same. rw (eqb-true k i same) here.0)
                  (λ e. let differ = eqb-false k i e in rest.1 k (omega arith) (omega arith)),
            ),
        λ r. let here = r.1 i (omega arith) (omega arith) in
            (both_passed (green_verdict s (5 + 8 * i) (i + 1)) _).1 (
              (green_passed i).1 (here, omega (arith, r.0)),
              rw (green_ends s i here.field_length)
                  ((later (omega (arith, r.0))).1 (omega (arith, r.0), λ k low high. r.1 k (omega arith) (omega arith))),
            ),
      )

-- nothing is refused exactly where the file is well-formed
pub well_formed : (s : List ℕ) (streams : ℕ) → (plan_verdict s streams ≡ Passed) ↔ WellFormed s streams
unfolding plan_verdict GreensRight
well_formed s streams = (
  λ e. let passed = (both_passed (cycle_verdict s) _).0 e in
      let first = (cycle_passed s).0 passed.0 in
      let greens = (greens_passed s streams 0 first.1).0 (rw (cycle_ends s first.0.field_length) at passed.1) in
      record {
        size = omega (arith, greens.0);
        tag = first.0.tag;
        field_length = first.0.field_length;
        cycle = first.0.cycle;
        greens = λ i h. greens.1 i (omega arith) (omega arith);
      },
  λ w. let first : CycleRight s = record { tag = w.tag; field_length = w.field_length; cycle = w.cycle } in
      (both_passed (cycle_verdict s) _).1 (
        (cycle_passed s).1 (first, omega (arith, w.size)),
        rw (cycle_ends s w.field_length)
            ((greens_passed s streams 0 (omega (arith, w.size))).1 (omega (arith, w.size), λ i low high. w.greens i (omega arith))),
      ),
)

pub plan_right : (s : List ℕ) (streams : ℕ) → plan_verdict s streams ≡ Passed → streams ≤ most_streams → PlanRight (plan_of s) streams
unfolding green_at
plan_right s streams e few =
    let w = (well_formed s streams).0 e in
    record {
      cycle = rw cycle_read w.cycle;
      start = λ n h. rw (green_read s streams few w n h, cycle_read) (w.greens (n - 1) (omega arith)).start;
      length = λ n h. rw (green_read s streams few w n h, cycle_read) (w.greens (n - 1) (omega arith)).length;
    }
