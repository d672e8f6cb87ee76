-- Each refusal has a number that document 01 lists for its entry, and a place that the number can have.
use Prim.Native.Nat.{ℕ, zero, suc, ◌+◌, ◌<◌}
use Rattle.std.proofs.Common.{arith}
use Rattle.std.specs.Prelude.{Bool, true, false, List, ◌≡◌, refl, leb, ltb, Ok, Err}
use Rattle.std.proofs.Math.ListN.{length}
use borrow.Author.Tests.{leb-false, ltb-true}
use Rattle.laws.specs.Ranges.{Between}
use Rattle.fields.specs.Bytes.{field_end, fits}
use Rattle.fields.specs.Verdict.{ask, first_refusal, first_failing, ask_each, Verdict, Passed}
use Rattle.plan_file.specs.Plans.{due_verdict, cycle_verdict, green_verdict, greens_from, plan_verdict}
use Rattle.demands.specs.Places.{PlanPlace, fit, expected, range}

-- a refusal, if there is one, has such a number and place
abbrev pub Told : (ℕ → ℕ → Type 0) → Verdict → Type 0
Told R (Ok u) = Unit {0}
Told R (Err r) = R r.number r.place

module _ (R : ℕ → ℕ → Type 0) where
  pub ask_told : (b : Bool) (number place : ℕ) (later : Verdict) → (b ≡ false → R number place) → (b ≡ true → Told R later)
      → Told R (ask b number place later)
  ask_told true number place later fails passes = passes refl
  ask_told false number place later fails passes = fails refl

  pub first_told : (v later : Verdict) → Told R v → (v ≡ Passed → Told R later) → Told R (first_refusal v later)
  first_told (Ok u) later here there = there refl
  first_told (Err r) later here there = here

  pub each_told : (holds : ℕ → Bool) (number n : ℕ) (later : Verdict) → ((k : ℕ) → Between 1 n k → R number k) → Told R later
      → Told R (ask_each holds number n later)
  unfolding ask_each first_failing
  each_told holds number n later here there =
      ask_told (leb n (first_failing holds n)) number (first_failing holds n + 1) later
      (λ e. let low = leb-false n (first_failing holds n) e in here (first_failing holds n + 1) (omega arith)) (λ e. there)

pub told_more : (R S : ℕ → ℕ → Type 0) → ((n p : ℕ) → R n p → S n p) → (v : Verdict) → Told R v → Told S v
told_more R S more (Ok u) t = tt
told_more R S more (Err r) t = more r.number r.place t

module _ (s : List ℕ) where
  due_told : (at : ℕ) (expects ranged : Bool) → Told (PlanPlace (length s)) (due_verdict s at expects ranged)
  unfolding due_verdict
  due_told at expects ranged =
      let R = PlanPlace (length s) in
      ask_told R (ltb at (length s)) 12 (length s) _ (λ e. expected (omega arith)) (λ e. let low : at < length s = ltb-true _ _ e in
      ask_told R (fits s at) 11 at _ (λ e. fit low) (λ e.
      ask_told R expects 12 at _ (λ e. expected (omega arith)) (λ e.
      ask_told R ranged 13 at Passed (λ e. range low) (λ e. tt))))

  greens_told : (k at n : ℕ) → Told (PlanPlace (length s)) (greens_from k s at n)
  unfolding greens_from green_verdict
  greens_told zero at n =
      ask_told (PlanPlace (length s)) (leb (length s) at) 12 at Passed
      (λ e. let low = leb-false (length s) at e in expected (omega arith)) (λ e. tt)
  greens_told (suc k) at n =
      let later = greens_told k (field_end s at) (n + 1) in
      first_told (PlanPlace (length s)) (due_verdict s at _ _) _ (due_told at _ _) (λ e. later)

  pub plan_told : (streams : ℕ) → Told (PlanPlace (length s)) (plan_verdict s streams)
  unfolding plan_verdict cycle_verdict
  plan_told streams =
      first_told (PlanPlace (length s)) (due_verdict s 0 _ _) _ (due_told 0 _ _) (λ e. greens_told streams (field_end s 0) 1)
