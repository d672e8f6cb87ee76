-- 15, 16 and 17 exactly: all that is asked before passes, the stream or zone of that place fails its rule, and every lower one meets it. And 24:
-- all that is asked before passes, and the offset is not below C.
use Prim.Native.Nat.{ℕ, ◌+◌, ◌-◌, ◌≤◌, ◌<◌, zero-le}
use native.Mathlib.Omega.{arith}
use Rattle.std.proofs.Math.Bool.{Bool, true, false, not, true≢false}
use Rattle.std.specs.Prelude.{List, ◌↔◌, ◌≡◌, refl, leb, Ok, Err}
use Rattle.std.proofs.Math.Path.{sym, ap, subst}
use Rattle.std.proofs.Common.{◌∙◌}
use borrow.Author.Tests.{lt-leb, leb-true, leb-false, not-true, not-false}
use Rattle.laws.proofs.Search.{first_range, first_passes, first_fails}
use Rattle.laws.specs.Search.{first_below}
use Rattle.laws.specs.Tests.{by_test}
use Rattle.fields.specs.Verdict.{number_of, place_of, is_refused, first_refusal, first_failing, ask_each, each_passed, Verdict, Passed, Refused}
use Rattle.junction_file.specs.Reading.{reading}
use Rattle.plan_file.specs.Plans.{plan_of}
use Rattle.plan_rules.specs.Rules.{zone_met}
use Rattle.demands.specs.Places.{PlanPlace, fit, expected, range}
use Rattle.demands.specs.Questions.{Every, FirstOf}

module _ (holds : ℕ → Bool) (number n : ℕ) (later : Verdict) where
  -- the refusal of a rule: its own where some number fails it, else that of what is asked later
  pub each_fails : (k : ℕ) → FirstOf holds n k → ask_each holds number n later ≡ Refused number k
  unfolding ask_each first_failing
  each_fails k f =
      let short : ℕ → Bool = λ i. not (holds (i + 1)) in
      let first = first_below short n 0 in
      let range = first_range short n 0 zero-le in
      let there : k - 1 + 1 ≡ k = omega (arith, f.range) in
      let at_most : first ≤ k - 1 =
      by_test (leb first (k - 1)) (λ e. leb-true _ _ e) (λ e.
      let passes : holds (k - 1 + 1) ≡ true = not-false _ (first_fails short n 0 (k - 1) zero-le (leb-false first (k - 1) e)) in
      absurd (true≢false (sym passes ∙ ap holds there ∙ f.fails))) in
      let at_least : k - 1 ≤ first =
      by_test (leb (k - 1) first) (λ e. leb-true _ _ e) (λ e.
      let low : first < k - 1 = leb-false (k - 1) first e in
      let broken : holds (first + 1) ≡ false = not-true _ (first_passes short n 0 zero-le (omega (arith, f.range))) in
      absurd (true≢false (sym (f.lower (first + 1) (omega arith) (omega arith)) ∙ broken))) in
      let is : first + 1 ≡ k = omega (arith, f.range) in
      rw (lt-leb n first (omega (arith, f.range)), is)

  pub each_exact : ((k : ℕ) → later ≡ Refused number k → ⊥) → (k : ℕ) → (ask_each holds number n later ≡ Refused number k) ↔ FirstOf holds n k
  unfolding ask_each first_failing
  each_exact never k =
      let short : ℕ → Bool = λ i. not (holds (i + 1)) in
      let first = first_below short n 0 in (
        λ e. by_test (leb n first)
            (λ t. absurd (never k (rw t at e)))
            (λ t. let low : first < n = leb-false n first t in
            let is : first + 1 ≡ k = ap place_of (rw t at e) in
            record {
              range = omega arith;
              fails = subst (λ m. holds m ≡ false) is (not-true _ (first_passes short n 0 zero-le low));
              lower = λ i some less. let there : i - 1 + 1 ≡ i = omega arith in
                  subst (λ m. holds m ≡ true) there (not-false _ (first_fails short n 0 (i - 1) zero-le (omega arith)));
            }),
        each_fails k,
      )

  pub each_later : (m k : ℕ) → (number ≡ m → ⊥)
      → (ask_each holds number n later ≡ Refused m k) ↔ (Every holds n × (later ≡ Refused m k))
  unfolding ask_each first_failing
  each_later m k other =
      let first = first_failing holds n in (
        λ e. by_test (leb n first)
            (λ t. let is : later ≡ Refused m k = rw t at e in
            let all : ask_each holds number n Passed ≡ Passed = rw t in (((each_passed holds number n Passed).0 all).0, is))
            (λ t. absurd (other (ap number_of (rw t at e)))),
        λ h. let all : ask_each holds number n Passed ≡ Passed = (each_passed holds number n Passed).1 (h.0, refl) in
            by_test (leb n first) (λ t. rw t h.1) (λ t. absurd (true≢false (ap is_refused (rw t at all)))),
      )

pub first_later : (v later : Verdict) (m k : ℕ) → (v ≡ Refused m k → ⊥) → (first_refusal v later ≡ Refused m k) ↔ ((v ≡ Passed) × (later ≡ Refused m k))
first_later (Ok u) later m k never = (λ e. (refl, e), λ h. h.1)
first_later (Err r) later m k never = (λ e. absurd (never e), λ h. absurd (true≢false (ap is_refused h.0)))

pub plan_other : {size m k : ℕ} → 15 ≤ m → PlanPlace size m k → ⊥
plan_other later (fit low) = omega arith
plan_other later (expected low) = omega arith
plan_other later (range low) = omega arith

module _ (junction plan : List ℕ) where
  module _ (k : ℕ) where
    pub zones_never : (m : ℕ) → (17 ≡ m → ⊥) → (i : ℕ)
        → ask_each (zone_met (reading junction).junction (plan_of plan)) 17 (reading junction).junction.held.zones Passed ≡ Refused m i → ⊥
    zones_never m other i e = true≢false (sym (ap is_refused ((each_later _ 17 _ Passed m i other).0 e).1))
