-- Refusals: a number and a place (document 01, "Questions in order").
use Rattle.std.specs.Prelude.{ℕ, ◌+◌, ◌-◌, ◌≤◌, ◌<◌, Bool, true, false, cond, not, ◌↔◌, ◌≡◌, refl, leb, Result, Ok, Err}
use Rattle.std.proofs.Common.{zero-le, true≢false, sym, ◌∙◌, ap, arith, leb-true, leb-false}
use Rattle.std.proofs.lemmas.Bool.{not-true, not-false}
use Rattle.laws.specs.Ranges.{Between}
use Rattle.laws.proofs.Search.{first_passes, first_fails, first_same}
use Rattle.laws.specs.Search.{first_below}
use Rattle.laws.specs.Tests.{by_test}
use Rattle.fields.specs.declared.Refusal.{Refusal}

-- what the questions in order give: no refusal, or the first one
abbrev pub Verdict : Type 0
Verdict = Result (Unit {0}) Refusal

abbrev pub Passed : Verdict
Passed = Ok tt

-- a refusal with its number and its place, in place of an answer of any kind
abbrev pub refusal : ℕ → ℕ → Refusal
refusal number place = record { number = number; place = place }

abbrev pub Refused : {A : Type 0} → ℕ → ℕ → Result A Refusal
Refused number place = Err (refusal number place)

-- the paper's number of a verdict, 0 for no refusal, and its place
abbrev pub number_of : Verdict → ℕ
number_of (Ok u) = 0
number_of (Err r) = r.number

abbrev pub place_of : Verdict → ℕ
place_of (Ok u) = 0
place_of (Err r) = r.place

abbrev pub is_refused : Verdict → Bool
is_refused (Ok u) = false
is_refused (Err r) = true

pub not_refused : (v : Verdict) → is_refused v ≡ false → v ≡ Passed
not_refused (Ok u) e = refl
not_refused (Err r) e = absurd (true≢false e)

-- a question asked: where the answer is no, a refusal with its number and place, else what the later questions give
abbrev pub ask : Bool → ℕ → ℕ → Verdict → Verdict
ask answer number place later = cond answer later (Refused number place)

-- nothing is refused where the answer is yes and the later questions refuse nothing
pub ask_passed : (answer : Bool) (number place : ℕ) (later : Verdict) → ask answer number place later ≡ Passed → (answer ≡ true) × (later ≡ Passed)
ask_passed true number place later e = (refl, e)
ask_passed false number place later e = let none : ◌≡◌ {A = ℕ} 0 1 = cc in absurd (omega arith)

-- a question alone: what a refusal and what none tells of it
pub ask_fails : (answer : Bool) (number place : ℕ) {r : Refusal} → ask answer number place Passed ≡ Err r
    → (answer ≡ false) × (r ≡ refusal number place)
ask_fails true number place e = cc
ask_fails false number place e = (refl, cc)

pub ask_holds : (answer : Bool) (number place : ℕ) → ask answer number place Passed ≡ Passed → answer ≡ true
ask_holds answer number place e = (ask_passed answer number place Passed e).0

-- a refusal with the question's number is its own, where no later one has that number
pub ask_here : (answer : Bool) (number place : ℕ) (later : Verdict) → (later ≡ Refused number place → ⊥)
    → (ask answer number place later ≡ Refused number place) ↔ (answer ≡ false)
ask_here true number place later never = (λ e. absurd (never e), λ e. absurd (true≢false e))
ask_here false number place later never = (λ e. refl, λ e. refl)

-- one with another number is that of a later question
pub ask_after : (answer : Bool) (number place other there : ℕ) (later : Verdict) → (number ≡ other → ⊥)
    → (ask answer number place later ≡ Refused other there) ↔ ((answer ≡ true) × (later ≡ Refused other there))
ask_after true number place other there later differ = (λ e. (refl, e), λ h. h.1)
ask_after false number place other there later differ = (λ e. absurd (differ (ap number_of e)), λ h. absurd (true≢false (sym h.0)))

-- the first refusal of two: the later verdict counts only where the earlier one refuses nothing
abbrev pub first_refusal : Verdict → Verdict → Verdict
first_refusal (Ok u) later = later
first_refusal (Err r) later = Err r

pub first_refused : (v later : Verdict) → is_refused v ≡ true → first_refusal v later ≡ v
first_refused (Ok u) later e = absurd (true≢false (sym e))
first_refused (Err r) later e = refl

pub first_passed : (v later : Verdict) → is_refused v ≡ false → first_refusal v later ≡ later
first_passed (Ok u) later e = refl
first_passed (Err r) later e = absurd (true≢false e)

pub both_passed : (v later : Verdict) → (first_refusal v later ≡ Passed) ↔ ((v ≡ Passed) × (later ≡ Passed))
both_passed (Ok u) later = (λ e. (refl, e), λ b. b.1)
both_passed (Err r) later = (λ e. (e, absurd (true≢false (ap is_refused e))), λ b. b.0)

-- the later verdict matters only where the earlier one refuses nothing
pub later_same : (v a b : Verdict) → (v ≡ Passed → a ≡ b) → first_refusal v a ≡ first_refusal v b
later_same (Ok u) a b same = same refl
later_same (Err r) a b same = refl

-- the answer where nothing is refused, else the refusal
abbrev pub answered : {A : Type 0} → Verdict → A → Result A Refusal
answered (Ok u) x = Ok x
answered (Err r) x = Err r

pub answered_ok : {A : Type 0} (v : Verdict) (x : A) {y : A} → answered v x ≡ Ok y → (v ≡ Passed) × (x ≡ y)
answered_ok (Ok u) x e = (refl, cc)
answered_ok (Err r) x e = cc

pub answered_err : {A : Type 0} (v : Verdict) (x : A) {r : Refusal} → answered v x ≡ Err r → v ≡ Err r
answered_err (Ok u) x e = cc
answered_err (Err r) x e = cc

-- a question asked of each of the numbers 1 to n, lowest first: the place is the first number that fails it
unfoldable pub first_failing : (ℕ → Bool) → ℕ → ℕ
first_failing holds n = first_below (λ i. not (holds (i + 1))) n 0

unfoldable pub ask_each : (ℕ → Bool) → ℕ → ℕ → Verdict → Verdict
ask_each holds number n later = ask (leb n (first_failing holds n)) number (first_failing holds n + 1) later

-- nothing is refused exactly where none fails and the later questions refuse nothing
pub each_passed : (holds : ℕ → Bool) (number n : ℕ) (later : Verdict)
    → (ask_each holds number n later ≡ Passed) ↔ (((k : ℕ) → Between 1 n k → holds k ≡ true) × (later ≡ Passed))
unfolding ask_each first_failing
each_passed holds number n later =
    let fails : ℕ → Bool = λ i. not (holds (i + 1)) in
    let first = first_below fails n 0 in (
      λ e. let p = ask_passed (leb n first) number _ later e in
          let none : n ≤ first = leb-true _ _ p.0 in (
            λ k w. let there : k - 1 + 1 ≡ k = omega arith in
                rw there at (not-false (holds (k - 1 + 1)) (first_fails fails n 0 (k - 1) zero-le (omega arith))),
            p.1,
          ),
      λ both. by_test (leb n first) (λ e. rw e both.1)
          (λ e. let low : first < n = leb-false _ _ e in
          absurd (true≢false (sym (both.0 (first + 1) (omega arith)) ∙ not-true _ (first_passes fails n 0 zero-le low)))),
    )

-- two questions with the same answer at each of the numbers give the same
pub each_same : (f g : ℕ → Bool) (number n : ℕ) (later : Verdict) → ((k : ℕ) → Between 1 n k → f k ≡ g k)
    → ask_each f number n later ≡ ask_each g number n later
unfolding ask_each first_failing
each_same f g number n later same =
    rw (first_same (λ i. not (f (i + 1))) (λ i. not (g (i + 1))) n 0 (λ i low high. ap not (same (i + 1) (omega arith))))
