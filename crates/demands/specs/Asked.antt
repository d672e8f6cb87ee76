-- Questions asked in order, and what their answer is: the refusal of the first question that fails (document 01, "Questions in order").
use Rattle.std.specs.Prelude.{ℕ, zero, suc, ◌+◌, ◌-◌, ◌<◌, Bool, true, false, not, List, [], ◌∷◌, ◌++◌, ◌↔◌, ◌⊎◌, ◌≡◌, refl, leb, length, get_or, Ok, Err}
use native.Mathlib.Omega.{arith}
use Rattle.std.proofs.Common.{true≢false, inl, inr, ⊎_elim, sym, ◌∙◌, ap, le-leb}
use Rattle.std.proofs.lemmas.Bool.{lt-leb}
use Rattle.laws.specs.Search.{first_of, first_below}
use Rattle.laws.specs.Tests.{by_test}
use Rattle.fields.specs.Verdict.{number_of, place_of, ask, first_refusal, first_failing, ask_each, Verdict, Passed, Refused}

-- a question: its number, the place of its refusal, and whether it passes
pub record Question : Type 0 where
  pub number : ℕ
  pub place : ℕ
  pub passes : Bool

abbrev pub question : ℕ → ℕ → Bool → Question
question number place passes = record { number = number; place = place; passes = passes }

-- the refusal of the first question that fails
unfoldable pub answer : List Question → Verdict
answer [] = Passed
answer (q ∷ qs) = ask q.passes q.number q.place (answer qs)

-- the question at place i of the list is the first that fails, and has that number and that place of refusal
pub record FirstFails (qs : List Question) (number place i : ℕ) : Type 0 where
  pub asked : i < length qs
  pub fails : get_or qs i (question 0 0 true) ≡ question number place false
  pub before : (k : ℕ) → k < i → (get_or qs k (question 0 0 true)).passes ≡ true

module _ (q : Question) (qs : List Question) (number place : ℕ) where
  here : q ≡ question number place false → FirstFails (q ∷ qs) number place 0
  here e = record { asked = omega arith; fails = e; before = λ k low. absurd (omega arith) }

  later : q.passes ≡ true → (i : ℕ) → FirstFails qs number place i → FirstFails (q ∷ qs) number place (suc i)
  later t i f = record { asked = omega (arith, f.asked); fails = f.fails; before = before }
    where
      before : (k : ℕ) → k < suc i → (get_or (q ∷ qs) k (question 0 0 true)).passes ≡ true
      before zero low = t
      before (suc k) low = f.before k (omega arith)

  -- of a list that begins with q: q is the first that fails, or it passes and the rest has such a question
  first_cases : (i : ℕ) → FirstFails (q ∷ qs) number place i
      → (q ≡ question number place false) ⊎ ((q.passes ≡ true) × (k : ℕ) × FirstFails qs number place k)
  first_cases zero f = inl f.fails
  first_cases (suc i) f =
      inr (f.before 0 (omega arith), i, record { asked = omega (arith, f.asked); fails = f.fails; before = λ k low. f.before (suc k) (omega arith) })

  answer_later : q.passes ≡ true → answer (q ∷ qs) ≡ answer qs
  unfolding answer
  answer_later t = rw t

  answer_here : q.passes ≡ false → answer (q ∷ qs) ≡ Refused q.number q.place
  unfolding answer
  answer_here t = rw t

-- a refusal is that of the first question that fails, and of no other
pub answer_refused : (qs : List Question) (number place : ℕ) → (answer qs ≡ Refused number place) ↔ ((i : ℕ) × FirstFails qs number place i)
answer_refused [] number place = (λ e. let no : ◌≡◌ {A = ℕ} 0 1 = unfold answer in cc in absurd (omega arith), λ f. absurd (omega (arith, f.1.asked)))
answer_refused (q ∷ qs) number place =
    let rest = answer_refused qs number place in
    by_test q.passes
    (λ t. (
      λ e. let found = rest.0 (sym (answer_later q qs number place t) ∙ e) in (suc found.0, later q qs number place t found.0 found.1),
      λ f. ⊎_elim (λ (e : q ≡ question number place false). absurd (true≢false (sym t ∙ ap Question.passes e)))
          (λ (g : (q.passes ≡ true) × (k : ℕ) × FirstFails qs number place k). answer_later q qs number place t ∙ rest.1 (g.1, g.2)) (first_cases q qs number place f.0 f.1),
    ))
    (λ t. (
      λ e. let is : Refused q.number q.place ≡ Refused number place = sym (answer_here q qs number place t) ∙ e in
          let n : q.number ≡ number = ap number_of is in
          let p : q.place ≡ place = ap place_of is in
          (0, here q qs number place (λ i. record { number = n i; place = p i; passes = t i })),
      λ f. ⊎_elim (λ (e : q ≡ question number place false).
          answer_here q qs number place t ∙ ap (λ (r : Question). Refused r.number r.place) e)
          (λ (g : (q.passes ≡ true) × (k : ℕ) × FirstFails qs number place k). absurd (true≢false (sym g.0 ∙ t))) (first_cases q qs number place f.0 f.1),
    ))

-- nothing is refused exactly where every question passes
pub answer_passed : (qs : List Question) → (answer qs ≡ Passed) ↔ ((i : ℕ) → i < length qs → (get_or qs i (question 0 0 true)).passes ≡ true)
unfolding answer
answer_passed [] = (λ e i low. absurd (omega arith), λ all. refl)
answer_passed (q ∷ qs) =
    let rest = answer_passed qs in
    by_test q.passes
    (λ t. (
      λ e. later_passes t (rest.0 (sym (answer_later q qs 0 0 t) ∙ e)),
      λ all. answer_later q qs 0 0 t ∙ rest.1 (λ i low. all (suc i) (omega arith)),
    ))
    (λ t. (
      λ e. let no : ◌≡◌ {A = ℕ} 0 1 = ap (λ (v : Verdict). is_one v) (sym e ∙ answer_here q qs 0 0 t) in absurd (omega arith),
      λ all. absurd (true≢false (sym (all 0 (omega arith)) ∙ t)),
    ))
  where
    is_one : Verdict → ℕ
    is_one (Ok u) = 0
    is_one (Err r) = 1

    later_passes : q.passes ≡ true → ((i : ℕ) → i < length qs → (get_or qs i (question 0 0 true)).passes ≡ true)
        → (i : ℕ) → i < suc (length qs) → (get_or (q ∷ qs) i (question 0 0 true)).passes ≡ true
    later_passes t all zero low = t
    later_passes t all (suc i) low = all i (omega arith)

-- questions after others: the first refusal of the two
pub answer_append : (qs rs : List Question) → answer (qs ++ rs) ≡ first_refusal (answer qs) (answer rs)
unfolding answer
answer_append [] rs = refl
answer_append (q ∷ qs) rs = let rest = answer_append qs rs in by_test q.passes (λ t. rw t rest) (λ t. rw t)

-- a question asked of each of so many numbers from t + 1 on
unfoldable pub each_from : (ℕ → Bool) → ℕ → ℕ → ℕ → List Question
each_from holds number zero t = []
each_from holds number (suc n) t = question number (t + 1) (holds (t + 1)) ∷ each_from holds number n (t + 1)

-- of each of the numbers 1 to n
abbrev pub each : (ℕ → Bool) → ℕ → ℕ → List Question
each holds number n = each_from holds number n 0

each_from_lem : (holds : ℕ → Bool) (number n t : ℕ) (next : Verdict)
    → first_refusal (answer (each_from holds number n t)) next
    ≡ ask (leb (t + n) (first_of (λ i. not (holds (i + 1))) n t)) number (first_of (λ i. not (holds (i + 1))) n t + 1) next
unfolding answer each_from first_of
each_from_lem holds number zero t next = rw (le-leb (t + 0) t (omega arith))
each_from_lem holds number (suc n) t next =
    let rest = each_from_lem holds number n (t + 1) next in
    let sum : t + 1 + n ≡ t + suc n = omega arith in
    by_test (holds (t + 1)) (λ e. rw (e, first_of, ← sum) rest) (λ e. rw (e, first_of, lt-leb (t + suc n) t (omega arith)))

module _ (holds : ℕ → Bool) (number n : ℕ) where
  each_next : (next : Verdict) → first_refusal (answer (each holds number n)) next ≡ ask_each holds number n next
  unfolding ask_each first_failing first_below
  each_next next =
      let sum : 0 + n ≡ n = omega arith in
      let all : n - 0 ≡ n = omega arith in
      rw all (rw sum at (each_from_lem holds number n 0 next))

  pub answer_each : (rest : List Question) → answer (each holds number n ++ rest) ≡ ask_each holds number n (answer rest)
  answer_each rest = answer_append (each holds number n) rest ∙ each_next (answer rest)

  pub answer_each_last : answer (each holds number n) ≡ ask_each holds number n Passed
  answer_each_last = sym (last (answer (each holds number n))) ∙ each_next Passed
    where
      last : (v : Verdict) → first_refusal v Passed ≡ v
      last (Ok u) = refl
      last (Err r) = refl

-- a verdict is the answer to questions asked in order
pub record Answers (v : Verdict) (asked : List Question) (Listed : ℕ → ℕ → Type 0) : Type 0 where
  -- it is a refusal exactly where a question fails and every one before it passes, and then that question's
  pub refused : (number place : ℕ) → (v ≡ Refused number place) ↔ ((i : ℕ) × FirstFails asked number place i)
  -- with a number that the paper lists and a place that the number can have
  pub listed : (number place : ℕ) → v ≡ Refused number place → Listed number place
  -- and a result exactly where every question passes
  pub passed : (v ≡ Passed) ↔ ((i : ℕ) → i < length asked → (get_or asked i (question 0 0 true)).passes ≡ true)

-- a number and a place, as a verdict: number 0 says that nothing is refused
abbrev pub said : ℕ → ℕ → Verdict
said zero place = Passed
said (suc number) place = Refused (suc number) place

-- a C answer, by its refusal's number, 0 for no refusal, and its place
abbrev pub AnswersBy : ℕ → ℕ → List Question → (ℕ → ℕ → Type 0) → Type 0
AnswersBy refusal place asked Listed = Answers (said refusal place) asked Listed
