-- Laws of tests: a test passes or fails, a pair of tests passes where both do or where one of them does, and two comparisons are one test
-- where they agree.
use Rattle.std.specs.Prelude.{ℕ, ◌≤◌, ◌<◌, Bool, true, false, ◌&&◌, ◌||◌, ◌⊎◌, ◌≡◌, refl, leb, eqb}
use Rattle.std.proofs.lemmas.Bool.{false≢true, lt-leb}
use Rattle.std.proofs.Common.{inl, inr, sym, ◌∙◌, le-leb, leb-true, leb-false, eqb-true}

pub by_test : {P : Type 0} (b : Bool) → (b ≡ true → P) → (b ≡ false → P) → P
by_test true passes fails = passes refl
by_test false passes fails = fails refl

pub both : (a b : Bool) → a ≡ true → b ≡ true → (a && b) ≡ true
both a b p q = rw p q

pub both_left : (a b : Bool) → (a && b) ≡ true → a ≡ true
both_left true b p = refl
both_left false b p = p

pub both_right : (a b : Bool) → (a && b) ≡ true → b ≡ true
both_right true b p = p
both_right false b p = absurd (false≢true p)

-- two numbers that are two others
pub two_same : (a b n m : ℕ) → (eqb a n && eqb b m) ≡ true → (a ≡ n) × (b ≡ m)
two_same a b n m e = (eqb-true a n (both_left (eqb a n) _ e), eqb-true b m (both_right (eqb a n) _ e))

pub either : (a b : Bool) → (a || b) ≡ true → (a ≡ true) ⊎ (b ≡ true)
either true b p = inl refl
either false b p = inr p

-- two comparisons are the same where one holds if the other does, and fails if the other does
pub leb_same : (a b c d : ℕ) → (a ≤ b → c ≤ d) → (b < a → d < c) → leb a b ≡ leb c d
leb_same a b c d holds fails =
    by_test (leb a b) (λ e. e ∙ sym (le-leb c d (holds (leb-true a b e)))) (λ e. e ∙ sym (lt-leb c d (fails (leb-false a b e))))
