-- Numbers of f64 compared with whole numbers: as fractions; in tenths rounded up; and how far above a whole number the next of f64 lies.
use Prim.Native.Nat.{ℕ, zero, suc, ◌+◌, ◌*◌, ◌^◌, ◌≤◌, ◌<◌, zero-le}
use Rattle.std.proofs.Common.{le_trans, le_of_eq, mul-one, mul_right_comm, mul-le-mul_left, mul-le-mul_right, le_of_mul-le-mul_right, arith, ◌∙◌}
use Rattle.std.proofs.Common.{pow_pos, pow_mono}
use Rattle.std.specs.Prelude.{true, false, ◌≡◌, T, leb, pos, negsuc, Float}
use Rattle.std.proofs.Math.Path.{sym}
use Rattle.std.specs.Float.{nan, inf, fin, binary64}
use Rattle.std.specs.Float.Ieee.{le, of_int, fits}
use Rattle.std.specs.Float.Ieee.Order.{le_of_values}
use Rattle.std.specs.Float.Ieee.Positive.{num, den, positive, den_pos, own_value, value→cross, le→cross, above_of_le}
use borrow.Author.Tests.{leb-true, leb-false, le-leb}
use Rattle.laws.proofs.Search.{first_passes, first_fails}
use Rattle.laws.specs.Tests.{by_test}
use Rattle.service_level.specs.Delays.{whole}
use Rattle.service_level.specs.lemmas.Numbers.{is_true, is_false, whole_value, whole_positive}
use Rattle.service_level.specs.lemmas.Ranged.{digits}
use Rattle.tenths.specs.Tenths.{tenths_end, tenfold, enough, tenths_up}

-- a number above 0 and a whole number, compared as fractions
module _ (x : Float) (p : T (positive x)) where
  not_zero : T (le x (whole 0)) → ⊥
  unfolding of_int
  not_zero h = above_of_le x (whole 0) p h

  under : (n : ℕ) → n < 2 ^ 53 → T (le x (whole n)) → num x ≤ n * den x
  under zero small h = absurd (not_zero h)
  under (suc k) small h =
      let n = suc k in
      let same : num (whole n) * 1 ≡ n * den (whole n) = value→cross (whole n) n 1 (whole_value n small) in
      let cross : num x * den (whole n) ≤ num (whole n) * den x = le→cross x (whole n) p (whole_positive n (omega arith) small) h in
      let value : num (whole n) ≡ n * den (whole n) = sym (mul-one _) ∙ same in
      le_of_mul-le-mul_right (le_trans cross (le_of_eq (rw value (mul_right_comm n (den (whole n)) (den x))))) (den_pos (whole n))

  pub whole_test : (n : ℕ) → n < 2 ^ 53 → le x (whole n) ≡ leb (num x) (n * den x)
  whole_test n small =
      by_test (leb (num x) (n * den x))
      (λ t. is_true _ (le_of_values x (whole n) (num x) (den x) n 1 (den_pos x) (omega arith) (own_value x p) (whole_value n small)
      (le_trans (le_of_eq (mul-one _)) (leb-true _ _ t))) ∙ sym t)
      (λ t. is_false _ (λ h. omega (arith, leb-false (num x) (n * den x) t, under n small h)) ∙ sym t)

-- rounded up, a number is at most n tenths exactly where ten times it is
module _ (x : Float) (p : T (positive (tenfold x))) where
  pub up_least : (n : ℕ) → n < tenths_end → leb (tenths_up x) n ≡ le (tenfold x) (whole n)
  unfolding tenths_up
  up_least n low =
      let t = tenfold x in
      let found = tenths_up x in
      by_test (leb found n)
      (λ e. let few : found ≤ n = leb-true _ _ e in
      let passes = first_passes (enough t) tenths_end 0 zero-le (omega arith) in
      let least = leb-true _ _ (sym (whole_test t p found (omega arith)) ∙ passes) in
      e ∙ sym (whole_test t p n (omega arith) ∙ le-leb _ _ (le_trans least (mul-le-mul_right (den t) few))))
      (λ e. e ∙ sym (first_fails (enough t) tenths_end 0 n zero-le (leb-false _ _ e)))

-- f64 holds 53 digits: a number above a whole number n, of which b digits come after the point, is above it by 2^-b or more
past : (m k n b : ℕ) → m < 2 ^ 53 → 2 ^ 53 ≤ n * 2 ^ suc b → n * 2 ^ suc k < m → (n * 2 ^ b + 1) * 2 ^ suc k ≤ m * 2 ^ b
past m k n b small wide above =
    by_test (leb (suc k) b)
    (λ t. let unit : 2 ^ suc k ≤ 2 ^ b = pow_mono (leb-true (suc k) b t) in
    let next : suc (n * 2 ^ suc k) * 2 ^ b ≤ m * 2 ^ b = mul-le-mul_right (2 ^ b) above in
    let same : n * 2 ^ suc k * 2 ^ b ≡ n * 2 ^ b * 2 ^ suc k = mul_right_comm n (2 ^ suc k) (2 ^ b) in
    omega (arith, next, unit, same))
    (λ t. let large : 2 ^ suc b ≤ 2 ^ suc k = pow_mono (leb-false (suc k) b t) in
    absurd (omega (arith, wide, mul-le-mul_left n large)))

whole_above : (m n c : ℕ) → 0 < c → n < m → (n * c + 1) * 1 ≤ m * c
whole_above m n c some h = let more : suc n * c ≤ m * c = mul-le-mul_right c h in omega (arith, more)

pub next_above : (x : Float) → T (positive x) → T (fits binary64 x) → (n b : ℕ) → 2 ^ 53 ≤ n * 2 ^ suc b → n * den x < num x
    → (n * 2 ^ b + 1) * den x ≤ num x * 2 ^ b
next_above nan p f n b wide h = absurd p
next_above (inf s) p f n b wide h = absurd p
next_above (fin true m e) p f n b wide h = absurd p
next_above (fin false zero e) p f n b wide h = absurd p
next_above (fin false (suc m) (pos k)) p f n b wide h = whole_above (suc m * 2 ^ k) n (2 ^ b) (pow_pos b) (rw mul-one at h)
next_above (fin false (suc m) (negsuc k)) p f n b wide h =
    rw mul-one (past (suc m) k n b (digits m (negsuc k) f) wide (rw mul-one at h))
