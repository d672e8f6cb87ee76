-- Numbers of f64 known to lie between two others, both above 0; so they are finite and above 0 themselves. Products, quotients, sums and differences
-- from 1 are again between two others.
use Rattle.std.specs.Prelude.{ℕ, zero, suc, ◌-◌, ◌*◌, ◌%◌, ◌^◌, ◌≤◌, ◌<◌, false, true, ◌&&◌, ◌≡◌, T, leb, ltb, eqb, pos, negsuc, Float}
use Rattle.std.proofs.Common.{le_refl, le_of_lt, le_trans, mul-le-mul, mul-le-mul_left, mul-one, arith, subst, ltb→lt, lit≤, pow_pos, pow_mono}
use Rattle.std.proofs.Common.{leb-true, leb-false, le-ltb}
use Rattle.std.proofs.Math.Nat.{one-mul}
use Rattle.std.proofs.Math.Path.{refl}
use Rattle.std.specs.Float.{nan, inf, fin}
use Rattle.std.specs.Float.Ieee.{binary64, down, up, round, sum, add, neg, sub, mul, div, le, of_int, fits}
use Rattle.std.specs.Float.Ieee.Fits.{and_l, and_r}
use Rattle.std.specs.Float.Ieee.Order.{round_mono}
use Rattle.std.specs.Float.Ieee.Positive.{num, den, positive, den_pos, cross→le, between, mul_mono}
use Rattle.laws.specs.Ranges.{Between}
use Rattle.laws.specs.Tests.{by_test}
use Rattle.service_level.specs.Delays.{whole}
use Rattle.service_level.specs.lemmas.Numbers.{whole_positive, whole_le, div_mono, add_mono}

-- a number from low to high, both finite and above 0
pub record Ranged (low x high : Float) : Type 0 where
  pub least : T (positive low)
  pub most : T (positive high)
  pub from : T (le low x)
  pub to : T (le x high)

pub ranged_positive : {low x high : Float} → Ranged low x high → T (positive x)
ranged_positive {low} {x} {high} r = between low x high r.least r.most r.from r.to

abbrev pub one : Float
one = whole 1

abbrev pub two : Float
two = whole 2

pub one_positive : T (positive one)
one_positive = whole_positive 1 (omega arith) (lit≤ tt)

pub is_one_lem : one ≡ fin false 1 (pos 0)
is_one_lem = unfold of_int in refl

pub whole_ranged : (n m : ℕ) → Between 1 m n → m < 2 ^ 53 → Ranged one (whole n) (whole m)
whole_ranged n m r small =
    record {
      least = one_positive;
      most = whole_positive m (omega arith) small;
      from = whole_le 1 n (omega arith) (omega arith) r.0;
      to = whole_le n m r.0 small r.1;
    }

pub at_itself : (n : ℕ) → 0 < n → n < 2 ^ 53 → Ranged (whole n) (whole n) (whole n)
at_itself n some small =
    let p = whole_positive n some small in
    let same = whole_le n n some small (le_refl n) in
    record { least = p; most = p; from = same; to = same }

module _ {a x b c y d : Float} (r : Ranged a x b) (s : Ranged c y d) where
  pub times : T (positive (mul binary64 a c)) → T (positive (mul binary64 b d)) → Ranged (mul binary64 a c) (mul binary64 x y) (mul binary64 b d)
  times p q =
      record {
        least = p;
        most = q;
        from = mul_mono binary64 a x c y r.least (ranged_positive r) s.least (ranged_positive s) r.from s.from;
        to = mul_mono binary64 x b y d (ranged_positive r) r.most (ranged_positive s) s.most r.to s.to;
      }

  pub over : T (positive (div binary64 a d)) → T (positive (div binary64 b c)) → Ranged (div binary64 a d) (div binary64 x y) (div binary64 b c)
  over p q =
      record {
        least = p;
        most = q;
        from = div_mono a x d y r.least (ranged_positive r) s.most (ranged_positive s) r.from s.to;
        to = div_mono x b y c (ranged_positive r) r.most (ranged_positive s) s.least r.to s.from;
      }

  pub plus : T (positive (add binary64 a c)) → T (positive (add binary64 b d)) → Ranged (add binary64 a c) (add binary64 x y) (add binary64 b d)
  plus p q =
      record {
        least = p;
        most = q;
        from = add_mono a x c y r.least (ranged_positive r) s.least (ranged_positive s) r.from s.from;
        to = add_mono x b y d (ranged_positive r) r.most (ranged_positive s) s.most r.to s.to;
      }

-- 2^-53: what f64 holds below 1 is at least as far from it
abbrev pub step : Float
step = round binary64 false 1 (2 ^ 53)

-- the significand of a number that f64 holds has 53 digits, so below 1 it is 1 less a multiple of its own unit
unit_short : (m k : ℕ) → m < 2 ^ 53 → m < 2 ^ suc k → 2 ^ suc k ≤ (2 ^ suc k - m) * 2 ^ 53
unit_short m k small below =
    by_test (leb (suc k) 53)
    (λ t. le_trans (pow_mono (leb-true (suc k) 53 t)) (mul-le-mul {n₁ = 1} (omega arith) (le_refl (2 ^ 53))))
    (λ t. let large : 2 ^ 54 ≤ 2 ^ suc k = pow_mono (leb-false (suc k) 53 t) in
    let half : 2 ^ suc k ≤ (2 ^ suc k - m) * 2 = omega arith in
    le_trans half (mul-le-mul_left (2 ^ suc k - m) (lit≤ tt)))

-- the significand's digits, where f64 holds the number
pub digits : (m : ℕ) (e : _) → T (fits binary64 (fin false (suc m) e)) → suc m < 2 ^ 53
unfolding fits
digits m e f =
    ltb→lt (suc m) (2 ^ 53)
    (and_r (eqb (suc m % 2) 1) _
    (and_l (eqb (suc m % 2) 1 && ltb (suc m) (2 ^ 53)) _
    (and_l (eqb (suc m % 2) 1 && ltb (suc m) (2 ^ 53) && leb (down e) (2 ^ 1074)) _ f)))

pub short_of_one : (x : Float) → T (positive x) → T (fits binary64 x) → num x < den x → den x ≤ (den x - num x) * 2 ^ 53
short_of_one nan p f h = absurd p
short_of_one (inf s) p f h = absurd p
short_of_one (fin true m e) p f h = absurd p
short_of_one (fin false zero e) p f h = absurd p
short_of_one (fin false (suc m) (pos k)) p f h = absurd (omega (arith, pow_pos k))
short_of_one (fin false (suc m) (negsuc k)) p f h = rw mul-one (unit_short (suc m) k (digits m (negsuc k) f) (rw mul-one at h))

-- 1 less a number below it
less_is : (x : Float) → T (positive x) → num x < den x → sub binary64 one x ≡ round binary64 false (den x - num x) (den x)
unfolding sub add neg sum
less_is nan p h = absurd p
less_is (inf s) p h = absurd p
less_is (fin true m e) p h = absurd p
less_is (fin false m e) p h = simp (is_one_lem, one-mul, mul-one, le-ltb (down e) (m * up e) (le_of_lt h))

pub less_ranged : (x : Float) → T (positive x) → T (fits binary64 x) → num x < den x → Ranged step (sub binary64 one x) one
unfolding of_int
less_ranged x p f h =
    record {
      least = unfold round in tt;
      most = one_positive;
      from = rw (less_is x p h) (round_mono binary64 1 (2 ^ 53) (den x - num x) (den x) (lit≤ tt) (den_pos x) (rw one-mul (short_of_one x p f h)));
      to = rw (less_is x p h) (round_mono binary64 (den x - num x) (den x) 1 1 (den_pos x) (omega arith) (omega arith));
    }

-- below 1 as a fraction, exactly where the test says so
pub below_one : (x : Float) → T (positive x) → le one x ≡ false → num x < den x
below_one x p e =
    by_test (leb (den x) (num x))
    (λ t. absurd (subst T e (cross→le one x one_positive p (rw is_one_lem (simp (one-mul, mul-one) (leb-true _ _ t))))))
    (λ t. leb-false _ _ t)

pub at_most_one : (x : Float) → T (positive x) → num x < den x → T (le x one)
at_most_one x p h = cross→le x one p one_positive (rw is_one_lem (simp (one-mul, mul-one) (le_of_lt h)))
