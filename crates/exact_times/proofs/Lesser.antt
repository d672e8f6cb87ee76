-- A fraction that is at least a time is at least a lesser one: a car's and a stop tram's leaving time with a shorter distance among them.
use Rattle.std.specs.Prelude.{ℕ, ◌*◌, ◌≤◌, ◌<◌, leb}
use Rattle.std.proofs.Common.{le_trans, mul-le-mul_right, arith}
use borrow.Author.Tests.{le-leb, leb-true}
use Rattle.laws.specs.Tests.{by_test}
use Rattle.times.specs.Times.{car_time, longer, stop_leaving}
use Rattle.times.specs.declared.Time.TheVariants.{Ratio, Root}
use Rattle.exact_times.proofs.Larger.{longer_at_least}
use Rattle.exact_times.specs.Numbers.{AtLeast}

-- a fraction that is at least a time is at least every lesser one of its sort over the same denominator
pub ratio_less : (n m d a b : ℕ) → n ≤ m → AtLeast a b (Ratio m d) → AtLeast a b (Ratio n d)
ratio_less n m d a b less h = le_trans (mul-le-mul_right b less) h

root_less : (p q e a b : ℕ) → p ≤ q → AtLeast a b (Root q e 0) → AtLeast a b (Root p e 0)
root_less p q e a b less h = le_trans (mul-le-mul_right (b * b) less) h

longer_less : (p q e n m d a b : ℕ) → 0 < e → 0 < d → p ≤ q → n ≤ m → AtLeast a b (longer q e m d) → AtLeast a b (longer p e n d)
longer_less p q e n m d a b e-pos d-pos root ratio h =
    let parts = (longer_at_least q e m d e-pos d-pos a b).0 h in
    (longer_at_least p e n d e-pos d-pos a b).1 (root_less p q e a b root parts.0, ratio_less n m d a b ratio parts.1)

module _ (l m : ℕ) (farther : l ≤ m) (a b : ℕ) where
  pub car_farther : (approach speed amber : ℕ) → AtLeast a b (car_time approach speed amber m) → AtLeast a b (car_time approach speed amber l)
  unfolding car_time
  car_farther approach speed amber = ratio_less _ _ speed a b (omega arith)

  pub stop_farther : (t : ℕ) → AtLeast a b (stop_leaving t m) → AtLeast a b (stop_leaving t l)
  unfolding stop_leaving
  stop_farther t h =
      by_test (leb m 400)
      (λ low. rw (le-leb l 400 (omega (arith, leb-true m 400 low))) (root_less _ _ _ a b (omega arith) (rw low at h)))
      (λ high. by_test (leb l 400)
      (λ low. rw low
      (root_less _ _ _ a b (omega (arith, leb-true l 400 low)) ((longer_at_least _ _ _ _ (omega arith) (omega arith) a b).0 (rw high at h)).0))
      (λ both. rw both (longer_less _ _ _ _ _ _ a b (omega arith) (omega arith) (omega arith) (omega arith) (rw high at h))))
