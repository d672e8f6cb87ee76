-- What the comparison of times means, roots included: leaving ≤ gap + reaching exactly where every fraction that is at least the reaching
-- time is, with the gap added, at least the leaving time.
use Prim.Native.Nat.{ℕ, ◌+◌, ◌-◌, ◌*◌, ◌≤◌, ◌<◌}
use Rattle.std.proofs.Common.{eq-zero-or-pos, mul-pos, le_of_mul-le-mul_right, sub-add_cancel, sym, ◌∙◌, subst}
use Rattle.std.proofs.Math.Nat.{mul-le-mul, mul-le-mul_left, mul-le-mul_right}
use native.Mathlib.Omega.{arith}
use Rattle.std.specs.Prelude.{true, ◌↔◌, ◌≡◌, leb}
use Rattle.std.proofs.Math.Logic.{⊎_elim}
use Rattle.std.proofs.Math.Path.{ap}
use borrow.Author.Tests.{le-leb, leb-true, leb-false}
use Rattle.laws.specs.Tests.{by_test, both_left, both_right}
use Rattle.exact_times.specs.lemmas.Squares.{minus_below}
use Rattle.times.specs.declared.Time.{Time}
use Rattle.times.specs.declared.Time.TheVariants.{Ratio, Root}
use Rattle.times.specs.Comparison.{below_root, root_below, ratio_ratio, ratio_root, root_ratio, root_after, root_before, root_root, ratio_within}
use Rattle.times.specs.Comparison.{root_within, within}
use Rattle.exact_times.specs.lemmas.Roots.{by_squares, Near, near}
use Rattle.exact_times.specs.Numbers.{Sound, Within}

-- m/k ≤ gap + n/d
ratio_ratio_lem : (m k n d gap : ℕ) → 0 < d → (ratio_ratio m k n d gap ≡ true) ↔ Within (Ratio m k) (Ratio n d) gap
unfolding ratio_ratio
ratio_ratio_lem m k n d gap d-pos = (
  λ e a b b-pos h.
      let test : m * d ≤ gap * k * d + n * k = leb-true _ _ e in
      le_of_mul-le-mul_right {k = d} (omega (arith, mul-le-mul_right b test, mul-le-mul_right k h)) d-pos,
  λ all. let least : m * d ≤ (gap * d + n) * k = all n d d-pos (omega arith) in le-leb (m * d) (gap * k * d + n * k) (omega arith),
)

-- √(q/e) ≤ u/d and u/d ≤ w/b give √(q/e) ≤ w/b
pub root_below_lem : (q e u d w b : ℕ) → 0 < d → q * (d * d) ≤ u * u * e → u * b ≤ w * d → q * (b * b) ≤ w * w * e
root_below_lem q e u d w b d-pos test side =
    le_of_mul-le-mul_right {k = d * d} (omega (arith, mul-le-mul_right (b * b) test, mul-le-mul_right e (mul-le-mul side side)))
    (mul-pos d-pos d-pos)

-- √(q/e) ≤ gap + n/d; the leaving root is less by l, which counts with the gap
root_ratio_lem : (q e l n d gap : ℕ) → 0 < d → (root_ratio q e n d (gap + l) ≡ true) ↔ Within (Root q e l) (Ratio n d) gap
unfolding root_ratio
root_ratio_lem q e l n d gap d-pos = (
  λ t a b b-pos h. root_below_lem q e ((gap + l) * d + n) d (gap * b + a + l * b) b d-pos (leb-true _ _ t) (omega (arith, h)),
  λ all. let same : gap * d + n + l * d ≡ (gap + l) * d + n = omega arith in
      le-leb _ _ (rw same at (all n d d-pos (omega arith))),
)

-- b² ≤ b n is not so where b is above n
too_large : (b n : ℕ) → n < b → b * b ≤ b * n → ⊥
too_large b n more h = omega (arith, mul-le-mul_left b more)

-- where x/k is above √(p/f), a fraction z/b near the root is below x/k
apart : (x k p f b z : ℕ) → p * (k * k) < x * x * f → 2 * (p + 1) * f * (k * k) < b → Near p f b z → x * b ≤ z * k → ⊥
apart x k p f b z much large n h =
    let squared = mul-le-mul_right f (mul-le-mul h h) in
    too_large b (2 * (p + 1) * f * (k * k)) large
    (omega (arith, squared, mul-le-mul_right (b * b) much, mul-le-mul_right (k * k) n.close, mul-le-mul_right (2 * f * (k * k)) n.small))

-- a fraction near a root that is not below c is c + a/b for some a
module _ (p f c : ℕ) (f-pos : 0 < f) (late : c * c * f ≤ p) where
  above_off : (b z : ℕ) → p * (b * b) ≤ z * z * f → c * b ≤ z
  above_off b z above = by_squares (c * b) z f f-pos (omega (arith, mul-le-mul_right (b * b) late))

  nearly : (b : ℕ) → (a : ℕ) × Near p f b (a + c * b)
  nearly b =
      let found = near p f b f-pos in
      (found.0 - c * b, subst (Near p f b) (sym (sub-add_cancel (above_off b found.0 found.1.above))) found.1)

-- what stands on the one side with a plus stands on the other with a minus
moved : (m k c gap a b : ℕ) → m * b ≤ (gap * b + a) * k → (m + c * k - gap * k) * b ≤ (a + c * b) * k
moved m k c gap a b h =
    let sum : (m + c * k) * b ≤ gap * k * b + (a + c * b) * k = omega arith in
    leb-true _ _ (minus_below (m + c * k) (gap * k) b ((a + c * b) * k) ∙ le-leb _ _ sum)

-- m/k ≤ gap + √(p/f) - c
ratio_root_lem : (m k p f c gap : ℕ) → 0 < f → c * c * f ≤ p → (ratio_root m k p f c gap ≡ true) ↔ Within (Ratio m k) (Root p f c) gap
unfolding ratio_root
ratio_root_lem m k p f c gap f-pos late =
    let x : ℕ = m + c * k - gap * k in (
      λ t a b b-pos h.
          let test : x * x * f ≤ p * (k * k) = leb-true _ _ t in
          let side : x * b ≤ (a + c * b) * k =
          by_squares (x * b) ((a + c * b) * k) f f-pos (omega (arith, mul-le-mul_right (b * b) test, mul-le-mul_right (k * k) h)) in
          let left : m + c * k ≤ x + gap * k = omega arith in
          omega (arith, mul-le-mul_right b left),
      λ all. by_test (leb (x * x * f) (p * (k * k))) (λ e. e) (λ e.
          let b : ℕ = 2 * (p + 1) * f * (k * k) + 1 in
          let (a, n) = nearly p f c f-pos late b in
          let at : m * b ≤ (gap * b + a) * k = all a b (omega arith) n.above in
          absurd (apart x k p f b (a + c * b) (leb-false _ _ e) (omega arith) n (moved m k c gap a b at))),
    )

-- b⁴ is at most what is left of a square, for a z of at most b q and a b above the limit: that is not so
bounded : (q b z k s : ℕ) → z ≤ b * q → (8 * (k * k) + 8 * k * q + 4 * q) * (q * (s * s)) < b
    → b * b * (b * b) ≤ 8 * (k * k) * (b * b) * (s * s) * z + 8 * k * b * (s * s) * (z * z) + 4 * (s * s) * (z * z) → ⊥
bounded q b z k s small large four =
    let b-pos : 1 ≤ b = omega arith in
    let cube : 0 < b * b * b = mul-pos (mul-pos b-pos b-pos) b-pos in
    let squared : z * z ≤ b * q * (b * q) = mul-le-mul small small in
    let first = mul-le-mul_left (8 * (k * k) * (b * b) * (s * s)) small in
    let second = mul-le-mul_left (8 * k * b * (s * s)) squared in
    let third = mul-le-mul_left (4 * (s * s)) squared in
    let fourth = mul-le-mul_left (4 * (q * q) * (s * s) * (b * b)) b-pos in
    omega (arith, first, second, third, fourth, mul-le-mul_left (b * b * b) large)

bounded_before : (q b z d s : ℕ) → z ≤ b * q → 4 * d * q * s + 4 * (q * q) * (s * s) < b
    → b * b * (b * b) ≤ 4 * d * (b * b) * z * s + 4 * (s * s) * (z * z) → ⊥
bounded_before q b z d s small large four =
    let b-pos : 1 ≤ b = omega arith in
    let cube : 0 < b * b * b = mul-pos (mul-pos b-pos b-pos) b-pos in
    let squared : z * z ≤ b * q * (b * q) = mul-le-mul small small in
    let first = mul-le-mul_left (4 * d * (b * b) * s) small in
    let second = mul-le-mul_left (4 * (s * s)) squared in
    let third = mul-le-mul_left (4 * (q * q) * (s * s) * (b * b)) b-pos in
    omega (arith, first, second, third, mul-le-mul_left (b * b * b) large)

-- two roots over one denominator: √(p/s) is at most z/b where p b² ≤ z² s
module _ (a p s : ℕ) where
  -- √a ≤ k √s + √p
  after_only : (k : ℕ) → root_after a p s k ≡ true → (z b : ℕ) → p * (b * b) ≤ z * z * s → a * (b * b) ≤ (k * b + z) * (k * b + z) * s
  unfolding root_after below_root
  after_only k t z b above =
      let d : ℕ = a - (k * k * s + p) in
      let test : d * d ≤ 4 * (k * k) * s * p = leb-true _ _ t in
      let left : a ≤ k * k * s + p + d = omega arith in
      let side : d * (b * b) ≤ 2 * k * b * z * s =
      by_squares (d * (b * b)) (2 * k * b * z * s) 1 (omega arith)
      (omega (arith, mul-le-mul_right (b * b * (b * b)) test, mul-le-mul_right (4 * (k * k) * (b * b) * s) above)) in
      omega (arith, mul-le-mul_right (b * b) left)

  -- where √a is above k √s + √p, with d = a - (k² s + p), a fraction near √(p/s) is below √(a/s) - k
  after_apart : (k d b z : ℕ) → a ≡ k * k * s + p + d → 4 * (k * k) * s * p < d * d
      → (8 * (k * k) + 8 * k * (p + 1) + 4 * (p + 1)) * ((p + 1) * (s * s)) < b
      → Near p s b z → a * (b * b) ≤ (k * b + z) * (k * b + z) * s → ⊥
  after_apart k d b z whole much large n h =
      let side : d * (b * b) ≤ 2 * k * b * z * s + 2 * z * s = omega (arith, n.close, ap (λ (y : ℕ). y * (b * b)) whole) in
      let squared = mul-le-mul side side in
      let four : b * b * (b * b) ≤ 8 * (k * k) * (b * b) * (s * s) * z + 8 * k * b * (s * s) * (z * z) + 4 * (s * s) * (z * z) =
      omega (arith, mul-le-mul_right (b * b * (b * b)) much, mul-le-mul_left (4 * (k * k) * (b * b) * s) n.close) in
      bounded (p + 1) b z k s n.small large four

  -- √a + h √s ≤ √p
  before_only : (h : ℕ) → root_before a p s h ≡ true → (w b : ℕ) → p * (b * b) ≤ (w + h * b) * (w + h * b) * s → a * (b * b) ≤ w * w * s
  unfolding root_before root_below
  before_only h t w b above =
      let u : ℕ = a + h * h * s in
      let f : ℕ = p - u in
      let low : u ≤ p = leb-true _ _ (both_left (leb u p) _ t) in
      let test : 4 * (h * h) * s * a ≤ f * f = leb-true _ _ (both_right (leb u p) _ t) in
      let whole : p ≡ u + f = omega arith in
      by_test (leb (a * (b * b)) (w * w * s)) (λ e. leb-true _ _ e) (λ e.
      let more : w * w * s < a * (b * b) = leb-false _ _ e in
      let side : f * (b * b) < 2 * w * h * b * s = omega (arith, ap (λ (y : ℕ). y * (b * b)) whole) in
      absurd (omega (arith, mul-le-mul side side, mul-le-mul_left (4 * (h * h) * (b * b) * s) more, mul-le-mul_right (b * b * (b * b)) test)))

  -- where √a + h √s is above √p, a fraction near √(p/s) is below √(a/s) + h
  before_low : (h b w : ℕ) → p < a + h * h * s → 2 * (p + 1) * s < b → Near p s b (w + h * b) → a * (b * b) ≤ w * w * s → ⊥
  before_low h b w much large n t =
      too_large b (2 * (p + 1) * s) large (omega (arith, n.close, mul-le-mul_right (b * b) much, mul-le-mul_right (2 * s) n.small))

  before_apart : (h f b w : ℕ) → p ≡ a + h * h * s + f → f * f < 4 * (h * h) * s * a → 4 * f * (p + 1) * s + 4 * ((p + 1) * (p + 1)) * (s * s) < b
      → Near p s b (w + h * b) → a * (b * b) ≤ w * w * s → ⊥
  before_apart h f b w whole much large n t =
      let z : ℕ = w + h * b in
      let side : 2 * w * h * b * s ≤ f * (b * b) + 2 * z * s = omega (arith, n.close, ap (λ (y : ℕ). y * (b * b)) whole) in
      let four : b * b * (b * b) ≤ 4 * f * (b * b) * z * s + 4 * (s * s) * (z * z) =
      omega (arith, mul-le-mul side side, mul-le-mul_left (4 * (h * h) * (b * b) * s) t, mul-le-mul_right (b * b * (b * b)) much) in
      bounded_before (p + 1) b z f s n.small large four

-- √(q/e) - l ≤ gap + √(p/f) - c, over the one denominator e f
module _ (q e l p f c gap : ℕ) (e-pos : 0 < e) (f-pos : 0 < f) (late : c * c * f ≤ p) where
  -- what is known of fractions over f and over e, multiplied to e f and back
  reached : (z b : ℕ) → p * (b * b) ≤ z * z * f → p * e * (b * b) ≤ z * z * (e * f)
  reached z b h = omega (arith, mul-le-mul_right e h)

  reaches : (z b : ℕ) → p * e * (b * b) ≤ z * z * (e * f) → p * (b * b) ≤ z * z * f
  reaches z b h = le_of_mul-le-mul_right {k = e} (omega arith) e-pos

  left : (w b : ℕ) → q * f * (b * b) ≤ w * w * (e * f) → q * (b * b) ≤ w * w * e
  left w b h = le_of_mul-le-mul_right {k = f} (omega arith) f-pos

  leaves : (w b : ℕ) → q * (b * b) ≤ w * w * e → q * f * (b * b) ≤ w * w * (e * f)
  leaves w b h = omega (arith, mul-le-mul_right f h)

  late_both : c * c * (e * f) ≤ p * e
  late_both = omega (arith, mul-le-mul_right e late)

  module _ (k : ℕ) (same : k + c ≡ gap + l) where
    sum : (a b : ℕ) → k * b + (a + c * b) ≡ gap * b + a + l * b
    sum a b = omega (arith, ap (λ (y : ℕ). y * b) same)

    root_after_lem : (root_after (q * f) (p * e) (e * f) k ≡ true) ↔ Within (Root q e l) (Root p f c) gap
    root_after_lem = (
      λ t a b b-pos h.
          left (gap * b + a + l * b) b (rw (sum a b) at (after_only (q * f) (p * e) (e * f) k t (a + c * b) b (reached (a + c * b) b h))),
      λ all. by_test (root_after (q * f) (p * e) (e * f) k) (λ t. t) (λ t.
          let d : ℕ = q * f - (k * k * (e * f) + p * e) in
          let much : 4 * (k * k) * (e * f) * (p * e) < d * d = unfold root_after below_root in leb-false _ _ t in
          let some : 0 < d = ⊎_elim (λ (none : d ≡ 0). absurd (omega (arith, rw none at much))) (λ (y : 0 < d). y) (eq-zero-or-pos d) in
          let b : ℕ = (8 * (k * k) + 8 * k * (p * e + 1) + 4 * (p * e + 1)) * ((p * e + 1) * (e * f * (e * f))) + 1 in
          let (a, n) = nearly (p * e) (e * f) c (mul-pos e-pos f-pos) late_both b in
          let at = leaves (gap * b + a + l * b) b (all a b (omega arith) (reaches (a + c * b) b n.above)) in
          absurd (after_apart (q * f) (p * e) (e * f) k d b (a + c * b) (omega arith) much (omega arith) n (rw (← sum a b) at at))),
    )

  module _ (h : ℕ) (same : gap + l + h ≡ c) where
    difference : (a b : ℕ) → a + c * b ≡ gap * b + a + l * b + h * b
    difference a b = omega (arith, ap (λ (y : ℕ). y * b) same)

    root_before_lem : (root_before (q * f) (p * e) (e * f) h ≡ true) ↔ Within (Root q e l) (Root p f c) gap
    root_before_lem = (
      λ t a b b-pos r.
          left (gap * b + a + l * b) b (before_only (q * f) (p * e) (e * f) h t (gap * b + a + l * b) b
          (rw (difference a b) at (reached (a + c * b) b r))),
      λ all. by_test (root_before (q * f) (p * e) (e * f) h) (λ t. t) (λ t.
          let u : ℕ = q * f + h * h * (e * f) in
          let x : ℕ = p * e - u in
          let b : ℕ = 2 * (p * e + 1) * (e * f) + (4 * x * (p * e + 1) * (e * f) + 4 * ((p * e + 1) * (p * e + 1)) * (e * f * (e * f))) + 1 in
          let (a, n) = nearly (p * e) (e * f) c (mul-pos e-pos f-pos) late_both b in
          let w : ℕ = gap * b + a + l * b in
          let at = leaves w b (all a b (omega arith) (reaches (a + c * b) b n.above)) in
          let there : Near (p * e) (e * f) b (w + h * b) = subst (Near (p * e) (e * f) b) (difference a b) n in
          by_test (leb u (p * e))
          (λ low. let most = leb-true u (p * e) low in
          let much : x * x < 4 * (h * h) * (e * f) * (q * f) = leb-false _ _ (unfold root_before root_below in rw low at t) in
          absurd (before_apart (q * f) (p * e) (e * f) h x b w (omega arith) much (omega arith) there at))
          (λ low. absurd (before_low (q * f) (p * e) (e * f) h b w (leb-false u (p * e) low) (omega arith) there at))),
    )

  root_root_lem : (root_root (q * f) (p * e) (e * f) c (gap + l) ≡ true) ↔ Within (Root q e l) (Root p f c) gap
  unfolding root_root
  root_root_lem =
      by_test (leb c (gap + l))
      (λ t. rw t (root_after_lem (gap + l - c) (sub-add_cancel (leb-true c (gap + l) t))))
      (λ t. let low = leb-false c (gap + l) t in rw t (root_before_lem (c - (gap + l)) (omega arith)))

-- the leaving time is at most gap + the reaching time exactly where every fraction that is at least the reaching time is, with the gap
-- added, at least the leaving time
pub within_numbers : (leave reach : Time) → Sound leave → Sound reach → (gap : ℕ) → (within leave reach gap ≡ true) ↔ Within leave reach gap
unfolding within ratio_within root_within
within_numbers (Ratio m k) (Ratio n d) k-pos d-pos gap = ratio_ratio_lem m k n d gap d-pos
within_numbers (Ratio m k) (Root p f c) k-pos (f-pos, late) gap = ratio_root_lem m k p f c gap f-pos late
within_numbers (Root q e l) (Ratio n d) (e-pos, high) d-pos gap = root_ratio_lem q e l n d gap d-pos
within_numbers (Root q e l) (Root p f c) (e-pos, high) (f-pos, late) gap = root_root_lem q e l p f c gap e-pos f-pos late
