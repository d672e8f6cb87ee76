-- The comparison stays true at every larger gap.
use Rattle.std.specs.Prelude.{ℕ, ◌+◌, ◌-◌, ◌*◌, ◌≤◌, ◌<◌, true, ◌≡◌, leb}
use Rattle.std.proofs.Common.{zero-le, le_refl, le_trans, add-le-add, mul-le-mul, mul-le-mul_right, mul-le-mul_left, sub-eq-zero_of_le, zero-mul}
use Rattle.std.proofs.Common.{arith, le-leb, leb-true, leb-false}
use Rattle.std.proofs.Math.Nat.{sub-le-sub_left}
use Rattle.std.proofs.lemmas.Bool.{lt-leb}
use Rattle.laws.specs.Tests.{by_test, both, both_left, both_right}
use Rattle.times.specs.declared.Time.{Time}
use Rattle.times.specs.declared.Time.TheVariants.{Ratio, Root}
use Rattle.times.specs.Comparison.{ratio_ratio, ratio_root, root_ratio, root_after, root_before, root_root, ratio_within, root_within, within}
use Rattle.times.specs.Comparison.{below_root, root_below}

square : {x y : ℕ} → x ≤ y → x * x ≤ y * y
square h = mul-le-mul h h

-- a test passes again where its left side is no larger and its right side no smaller
still : {x y x' y' : ℕ} → x' ≤ x → y ≤ y' → leb x y ≡ true → leb x' y' ≡ true
still a b t = le-leb _ _ (le_trans a (le_trans (leb-true _ _ t) b))

below_still : (u v y v' y' : ℕ) → v ≤ v' → y ≤ y' → below_root u v y ≡ true → below_root u v' y' ≡ true
unfolding below_root
below_still u v y v' y' a b = still (square (sub-le-sub_left a u)) b

root_still : (u x v u' x' : ℕ) → u' ≤ u → x' ≤ x → root_below u x v ≡ true → root_below u' x' v ≡ true
unfolding root_below
root_still u x v u' x' a b t =
    both _ _ (still a (le_refl v) (both_left (leb u v) _ t)) (still b (square (sub-le-sub_left a v)) (both_right (leb u v) _ t))

-- where u + z + √x ≤ v, u ≤ w + v + √y
root_crosses : (u z x v w y : ℕ) → root_below (u + z) x v ≡ true → below_root u (w + v) y ≡ true
unfolding root_below below_root
root_crosses u z x v w y t =
    let was : u + z ≤ v = leb-true (u + z) v (both_left (leb (u + z) v) _ t) in
    simp (sub-eq-zero_of_le {n = u} {m = w + v} (omega arith), zero-mul) (le-leb 0 y zero-le)

module _ (g h : ℕ) (more : g ≤ h) where
  ratio_ratio_lem : (m b n d : ℕ) → ratio_ratio m b n d g ≡ true → ratio_ratio m b n d h ≡ true
  unfolding ratio_ratio
  ratio_ratio_lem m b n d =
      still (le_refl _) (add-le-add (mul-le-mul_right d (mul-le-mul_right b more)) (le_refl _))

  ratio_root_lem : (m b p f c : ℕ) → ratio_root m b p f c g ≡ true → ratio_root m b p f c h ≡ true
  unfolding ratio_root
  ratio_root_lem m b p f c =
      still (mul-le-mul_right f (square (sub-le-sub_left (mul-le-mul_right b more) (m + c * b)))) (le_refl _)

  root_ratio_lem : (q e n d : ℕ) → root_ratio q e n d g ≡ true → root_ratio q e n d h ≡ true
  unfolding root_ratio
  root_ratio_lem q e n d =
      still (le_refl _) (mul-le-mul_right e (square (add-le-add (mul-le-mul_right d more) (le_refl n))))

  -- both gaps at least c
  above_above : (a p s c : ℕ) → c ≤ g → root_root a p s c g ≡ true → root_root a p s c h ≡ true
  unfolding root_root root_after
  above_above a p s c low t =
      let wider : (g - c) * (g - c) ≤ (h - c) * (h - c) = square (omega arith) in
      simp (le-leb c h (le_trans low more))
      (below_still _ _ _ _ _ (add-le-add (mul-le-mul_right s wider) (le_refl p))
      (mul-le-mul_right p (mul-le-mul_right s (mul-le-mul_left 4 wider)))
      (simp (le-leb c g low) at t))

  -- both gaps below c
  below_below : (a p s c : ℕ) → h < c → root_root a p s c g ≡ true → root_root a p s c h ≡ true
  unfolding root_root root_before
  below_below a p s c low t =
      let closer : (c - h) * (c - h) ≤ (c - g) * (c - g) = square (sub-le-sub_left more c) in
      simp (lt-leb c h low)
      (root_still _ _ _ _ _ (add-le-add (le_refl a) (mul-le-mul_right s closer))
      (mul-le-mul_right a (mul-le-mul_right s (mul-le-mul_left 4 closer)))
      (simp (lt-leb c g (omega arith)) at t))

  -- c between the two gaps
  below_above : (a p s c : ℕ) → g < c → c ≤ h → root_root a p s c g ≡ true → root_root a p s c h ≡ true
  unfolding root_root root_after root_before
  below_above a p s c low high t =
      simp (le-leb c h high) (root_crosses a _ _ p _ _ (simp (lt-leb c g low) at t))

  root_root_lem : (a p s c : ℕ) → root_root a p s c g ≡ true → root_root a p s c h ≡ true
  root_root_lem a p s c t =
      by_test (leb c g)
      (λ low. above_above a p s c (leb-true _ _ low) t)
      (λ low.
      by_test (leb c h)
      (λ high. below_above a p s c (leb-false _ _ low) (leb-true _ _ high) t)
      (λ high. below_below a p s c (leb-false _ _ high) t))

ratio_stays : (m b : ℕ) (reach : Time) (g h : ℕ) → g ≤ h → ratio_within m b reach g ≡ true → ratio_within m b reach h ≡ true
unfolding ratio_within
ratio_stays m b (Ratio n d) g h more = ratio_ratio_lem g h more m b n d
ratio_stays m b (Root p f c) g h more = ratio_root_lem g h more m b p f c

root_stays : (q e : ℕ) (reach : Time) (g h : ℕ) → g ≤ h → root_within q e reach g ≡ true → root_within q e reach h ≡ true
unfolding root_within
root_stays q e (Ratio n d) g h more = root_ratio_lem g h more q e n d
root_stays q e (Root p f c) g h more = root_root_lem g h more (q * f) (p * e) (e * f) c

-- the comparison holds at every larger gap
pub within_stays : (leave reach : Time) (g h : ℕ) → g ≤ h → within leave reach g ≡ true → within leave reach h ≡ true
unfolding within
within_stays (Ratio m b) reach g h more = ratio_stays m b reach g h more
within_stays (Root q e less) reach g h more = root_stays q e reach (g + less) (h + less) (add-le-add more (le_refl less))
