-- A fraction is at least the larger of two times exactly where it is at least both, and so the larger leaves in time exactly where both do.
use Rattle.std.specs.Prelude.{ℕ, ◌+◌, ◌*◌, ◌≤◌, ◌<◌, true, false, ◌↔◌, ◌≡◌}
use Rattle.std.proofs.Math.Nat.{mul-le-mul_right}
use Rattle.std.proofs.Common.{arith}
use borrow.Author.Tests.{leb-true, leb-false, lt-leb}
use Rattle.laws.specs.Tests.{by_test}
use Rattle.times.specs.Comparison.{root_ratio, within}
use Rattle.times.specs.Times.{longer, stop_leaving}
use Rattle.times.specs.declared.Time.{Time}
use Rattle.times.specs.declared.Time.TheVariants.{Ratio, Root}
use Rattle.exact_times.specs.lemmas.Roots.{by_squares}
use Rattle.exact_times.proofs.Numbers.{root_below_lem, within_numbers}
use Rattle.exact_times.specs.Numbers.{AtLeast, Sound, Within}
use Rattle.exact_times.specs.Larger.{by_eleven_prime}

module _ (q e n d : ℕ) (e-pos : 0 < e) (d-pos : 0 < d) where
  -- √(q/e) ≤ n/d, and a/b is at least n/d
  over_root : root_ratio q e n d 0 ≡ true → (a b : ℕ) → AtLeast a b (Ratio n d) → AtLeast a b (Root q e 0)
  unfolding root_ratio
  over_root t a b h =
      root_below_lem q e n d (a + 0 * b) b d-pos (omega (arith, leb-true (q * (d * d)) ((0 * d + n) * (0 * d + n) * e) t)) (omega (arith, h))

  -- n/d < √(q/e), and a/b is at least √(q/e)
  over_ratio : root_ratio q e n d 0 ≡ false → (a b : ℕ) → AtLeast a b (Root q e 0) → AtLeast a b (Ratio n d)
  unfolding root_ratio
  over_ratio t a b h =
      let less : n * n * e ≤ q * (d * d) = omega (arith, leb-false (q * (d * d)) ((0 * d + n) * (0 * d + n) * e) t) in
      by_squares (n * b) (a * d) e e-pos (omega (arith, mul-le-mul_right (b * b) less, mul-le-mul_right (d * d) h))

  -- a fraction is at least the larger of √(q/e) and n/d exactly where it is at least both
  pub longer_at_least : (a b : ℕ) → AtLeast a b (longer q e n d) ↔ (AtLeast a b (Root q e 0) × AtLeast a b (Ratio n d))
  unfolding longer
  longer_at_least a b =
      by_test (root_ratio q e n d 0)
      (λ t. rw t (λ h. (over_root t a b h, h), λ both. both.1))
      (λ t. rw t (λ h. (h, over_ratio t a b h), λ both. both.0))

  -- whatever the reaching time and the gap, the larger leaves in time exactly where both do ..
  pub longer_within : (reach : Time) (gap : ℕ)
      → Within (longer q e n d) reach gap ↔ (Within (Root q e 0) reach gap × Within (Ratio n d) reach gap)
  longer_within reach gap = (
    λ all. (
      λ a b b-pos h. ((longer_at_least (gap * b + a) b).0 (all a b b-pos h)).0,
      λ a b b-pos h. ((longer_at_least (gap * b + a) b).0 (all a b b-pos h)).1,
    ),
    λ each a b b-pos h. (longer_at_least (gap * b + a) b).1 (each.0 a b b-pos h, each.1 a b b-pos h),
  )

  pub longer_sound : Sound (longer q e n d)
  unfolding longer
  longer_sound = by_test (root_ratio q e n d 0) (λ t. rw t d-pos) (λ t. rw t (e-pos, omega arith))

  -- .. and so by document 01's letter, for every reaching time that is a number not below 0, as that of every stream is
  pub longer_both : (reach : Time) → Sound reach → (gap : ℕ)
      → (within (longer q e n d) reach gap ≡ true) ↔ ((within (Root q e 0) reach gap ≡ true) × (within (Ratio n d) reach gap ≡ true))
  longer_both reach sound gap =
      let larger = within_numbers (longer q e n d) reach longer_sound sound gap in
      let root = within_numbers (Root q e 0) reach (e-pos, omega arith) sound gap in
      let ratio = within_numbers (Ratio n d) reach d-pos sound gap in
      let each = longer_within reach gap in (
        λ t. let parts = each.0 (larger.0 t) in (root.1 parts.0, ratio.1 parts.1),
        λ parts. larger.1 (each.1 (root.0 parts.0, ratio.0 parts.1)),
      )

-- document 02's sentence: beyond 400 dm a stop tram leaves in time exactly where it does by (11) at 400 and by (11'), whatever the reaching
-- time and the gap
pub beyond_400 : (t l : ℕ) → 400 < l → (reach : Time) (gap : ℕ)
    → Within (stop_leaving t l) reach gap ↔ (Within (stop_leaving t 400) reach gap × Within (by_eleven_prime l) reach gap)
unfolding stop_leaving
beyond_400 t l far reach gap = rw (lt-leb l 400 far) (longer_within (400 + t) 5 _ 1110 (omega arith) (omega arith) reach gap)
