-- The entry means what the paper says for every stream that moves and every clearing distance of a file: no gap is left out.
use Rattle.std.specs.Prelude.{ℕ, ◌+◌, ◌-◌, ◌*◌, ◌≤◌, ◌<◌, Bool, true, ◌≡◌, leb, ltb, eqb}
use Rattle.std.proofs.Common.{le_trans, sub-add_cancel, mul-le-mul, mul-le-mul_left, sym, ◌∙◌}
use Rattle.std.proofs.Math.Nat.{add-zero, mul-le-mul_right}
use native.Mathlib.Omega.{arith}
use Rattle.std.proofs.Math.Path.{ap}
use borrow.Author.Tests.{le-leb, leb-true}
use Rattle.laws.specs.Tests.{by_test}
use Rattle.streams.specs.declared.Kind.{Kind}
use Rattle.streams.specs.declared.Kind.TheVariants.{Car, Tram, Pedestrian, Cyclist, Island}
use Rattle.streams.specs.declared.PedestrianFigures.{PedestrianFigures}
use Rattle.streams.specs.declared.Stream.{Stream}
use Rattle.times.specs.declared.Time.{Time}
use Rattle.times.specs.declared.Time.TheVariants.{Ratio, Root}
use Rattle.times.specs.Comparison.{ratio_ratio, ratio_root, root_ratio, root_after, root_root, ratio_within, root_within, within, below_root}
use Rattle.times.specs.Times.{car_time, car_leaving, longer, stop_leaving, tram_leaving, walk_leaving, leaving, passing, car_reaching}
use Rattle.times.specs.Times.{tram_reaching, counted_reaching, walk_reaching, reaching}
use Rattle.times.proofs.Gaps.{gap_decides, gap_least}
use Rattle.times.specs.Entry.{entry}
use Rattle.times.specs.Least.{NotEarly, Moves}

-- √a ≤ (k + c) √s and c √s ≤ √p give √a ≤ k √s + √p
after_clears : (a p s c k : ℕ) → a ≤ (k + c) * (k + c) * s → c * c * s ≤ p → root_after a p s k ≡ true
unfolding root_after below_root
after_clears a p s c k h late =
    let side : a - (k * k * s + p) ≤ 2 * k * c * s = omega arith in
    le-leb _ _ (le_trans (mul-le-mul side side) (omega (arith, mul-le-mul_left (4 * (k * k) * s) late)))

-- a time of at most g seconds leaves by g + a reaching time that is not below 0
module _ (g : ℕ) where
  ratio_clears : (m b : ℕ) (reach : Time) → NotEarly g reach → m ≤ g * b → ratio_within m b reach g ≡ true
  unfolding ratio_within ratio_ratio ratio_root
  ratio_clears m b (Ratio n d) late h = le-leb _ _ (le_trans (mul-le-mul_right d h) (omega arith))
  ratio_clears m b (Root p f c) late h =
      let side : m + c * b - g * b ≤ c * b = omega arith in
      le-leb _ _
      (le_trans (mul-le-mul_right f (mul-le-mul side side)) (omega (arith, mul-le-mul_right (b * b) late.1)))

  root_clears : (q e : ℕ) (reach : Time) → NotEarly g reach → q ≤ g * g * e → root_within q e reach g ≡ true
  unfolding root_within root_ratio root_root
  root_clears q e (Ratio n d) late h =
      let side : g * d ≤ g * d + n = omega arith in
      le-leb _ _
      (le_trans (mul-le-mul_right (d * d) h) (omega (arith, mul-le-mul_right e (mul-le-mul side side))))
  root_clears q e (Root p f c) late h =
      let whole = ap (λ z. z * z * (e * f)) (sub-add_cancel late.0) in
      rw (le-leb c g late.0)
      (after_clears (q * f) (p * e) (e * f) c (g - c) (omega (arith, mul-le-mul_right f h)) (omega (arith, mul-le-mul_right e late.1)))

  longer_clears : (q e n d : ℕ) (reach : Time) → NotEarly g reach → q ≤ g * g * e → n ≤ g * d → within (longer q e n d) reach g ≡ true
  unfolding longer within
  longer_clears q e n d reach late low few =
      by_test (root_ratio q e n d 0)
      (λ t. rw t (ratio_clears n d reach late few))
      (λ t. rw t (simp add-zero (root_clears q e reach late low)))

counted_late : (counted : Bool) (r speed : ℕ) → NotEarly 999 (counted_reaching counted r speed)
unfolding counted_reaching
counted_late counted r speed = by_test counted (λ e. rw e tt) (λ e. rw e tt)

reaching_late : (k : Kind) (r : ℕ) → NotEarly 999 (reaching k r)
unfolding reaching car_reaching tram_reaching walk_reaching passing
reaching_late (Car c) r = by_test c.flying (λ e. rw e tt) (λ e. rw e (omega arith))
reaching_late (Tram t) r = by_test t.stop (λ e. rw e (omega arith)) (λ e. rw e tt)
reaching_late (Pedestrian p) r = counted_late _ _ _
reaching_late (Cyclist y) r = counted_late _ _ _
reaching_late (Island i) r = counted_late _ _ _

module _ (l : ℕ) (low : l ≤ 999) (reach : Time) (late : NotEarly 999 reach) where
  car_clears : (approach speed amber : ℕ) → approach ≤ 3 → 50 ≤ speed → amber < 256 → within (car_time approach speed amber l) reach 999 ≡ true
  unfolding car_time within
  car_clears approach speed amber a v y =
      ratio_clears 999 _ speed reach late (omega (arith, mul-le-mul_right speed a, mul-le-mul_right speed y))

  stop_clears : (length : ℕ) → length < 65536 → within (stop_leaving length l) reach 999 ≡ true
  unfolding stop_leaving within
  stop_clears length h =
      by_test (leb l 400)
      (λ e. rw e (simp add-zero (root_clears 999 (l + length) _ reach late (omega arith))))
      (λ e. rw e (longer_clears 999 _ _ _ _ reach late (omega arith) (omega arith)))

  walk_clears : (p : PedestrianFigures) → 0 < p.speed → within (walk_leaving p l) reach 999 ≡ true
  unfolding walk_leaving within
  walk_clears p m = ratio_clears 999 l p.speed reach late (omega arith)

  leaves : (k : Kind) → Moves k → within (leaving k l) reach 999 ≡ true
  unfolding leaving car_leaving tram_leaving within
  leaves (Car c) m =
      by_test (eqb c.radius 0)
      (λ e. rw e (car_clears 3 100 c.amber (omega arith) (omega arith) m))
      (λ e. rw e
      (by_test (ltb 150 c.radius)
      (λ t. rw t (car_clears 2 70 c.amber (omega arith) (omega arith) m))
      (λ t. rw t (car_clears 2 50 c.amber (omega arith) (omega arith) m))))
  leaves (Tram t) m =
      by_test t.stop (λ e. rw e (stop_clears t.length m)) (λ e. rw e (ratio_clears 999 _ 1000 reach late (omega arith)))
  leaves (Pedestrian p) m = walk_clears p m
  leaves (Cyclist y) m = ratio_clears 999 _ 40 reach late (omega arith)
  leaves (Island i) m = walk_clears i.walk m

-- an entry is at most 999 s
pub entry_small : (i j : Stream) (clearing reach : ℕ) → Moves i.kind → clearing ≤ 999 → entry i j clearing reach ≤ 999
unfolding entry
entry_small i j clearing reach moves low =
    leb-true _ _
    (sym (gap_decides (leaving i.kind clearing) (reaching j.kind reach) 999 (omega arith))
    ∙ leaves clearing low (reaching j.kind reach) (reaching_late j.kind reach) i.kind moves)

-- the entry is the least whole number, not below 0, that is at least leaving minus reaching: a gap is enough exactly where it is at least
-- the entry
pub entry_least : (i j : Stream) (clearing reach : ℕ) → Moves i.kind → clearing ≤ 999 → (gap : ℕ)
    → within (leaving i.kind clearing) (reaching j.kind reach) gap ≡ leb (entry i j clearing reach) gap
unfolding entry
entry_least i j clearing reach moves low =
    let small = entry_small i j clearing reach moves low in gap_least _ _ (omega arith)
