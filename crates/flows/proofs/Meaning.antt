-- An island's need is the least that is enough for both quotients, and Table 1 is read at the greatest listed width not above the approach's.
use Rattle.std.specs.Prelude.{ℕ, ◌+◌, ◌*◌, ◌≤◌, ◌<◌, Bool, true, ◌&&◌, ◌↔◌, ◌≡◌, refl, ltb, leb}
use Rattle.std.proofs.Common.{arith, ⊎_elim, ap, ltb-true, leb-true, leb-false, le-leb}
use mathlib.Core.List.Memᴰ
use mathlib.Core.List.{List, [], ◌∷◌, Memᴰ}
use Rattle.laws.proofs.Rounding.{up_least}
use Rattle.laws.specs.Tests.{by_test, both_left, both_right}
use Rattle.streams.specs.declared.IslandFigures.{IslandFigures}
use Rattle.flows.specs.Needs.{crossing_speed, disturbance, island_need}
use Rattle.flows.specs.Saturation.{Row, table1, listed_from, straight_flow}
use Rattle.flows.specs.Meaning.{pedestrian_least, Greatest}

-- (38) to (40) with (39'): the least whole number that is at least 6 and at least both quotients, (wider carriageway + island + packet)/12 and kind
-- 3's, crossing/12 or crossing/16, each plus 3 if disturbed
pub island_least : (i : IslandFigures) (k : ℕ)
    → (island_need i ≤ k)
    ↔ ((6 ≤ k) × (i.wider + i.island + i.packet + disturbance i.walk * 12 ≤ k * 12)
    × (i.walk.crossing + disturbance i.walk * crossing_speed i.walk ≤ k * crossing_speed i.walk))
unfolding island_need
island_least i k =
    let by-crossing = pedestrian_least i.walk k in
    let by-island = up_least (i.wider + i.island + i.packet + disturbance i.walk * 12) 12 k (omega arith) in (
      λ h. ((by-crossing.0 (omega arith)).0, by-island.0 (omega arith), (by-crossing.0 (omega arith)).1),
      λ h. omega (arith, by-crossing.1 (h.0, h.2), by-island.1 h.1),
    )

-- the widths rise, from above a
rising : ℕ → List Row → Bool
rising a [] = true
rising a (r ∷ rows) = ltb a r.width && rising r.width rows

rises : (a : ℕ) (r : Row) (rows : List Row) → rising a (r ∷ rows) ≡ true → (a < r.width) × (rising r.width rows ≡ true)
unfolding rising
rises a r rows t = (ltb-true _ _ (both_left (ltb a r.width) _ t), both_right (ltb a r.width) _ t)

all_wider : (w : ℕ) (r : Row) (rows : List Row) → w < r.width → rising r.width rows ≡ true
    → (s : Row) → Memᴰ s (r ∷ rows) → w < s.width
all_wider w r [] h t s m = rw (Memᴰ.eq_of_singleton m) h
all_wider w r (q ∷ rows) h t s m =
    let rise = rises r.width q rows t in
    ⊎_elim (λ (e : s ≡ r). rw e h) (λ n. all_wider w q rows (omega arith) rise.1 s n) (Memᴰ.cases_cons m)

module _ (r : Row) (w : ℕ) (low : r.width ≤ w) where
  at_first : (rows : List Row) → ((s : Row) → Memᴰ s rows → w < s.width) → Greatest (r ∷ rows) w r
  at_first rows wider =
      record {
        listed = Memᴰ.head refl;
        not_wider = low;
        greatest =
            λ s m l. ⊎_elim (λ e. omega (arith, ap Row.width e)) (λ n. absurd (omega (arith, wider s n))) (Memᴰ.cases_cons m);
      }

  at_later : (q s : Row) (rows : List Row) → r.width < q.width → q.width ≤ w
      → Greatest (q ∷ rows) w s → Greatest (r ∷ q ∷ rows) w s
  at_later q s rows rise fits g =
      record {
        listed = Memᴰ.tail g.listed;
        not_wider = g.not_wider;
        greatest =
            λ t m l. ⊎_elim (λ e. omega (arith, ap Row.width e, g.greatest q (Memᴰ.head refl) fits)) (λ n. g.greatest t n l)
            (Memᴰ.cases_cons m);
      }

listed_greatest : (r : Row) (rows : List Row) (w : ℕ) → rising r.width rows ≡ true → r.width ≤ w
    → (s : Row) × Greatest (r ∷ rows) w s × (listed_from r.flow rows w ≡ s.flow)
unfolding listed_from
listed_greatest r [] w t h = (r, at_first r w h [] (λ s m. absurd (Memᴰ.not-nil m)), refl)
listed_greatest r (q ∷ rows) w t h =
    let rise = rises r.width q rows t in
    by_test (leb q.width w)
    (λ e. let fits = leb-true q.width w e in
    let found = listed_greatest q rows w rise.1 fits in
    rw e (found.0, at_later r w h q found.0 rows rise.0 fits found.1, found.2))
    (λ e. rw e (r, at_first r w h (q ∷ rows) (all_wider w q rows (leb-false q.width w e) rise.1), refl))

-- Table 1 at the greatest listed width not above w
pub straight_listed : (w : ℕ) → 300 ≤ w → w ≤ 540 → (r : Row) × Greatest table1 w r × (straight_flow w ≡ r.flow)
unfolding straight_flow listed_from table1
straight_listed w low high = rw (le-leb w 540 high, le-leb 300 w low) (listed_greatest _ _ w (unfold rising in refl) low)
