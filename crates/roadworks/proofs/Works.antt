-- When a length works, without the planner's tests: it is at least L, and each approach has its needed green and its capacity. A green of 8 s is one of
-- 1 s or more, and the rule of the zone holds by itself (lemmas/Filled.antt).
use Rattle.std.specs.Prelude.{ℕ, ◌-◌, ◌*◌, ◌≤◌, ◌<◌, Bool, true, ◌↔◌, ◌≡◌, leb}
use Rattle.std.proofs.Common.{zero-le, arith}
use Rattle.std.proofs.Math.Dec.{ltb}
use borrow.Author.Tests.{leb-true, leb-false, le-leb, ltb-true}
use Rattle.laws.specs.Search.{first_below}
use Rattle.laws.proofs.Search.{first_passes}
use Rattle.laws.specs.Tests.{by_test, both, both_left, both_right}
use Rattle.phase_lengths.specs.Phases.{lost_time}
use Rattle.phase_greens.specs.Fills.{Right}
use Rattle.phase_greens.specs.Greens.{sharing, green_at, first_below_one, gives_greens}
use Rattle.roadworks.proofs.Approaches.{lost_twice}
use Rattle.roadworks.specs.Meaning.{Enough}
use Rattle.roadworks.specs.Roadworks.{intergreen, asked_of, phases_of, served, rules_kept, works}
use Rattle.roadworks.specs.declared.Approach.{Approach}
use Rattle.roadworks.specs.declared.Asked.{Asked}
use Rattle.roadworks.proofs.lemmas.Filled.{zone_always}
use Rattle.roadworks.specs.Works.{served_exact, q, w, g, served_both}

-- two greens of 1 s or more are given at a length that is at least the lost time
module _ (w : Asked) (t : ℕ) where
  -- a green of 1 s or more is not the first below 1
  none_below : 1 ≤ green_at (q w t) (sharing (q w t) t) 0 → 1 ≤ green_at (q w t) (sharing (q w t) t) 1 → 2 ≤ first_below (λ i. ltb (green_at (q w t) (sharing (q w t) t) i) 1) 2 0
  none_below first second =
      let below : ℕ → Bool = λ i. ltb (green_at (q w t) (sharing (q w t) t) i) 1 in
      let found = first_below below 2 0 in
      by_test (leb 2 found) (λ e. leb-true 2 found e)
      (λ e. let low : found < 2 = leb-false 2 found e in
      let short : below found ≡ true = first_passes below 2 0 zero-le low in
      by_test (leb 1 found)
      (λ f. let is : found ≡ 1 = omega (arith, leb-true 1 found f) in
      let no : below 1 ≡ true = rw is at short in
      absurd (omega (arith, ltb-true (green_at (q w t) (sharing (q w t) t) 1) 1 no)))
      (λ f. let is : found ≡ 0 = omega (arith, leb-false 1 found f) in
      let no : below 0 ≡ true = rw is at short in
      absurd (omega (arith, ltb-true (green_at (q w t) (sharing (q w t) t) 0) 1 no))))

  greens_given : lost_time (q w t) ≤ t → 1 ≤ green_at (q w t) (sharing (q w t) t) 0 → 1 ≤ green_at (q w t) (sharing (q w t) t) 1 → gives_greens (q w t) t ≡ true
  unfolding gives_greens first_below_one phases_of
  greens_given above first second =
      both (leb (lost_time (q w t)) t) _ (le-leb (lost_time (q w t)) t above) (le-leb 2 (first_below (λ i. ltb (green_at (q w t) (sharing (q w t) t) i) 1) 2 0) (none_below first second))

  lost_below : gives_greens (q w t) t ≡ true → lost_time (q w t) ≤ t
  unfolding gives_greens
  lost_below e = leb-true _ _ (both_left (leb (lost_time (q w t)) t) _ e)

-- of approaches whose phases are as the rules of greens ask
module _ (stretch speed : ℕ) (a b : Approach) (right : Right (phases_of (asked_of stretch speed a b))) (t : ℕ) where
  pub works_exact : (works (w stretch speed a b right t) t ≡ true) ↔ ((2 * (intergreen stretch speed - 1) ≤ t) × Enough a (g stretch speed a b right t).first t × Enough b (g stretch speed a b right t).second t)
  unfolding works rules_kept
  works_exact =
      let greens = gives_greens (phases_of (w stretch speed a b right t)) t in
      let first = served_exact a (g stretch speed a b right t).first t in
      let second = served_exact b (g stretch speed a b right t).second t in
      let lost = lost_twice (w stretch speed a b right t) in (
        λ e. let given = both_left greens _ e in
            let rules = both_left (served_both stretch speed a b right t) _ (both_right greens _ e) in (
              omega (arith, lost_below (w stretch speed a b right t) t given),
              first.0 (both_left (served (w stretch speed a b right t).first (g stretch speed a b right t).first t) _ rules),
              second.0 (both_right (served (w stretch speed a b right t).first (g stretch speed a b right t).first t) _ rules),
            ),
        λ h. let given = greens_given (w stretch speed a b right t) t (omega (arith, h.0)) (omega (arith, h.1.0)) (omega (arith, h.2.0)) in
            both greens _ given
            (both (served_both stretch speed a b right t) _ (both (served (w stretch speed a b right t).first (g stretch speed a b right t).first t) _ (first.1 h.1) (second.1 h.2)) (zone_always (w stretch speed a b right t) t right given)),
      )
