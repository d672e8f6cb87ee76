-- The greens and intergreens of a length that gives every phase a green fill the cycle exactly: what is left over after rounding down is handed
-- out whole.
use Prim.Native.Nat.{ℕ, ◌+◌, ◌-◌, ◌*◌, ◌/◌, ◌≤◌, ◌<◌, zero-le}
use Rattle.std.proofs.Common.{ne_of_gt, sym, ◌∙◌, ap}
use Rattle.std.proofs.Math.Nat.{zero-mul, zero-div}
use native.Mathlib.Omega.{arith}
use Rattle.std.specs.Prelude.{true, false, ◌≡◌, leb}
use Rattle.std.proofs.lemmas.Bool.{false≢true}
use Rattle.std.proofs.Math.Dec.{ltb}
use borrow.Author.Tests.{leb-true, ltb-true, ltb-false, ne_eqb}
use Rattle.laws.proofs.Search.{first_fails}
use Rattle.laws.specs.Shares.{shares_within, shares_close}
use Rattle.laws.specs.Sums.{sum_of, sum_part, sum_same, sum_at_most, sum_plus}
use Rattle.laws.specs.Tests.{by_test, both_left, both_right}
use Rattle.limits.specs.Limits.{most_phases}
use Rattle.phase_lengths.specs.declared.Phase.{Phase}
use Rattle.phase_lengths.specs.declared.Phases.{Phases}
use Rattle.phase_lengths.specs.Phases.{phase, lost, ratio_sum, lost_time}
use Rattle.phase_greens.specs.Greens.{share, shares, sharing, cars_before, extra, green_at, start_at, first_below_one, gives_greens}
use Rattle.phase_greens.specs.Fills.{Right, given, extras, counted, shared}

module _ (q : Phases) (r : Right q) (t : ℕ) where
  without_cars : (i : ℕ) → counted q i ≡ 0 → (phase q i).ratio ≡ 0
  without_cars i none =
      by_test (phase q i).cars (λ e. let never : ◌≡◌ {A = ℕ} 1 0 = rw e at none in absurd (omega arith)) (λ e. r.plain i e)

  shared_is : (i : ℕ) → shared q t i ≡ (phase q i).ratio * (t - lost_time q) / ratio_sum q
  unfolding share
  shared_is i = rw (ne_eqb (ratio_sum q) 0 (ne_of_gt r.some))

  shares_are : sum_of (shared q t) most_phases ≡ sum_of (λ i. (phase q i).ratio * (t - lost_time q) / ratio_sum q) most_phases
  shares_are = sum_same _ _ most_phases (λ i low. shared_is i)

  shared_within : sum_of (shared q t) most_phases ≤ t - lost_time q
  unfolding ratio_sum
  shared_within = rw shares_are (shares_within (λ i. (phase q i).ratio) most_phases (t - lost_time q) r.some)

  -- the seconds left over are fewer than the phases with cars
  pub left_fewer : (sharing q t).left < cars_before q most_phases
  unfolding sharing shares ratio_sum cars_before
  left_fewer =
      let close : t - lost_time q < sum_of (shared q t) most_phases + cars_before q most_phases =
      rw shares_are
      (shares_close (λ i. (phase q i).ratio) most_phases (t - lost_time q) r.some (counted q) (λ i low. without_cars i)) in
      omega (arith, shared_within)

  within_count : (i : ℕ) → (phase q i).cars ≡ true → i < q.count
  within_count i e =
      by_test (ltb i q.count) (λ f. ltb-true _ _ f)
      (λ f. absurd (false≢true (sym (ap Phase.cars (r.none i (ltb-false _ _ f))) ∙ e)))

  module _ (p : gives_greens q t ≡ true) where
    pub green_some : (i : ℕ) → i < q.count → 1 ≤ green_at q (sharing q t) i
    unfolding gives_greens first_below_one
    green_some i h =
        let all : q.count ≤ first_below_one q (sharing q t) = leb-true _ _ (both_right (leb (lost_time q) t) _ p) in
        ltb-false _ _ (first_fails (λ k. ltb (green_at q (sharing q t) k) 1) q.count 0 i zero-le (omega arith))

    -- green and intergreen are the share, what is given of the seconds left over, and the lost time
    parts : (i : ℕ) → green_at q (sharing q t) i + (phase q i).intergreen ≡ shared q t i + given q (sharing q t).left i + lost (phase q i)
    unfolding green_at sharing lost
    parts i =
        by_test (phase q i).cars
        (λ e. let place = within_count i e in
        let green : 1 ≤ shared q t i + extra (cars_before q i) (sharing q t).left - 1 = rw e at (green_some i place) in
        rw e (omega (arith, r.between i place)))
        (λ e. let none : shared q t i ≡ 0 = shared_is i ∙ rw (r.plain i e, zero-mul, zero-div) in rw e (omega arith))

    -- greens and intergreens fill the cycle exactly (37)
    pub fills : start_at q (sharing q t) most_phases ≡ t
    unfolding start_at sharing shares lost_time gives_greens
    fills =
        let more = given q (sharing q t).left in
        let losts : ℕ → ℕ = λ i. lost (phase q i) in
        let whole : start_at q (sharing q t) most_phases ≡ sum_of (λ i. shared q t i + more i + losts i) most_phases =
        sum_same _ _ most_phases (λ i low. parts i) in
        let enough : lost_time q ≤ t = leb-true _ _ (both_left (leb (lost_time q) t) _ p) in
        omega (
          arith,
          sum_plus (λ i. shared q t i + more i) losts most_phases,
          sum_plus (shared q t) more most_phases,
          extras q (sharing q t).left most_phases,
          left_fewer,
          shared_within,
        )

    -- each phase has its green and its intergreen within the cycle
    pub start_within : (i : ℕ) → i < q.count
        → start_at q (sharing q t) i + green_at q (sharing q t) i + (phase q i).intergreen ≤ t
    unfolding start_at
    start_within i h =
        omega (arith, fills, sum_part (λ k. green_at q (sharing q t) k + (phase q k).intergreen) most_phases i (omega arith))

    lost_beside : (i : ℕ) → lost (phase q i) + counted q i ≤ green_at q (sharing q t) i + (phase q i).intergreen
    unfolding lost
    lost_beside i =
        by_test (phase q i).cars (λ e. rw e (omega (arith, green_some i (within_count i e))))
        (λ e. rw e (omega (arith, rw e at (parts i))))

    -- each phase with cars needs a second more than is lost to it
    pub above_lost : lost_time q < t
    unfolding start_at lost_time cars_before
    above_lost =
        let losts : ℕ → ℕ = λ i. lost (phase q i) in
        let cars = counted q in
        let least : sum_of (λ i. losts i + cars i) most_phases ≤ start_at q (sharing q t) most_phases =
        sum_at_most _ _ most_phases (λ i low. lost_beside i) in
        omega (arith, sum_plus losts cars most_phases, fills, left_fewer)

  -- so a length that is all lost gives no phase with cars a green
  pub no_room : t ≡ lost_time q → gives_greens q t ≡ false
  no_room e = by_test (gives_greens q t) (λ p. absurd (omega (arith, above_lost p))) (λ p. p)
