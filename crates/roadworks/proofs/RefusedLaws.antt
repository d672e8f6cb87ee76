-- Each refusal exactly: 25, 26, 21, 22 and 27, each where its question fails and those before it do not; and the signals where none fails.
use Rattle.std.specs.Prelude.{ℕ, ◌≤◌, ◌<◌, true, false, cond, ◌↔◌, ◌≡◌, refl, ltb, Ok, Err}
use Rattle.std.proofs.Common.{arith, true≢false, sym, ap}
use borrow.Author.Tests.{ltb-true, ltb-false, lt-ltb, le-ltb}
use Rattle.laws.specs.Ranges.{Between}
use Rattle.limits.specs.Limits.{most_seconds, no_cycle}
use Rattle.fields.specs.Verdict.{number_of, place_of, is_refused, ask, ask_passed, ask_here, ask_after, Verdict, Passed, Refused}
use Rattle.stretches.specs.Table.{listed}
use Rattle.phase_lengths.specs.Phases.{ratio_sum}
use Rattle.roadworks.proofs.Cycle.{no_cycle_lem}
use Rattle.roadworks.specs.Roadworks.{phases_of, first_tried, works, cycle_of, later_verdict, portable_verdict, unless, refusal, refused_at, no_timing, figures}
use Rattle.roadworks.specs.declared.Approach.{Approach}
use Rattle.roadworks.specs.declared.Timing.{Timing}
use Rattle.roadworks.specs.Refused.{w, v, ranges, waiting, last, searched, GivenRight, BelowOne}

module _ (stretch speed : ℕ) (a b : Approach) where
  -- no refusal has another number
  last_only : (n : ℕ) → (27 ≡ n → ⊥) → last stretch speed a b ≡ Refused n 0 → ⊥
  last_only n seven e = true≢false (sym (ap is_refused ((ask_after (waiting stretch speed a b) 27 0 n 0 Passed seven).0 e).1))

  searched_only : (n : ℕ) → (22 ≡ n → ⊥) → (27 ≡ n → ⊥) → searched stretch speed a b ≡ Refused n 0 → ⊥
  searched_only n two seven e = last_only n seven ((ask_after (ltb (cycle_of (w stretch speed a b)) no_cycle) 22 0 n 0 (last stretch speed a b) two).0 e).1

  later_only : (n : ℕ) → (21 ≡ n → ⊥) → (22 ≡ n → ⊥) → (27 ≡ n → ⊥) → later_verdict (w stretch speed a b) a b ≡ Refused n 0 → ⊥
  unfolding later_verdict
  later_only n one two seven e = searched_only n two seven ((ask_after (ltb (ratio_sum (phases_of (w stretch speed a b))) 10000) 21 0 n 0 (searched stretch speed a b) one).0 e).1

  pub refused_25 : (v stretch speed a b ≡ Refused 25 0) ↔ (listed stretch speed ≡ false)
  unfolding portable_verdict
  refused_25 =
      ask_here (listed stretch speed) 25 0 _ (λ e.
      later_only 25 (λ h. omega arith) (λ h. omega arith) (λ h. omega arith) ((ask_after (ranges stretch speed a b) 26 0 25 0 _ (λ h. omega arith)).0 e).1)

  pub refused_26 : (v stretch speed a b ≡ Refused 26 0) ↔ ((listed stretch speed ≡ true) × (ranges stretch speed a b ≡ false))
  unfolding portable_verdict
  refused_26 =
      let first = ask_after (listed stretch speed) 25 0 26 0 (ask (ranges stretch speed a b) 26 0 (later_verdict (w stretch speed a b) a b)) (λ h. omega arith) in
      let own = ask_here (ranges stretch speed a b) 26 0 (later_verdict (w stretch speed a b) a b) (later_only 26 (λ h. omega arith) (λ h. omega arith) (λ h. omega arith)) in (
        λ e. let f = first.0 e in (f.0, own.0 f.1),
        λ h. first.1 (h.0, own.1 h.1),
      )

  later_asked : (n : ℕ) → (25 ≡ n → ⊥) → (26 ≡ n → ⊥) → (v stretch speed a b ≡ Refused n 0) ↔ (GivenRight stretch speed a b × (later_verdict (w stretch speed a b) a b ≡ Refused n 0))
  unfolding portable_verdict
  later_asked n five six =
      let first = ask_after (listed stretch speed) 25 0 n 0 (ask (ranges stretch speed a b) 26 0 (later_verdict (w stretch speed a b) a b)) five in
      let second = ask_after (ranges stretch speed a b) 26 0 n 0 (later_verdict (w stretch speed a b) a b) six in (
        λ e. let f = first.0 e in let s = second.0 f.1 in ((f.0, s.0), s.1),
        λ h. first.1 (h.0.0, second.1 (h.0.1, h.1)),
      )

  pub refused_21 : (v stretch speed a b ≡ Refused 21 0) ↔ (GivenRight stretch speed a b × (10000 ≤ ratio_sum (phases_of (w stretch speed a b))))
  unfolding later_verdict
  refused_21 =
      let first = later_asked 21 (λ h. omega arith) (λ h. omega arith) in
      let own = ask_here (ltb (ratio_sum (phases_of (w stretch speed a b))) 10000) 21 0 (searched stretch speed a b) (searched_only 21 (λ h. omega arith) (λ h. omega arith)) in (
        λ e. let f = first.0 e in (f.0, ltb-false _ _ (own.0 f.1)),
        λ h. first.1 (h.0, own.1 (le-ltb _ _ h.1)),
      )

  search_asked : (n : ℕ) → (25 ≡ n → ⊥) → (26 ≡ n → ⊥) → (21 ≡ n → ⊥) → (v stretch speed a b ≡ Refused n 0) ↔ (BelowOne stretch speed a b × (searched stretch speed a b ≡ Refused n 0))
  unfolding later_verdict
  search_asked n five six one =
      let first = later_asked n five six in
      let own = ask_after (ltb (ratio_sum (phases_of (w stretch speed a b))) 10000) 21 0 n 0 (searched stretch speed a b) one in (
        λ e. let f = first.0 e in let o = own.0 f.1 in ((f.0, ltb-true _ _ o.0), o.1),
        λ h. first.1 (h.0.0, own.1 (lt-ltb _ _ h.0.1, h.1)),
      )

  -- 22 exactly where no length from T0 to 180 works
  pub refused_22 : (v stretch speed a b ≡ Refused 22 0) ↔ (BelowOne stretch speed a b × ((t : ℕ) → Between (first_tried (w stretch speed a b)) most_seconds t → works (w stretch speed a b) t ≡ false))
  refused_22 =
      let first = search_asked 22 (λ h. omega arith) (λ h. omega arith) (λ h. omega arith) in
      let own = ask_here (ltb (cycle_of (w stretch speed a b)) no_cycle) 22 0 (last stretch speed a b) (last_only 22 (λ h. omega arith)) in (
        λ e. let f = first.0 e in (f.0, (no_cycle_lem (w stretch speed a b)).0 (ltb-false _ _ (own.0 f.1))),
        λ h. first.1 (h.0, own.1 (le-ltb _ _ ((no_cycle_lem (w stretch speed a b)).1 h.1))),
      )

  -- 27 where there is a cycle, and an available waiting length is not above the needed one
  pub refused_27 : (v stretch speed a b ≡ Refused 27 0) ↔ (BelowOne stretch speed a b × (cycle_of (w stretch speed a b) < no_cycle) × (waiting stretch speed a b ≡ false))
  refused_27 =
      let first = search_asked 27 (λ h. omega arith) (λ h. omega arith) (λ h. omega arith) in
      let second = ask_after (ltb (cycle_of (w stretch speed a b)) no_cycle) 22 0 27 0 (last stretch speed a b) (λ h. omega arith) in
      let own = ask_here (waiting stretch speed a b) 27 0 Passed (λ e. true≢false (sym (ap is_refused e))) in (
        λ e. let f = first.0 e in let s = second.0 f.1 in (f.0, ltb-true _ _ s.0, own.0 s.1),
        λ h. first.1 (h.0, second.1 (lt-ltb _ _ h.1, own.1 h.2)),
      )

  -- nothing is refused
  pub portable_passed : (v stretch speed a b ≡ Passed) ↔ (BelowOne stretch speed a b × (cycle_of (w stretch speed a b) < no_cycle) × (waiting stretch speed a b ≡ true))
  unfolding portable_verdict later_verdict
  portable_passed = (
    λ e. let first = ask_passed (listed stretch speed) 25 0 _ e in
        let second = ask_passed (ranges stretch speed a b) 26 0 _ first.1 in
        let third = ask_passed (ltb (ratio_sum (phases_of (w stretch speed a b))) 10000) 21 0 _ second.1 in
        let fourth = ask_passed (ltb (cycle_of (w stretch speed a b)) no_cycle) 22 0 _ third.1 in
        (((first.0, second.0), ltb-true _ _ third.0), ltb-true _ _ fourth.0, (ask_passed (waiting stretch speed a b) 27 0 Passed fourth.1).0),
    λ h. rw (h.0.0.0, h.0.0.1, lt-ltb (ratio_sum (phases_of (w stretch speed a b))) 10000 h.0.1, lt-ltb (cycle_of (w stretch speed a b)) no_cycle h.1, h.2),
  )

-- the answer has the verdict's number and place, and the figures where nothing is refused, else 0 for each
pub unless_number : (v : Verdict) (x : Timing) → (refusal (unless v x) ≡ number_of v) × (refused_at (unless v x) ≡ place_of v)
unfolding unless refusal refused_at
unless_number (Ok u) x = (refl, refl)
unless_number (Err r) x = (refl, refl)

pub unless_figures : (v : Verdict) (x : Timing) → figures (unless v x) ≡ cond (is_refused v) no_timing x
unfolding unless figures
unless_figures (Ok u) x = refl
unless_figures (Err r) x = refl
