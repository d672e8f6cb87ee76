-- What the figures of a junction's phases mean (document 01, "Working out a plan").
use Prim.Native.Nat.{ℕ, ◌+◌, ◌-◌, ◌≤◌, zero-le}
use Rattle.std.proofs.Common.{le_refl, arith, true≢false, sym, ◌∙◌, ap}
use Rattle.std.proofs.Math.Nat.{le_antisymm, min-eq_left}
use Rattle.std.specs.Prelude.{Bool, true, false, ◌&&◌, ◌↔◌, ◌≡◌, refl}
use Rattle.std.proofs.Math.Bool.{cond}
use Rattle.std.proofs.lemmas.Bool.{false≢true}
use borrow.Author.Tests.{leb-false, lt-leb, eq-eqb}
use Rattle.laws.proofs.Largest.{largest_at_most}
use Rattle.laws.specs.Ranges.{Between}
use Rattle.laws.specs.Tests.{by_test, both, both_left, both_right}
use Rattle.limits.specs.Limits.{most_phases}
use Rattle.streams.specs.Kinds.{is_pedestrian_or_tram}
use Rattle.junction.specs.declared.Junction.{Junction}
use Rattle.junction_places.specs.Places.{stream_numbered, numbered_at}
use Rattle.junction_file.specs.Taken.{UsedPhase, Taken}
use Rattle.junction_figures.specs.Figures.{pair_entry, stream_need, stream_ratio}
use Rattle.junction_phases.specs.JunctionPhases.{largest_stream, some_stream, is_in, car_in, has_cars, phase_ratio, phase_need, phase_count, has_pedestrian_or_tram, entry_between, phase_entry}

-- a number that counts only where a test passes
pub only_at_most : (b : Bool) (v x : ℕ) → (cond b v 0 ≤ x) ↔ (b ≡ true → v ≤ x)
only_at_most b v x =
    by_test b (λ e. rw e (λ h same. h, λ h. h refl)) (λ e. rw e (λ h same. absurd (false≢true same), λ h. zero-le))

module _ (j : Junction) where
  -- the largest figure is at most x exactly where each stream's is
  pub largest_least : (figure : ℕ → ℕ) (x : ℕ)
      → (largest_stream j figure ≤ x) ↔ ((n : ℕ) → Between 1 j.held.streams n → figure n ≤ x)
  largest_least figure x =
      let each = largest_at_most (λ i. figure (i + 1)) j.held.streams x in (
        λ h n r. let there : n - 1 + 1 ≡ n = omega arith in rw there at (each.0 h (n - 1) (omega arith)),
        λ h. each.1 (λ i low. h (i + 1) (omega arith)),
      )

  -- of a figure that counts only where a test passes
  largest_only : (test : ℕ → Bool) (v : ℕ → ℕ) (x : ℕ)
      → (largest_stream j (λ n. cond (test n) (v n) 0) ≤ x) ↔ ((n : ℕ) → Between 1 j.held.streams n → test n ≡ true → v n ≤ x)
  largest_only test v x =
      let each = largest_least (λ n. cond (test n) (v n) 0) x in (
        λ h n r. (only_at_most (test n) (v n) x).0 (each.0 h n r),
        λ h. each.1 (λ n r. (only_at_most (test n) (v n) x).1 (h n r)),
      )

  -- no stream passes a test
  none_passes : (test : ℕ → Bool) → (some_stream j test ≡ false) ↔ ((n : ℕ) → Between 1 j.held.streams n → test n ≡ false)
  none_passes test =
      let most = largest_stream j (λ n. cond (test n) 1 0) in (
        λ e n r. by_test (test n)
            (λ is. absurd (omega (arith, (largest_only test (λ k. 1) 0).0 (omega (arith, leb-false 1 most e)) n r is)))
            (λ no. no),
        λ none. lt-leb 1 most (omega (arith, (largest_only test (λ k. 1) 0).1 (λ n r is. absurd (true≢false (sym is ∙ none n r))))),
      )

  -- (32) gives the first length where no stream is a pedestrian or a tram, else (33)
  pub pedestrian_or_tram_none : (has_pedestrian_or_tram j ≡ false)
      ↔ ((n : ℕ) → Between 1 j.held.streams n → is_pedestrian_or_tram (stream_numbered j n).kind ≡ false)
  unfolding has_pedestrian_or_tram
  pedestrian_or_tram_none = none_passes (λ n. is_pedestrian_or_tram (stream_numbered j n).kind)

  -- a phase has no cars where no stream of it is one
  pub cars_none : (f : ℕ) → (has_cars j f ≡ false) ↔ ((n : ℕ) → Between 1 j.held.streams n → car_in j f n ≡ false)
  unfolding has_cars
  cars_none f = none_passes (car_in j f)

  -- its y is the largest of its cars'
  pub ratio_largest : (f x : ℕ)
      → (phase_ratio j f ≤ x) ↔ ((n : ℕ) → Between 1 j.held.streams n → car_in j f n ≡ true → stream_ratio j n ≤ x)
  unfolding phase_ratio
  ratio_largest f = largest_only (car_in j f) (stream_ratio j)

  -- its need is the largest of its streams'
  pub need_largest : (f cycle x : ℕ)
      → (phase_need j f cycle ≤ x) ↔ ((n : ℕ) → Between 1 j.held.streams n → is_in j f n ≡ true → stream_need j n cycle ≤ x)
  unfolding phase_need
  need_largest f cycle = largest_only (is_in j f) (λ n. stream_need j n cycle)

  -- the largest entry from the streams of phase f to those of phase g is at most x exactly where the entry of each such pair is
  pub entry_largest : (f g x : ℕ)
      → (phase_entry j f g ≤ x)
      ↔ ((n m : ℕ) → Between 1 j.held.streams n → Between 1 j.held.streams m
      → is_in j f n ≡ true → is_in j g m ≡ true → pair_entry j n m ≤ x)
  unfolding phase_entry entry_between
  entry_largest f g x =
      let each = largest_least (λ n. largest_stream j (λ m. cond (is_in j f n && is_in j g m) (pair_entry j n m) 0)) x in (
        λ h n m here there p q. (largest_only (λ k. is_in j f n && is_in j g k) (pair_entry j n) x).0 (each.0 h n here) m there (both (is_in j f n) _ p q),
        λ h. each.1 (λ n here. (largest_only (λ k. is_in j f n && is_in j g k) (pair_entry j n) x).1
            (λ m there e. h n m here there (both_left (is_in j f n) _ e) (both_right (is_in j f n) _ e))),
      )

  -- the stream with a number is in a phase that is used, and a phase that is used has a stream with a number
  used_number : (n : ℕ) → Between 1 j.held.streams n → UsedPhase j (stream_numbered j n).phase
  used_number n r =
      record { place = n - 1; held = omega arith; phase = ap (λ s. s.phase) (sym (numbered_at j n r.0)) }

  number_used : (f : ℕ) → UsedPhase j f → (n : ℕ) × Between 1 j.held.streams n × ((stream_numbered j n).phase ≡ f)
  number_used f u =
      let there : u.place + 1 - 1 ≡ u.place = omega arith in (
        u.place + 1,
        omega (arith, u.held),
        ap (λ s. s.phase) (numbered_at j (u.place + 1) (omega arith)) ∙ (rw there u.phase),
      )

  module _ (t : Taken j) where
    -- the number of phases is the last phase's number
    pub count_last : phase_count j ≡ t.phases.last
    unfolding phase_count
    count_last =
        let p = t.phases in
        let some = number_used p.last ((p.used p.last).1 (omega (arith, p.two_or_more))) in
        let numbers : ℕ → ℕ = λ n. (stream_numbered j n).phase in
        let most : largest_stream j numbers ≡ p.last =
        le_antisymm ((largest_least numbers p.last).1 (λ n r. ((p.used _).0 (used_number n r)).1))
        (omega (arith, (largest_least numbers (largest_stream j numbers)).0 (le_refl _) some.0 some.1, some.2)) in
        rw most (min-eq_left p.two_or_more.1)

    pub count_range : Between 2 most_phases (phase_count j)
    count_range = rw count_last t.phases.two_or_more

    -- each stream is in a phase from 1 to their number, and each of those has a stream
    pub count_phases : (n : ℕ) → Between 1 j.held.streams n → Between 1 (phase_count j) (stream_numbered j n).phase
    count_phases n r = rw count_last ((t.phases.used _).0 (used_number n r))

    pub phases_used : (f : ℕ) → Between 1 (phase_count j) f → (n : ℕ) × Between 1 j.held.streams n × (is_in j f n ≡ true)
    unfolding is_in
    phases_used f r =
        let some = number_used f ((t.phases.used f).1 (rw count_last at r)) in (some.0, some.1, eq-eqb _ _ some.2)
