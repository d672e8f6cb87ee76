-- The comparison over whole numbers is that of the numbers for every kind of stream, and the entry is the least gap that is enough.
use Rattle.std.specs.Prelude.{ℕ, ◌≤◌, ◌<◌, Bool, ◌↔◌, leb, ltb, eqb}
use Rattle.std.proofs.Common.{arith, sym, ◌∙◌, leb-true, le-leb}
use Rattle.laws.specs.Tests.{by_test}
use Rattle.streams.specs.declared.Kind.{Kind}
use Rattle.streams.specs.declared.Kind.TheVariants.{Car, Tram, Pedestrian, Cyclist, Island}
use Rattle.streams.specs.declared.Stream.{Stream}
use Rattle.times.specs.Entry.{entry}
use Rattle.times.proofs.Least.{entry_least}
use Rattle.times.specs.Least.{Moves}
use Rattle.times.specs.Times.{car_time, car_leaving, stop_leaving, tram_leaving, walk_leaving, leaving, passing, car_reaching, tram_reaching}
use Rattle.times.specs.Times.{counted_reaching, walk_reaching, reaching}
use Rattle.exact_times.proofs.Larger.{longer_sound}
use Rattle.exact_times.specs.Leaves.{LeavesInTime, LeavesByLetter}
use Rattle.exact_times.proofs.Numbers.{within_numbers}
use Rattle.exact_times.specs.Numbers.{Sound}

leaving_sound : (k : Kind) (l : ℕ) → Moves k → Sound (leaving k l)
unfolding leaving car_leaving car_time tram_leaving stop_leaving walk_leaving
leaving_sound (Car c) l m =
    by_test (eqb c.radius 0) (λ e. rw e (omega arith))
    (λ e. by_test (ltb 150 c.radius) (λ f. rw (e, f) (omega arith)) (λ f. rw (e, f) (omega arith)))
leaving_sound (Tram t) l m =
    by_test t.stop
    (λ e. by_test (leb l 400) (λ f. rw (e, f) (omega arith)) (λ f. rw (e, f) (longer_sound _ _ _ _ (omega arith) (omega arith))))
    (λ e. rw e (omega arith))
leaving_sound (Pedestrian p) l m = m
leaving_sound (Cyclist y) l m = omega arith
leaving_sound (Island i) l m = m

counted_sound : (counted : Bool) (r speed : ℕ) → 0 < speed → Sound (counted_reaching counted r speed)
unfolding counted_reaching
counted_sound counted r speed h = by_test counted (λ e. rw e h) (λ e. rw e (omega arith))

reaching_sound : (k : Kind) (r : ℕ) → Sound (reaching k r)
unfolding reaching car_reaching tram_reaching walk_reaching passing
reaching_sound (Car c) r = by_test c.flying (λ e. rw e (omega arith)) (λ e. rw e (omega arith))
reaching_sound (Tram t) r = by_test t.stop (λ e. rw e (omega arith)) (λ e. rw e (omega arith))
reaching_sound (Pedestrian p) r = counted_sound _ _ _ (omega arith)
reaching_sound (Cyclist y) r = counted_sound _ _ _ (omega arith)
reaching_sound (Island i) r = counted_sound _ _ _ (omega arith)

-- from any stream that moves to any other, with any distances: the letter of document 01 says the same as the comparison of the numbers
pub letter_same : (earlier later : Stream) (clearing reach seconds : ℕ) → Moves earlier.kind
    → LeavesByLetter earlier later clearing reach seconds ↔ LeavesInTime earlier later clearing reach seconds
unfolding LeavesByLetter LeavesInTime
letter_same earlier later clearing reach seconds moves =
    within_numbers (leaving earlier.kind clearing) (reaching later.kind reach) (leaving_sound earlier.kind clearing moves)
    (reaching_sound later.kind reach) seconds

-- formula (19): so many seconds are at least the entry exactly where, after them, the last participant leaves in time
pub entry_exact : (earlier later : Stream) (clearing reach : ℕ) → Moves earlier.kind → clearing ≤ 999 → (seconds : ℕ)
    → (entry earlier later clearing reach ≤ seconds) ↔ LeavesInTime earlier later clearing reach seconds
unfolding LeavesByLetter
entry_exact earlier later clearing reach moves low seconds =
    let least = entry_least earlier later clearing reach moves low seconds in
    let numbers = letter_same earlier later clearing reach seconds moves in
    (λ h. numbers.0 (least ∙ le-leb _ _ h), λ e. leb-true _ _ (sym least ∙ numbers.1 e))
