-- Which pairs of streams are not checked: exactly those in different phases that share no zone.
use Prim.Native.Nat.{ℕ, ◌≤◌, ◌<◌, zero-le}
use Rattle.std.proofs.Common.{arith}
use Rattle.std.specs.Prelude.{true, false, not, ◌↔◌, ◌≡◌, ltb, eqb}
use Rattle.std.proofs.lemmas.Bool.{false≢true}
use borrow.Author.Tests.{ltb-true, ltb-false, eqb-false, ne_eqb, not-true}
use Rattle.laws.proofs.Search.{first_passes, first_fails}
use Rattle.laws.specs.Tests.{by_test, both_left, both_right}
use Rattle.junction.specs.declared.Junction.{Junction}
use Rattle.junction_places.specs.Places.{stream_numbered}
use Rattle.junction_figures.specs.Figures.{shares_at, first_shared, shares_zone, unchecked}
use Rattle.junction_figures.specs.Unchecked.{ShareNoZone, neither}

module _ (j : Junction) (n m : ℕ) where
  none_shared : (shares_zone j n m ≡ false) ↔ ShareNoZone j n m
  unfolding shares_zone first_shared shares_at
  none_shared =
      let zones = j.held.zones in
      let first = first_shared j n m in (
        λ e i low. let all : zones ≤ first = ltb-false first zones e in
            neither _ _ (first_fails (shares_at j n m) zones 0 i zero-le (omega arith)),
        λ none. by_test (ltb first zones)
            (λ t. let low : first < zones = ltb-true first zones t in
            let both = none first low in
            let shared = first_passes (shares_at j n m) zones 0 zero-le low in
            absurd (false≢true (rw (both.0, both.1) at shared)))
            (λ t. t),
      )

  pub unchecked_exactly : (unchecked j n m ≡ true) ↔ (((stream_numbered j n).phase ≡ (stream_numbered j m).phase → ⊥) × ShareNoZone j n m)
  unfolding unchecked
  unchecked_exactly = (
    λ e. let apart = both_left (not (eqb (stream_numbered j n).phase (stream_numbered j m).phase)) _ e in
        (eqb-false _ _ (not-true _ apart), none_shared.0 (not-true _ (both_right (not (eqb (stream_numbered j n).phase (stream_numbered j m).phase)) _ e))),
    λ h. rw (ne_eqb _ _ h.0, none_shared.1 h.1),
  )
