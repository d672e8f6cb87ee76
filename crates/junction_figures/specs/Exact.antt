-- The entry of a pair of streams of a taken junction, by the exact times: a gap is at least the entry exactly where, at each zone of the
-- pair, the last participant leaves no later than the first of the other reaches, that gap after the end of green.
use Rattle.std.specs.Prelude.{ℕ, ◌-◌, ◌≤◌, true, ◌↔◌, ◌≡◌}
use Rattle.std.proofs.Common.{arith}
use Rattle.laws.specs.Ranges.{Between}
use Rattle.streams.specs.declared.Kind.{Kind}
use Rattle.streams.specs.declared.Kind.TheVariants.{Car, Tram, Pedestrian, Cyclist, Island}
use Rattle.exact_times.specs.Leaves.{LeavesInTime}
use Rattle.exact_times.proofs.Streams.{entry_exact}
use Rattle.times.specs.Entry.{entry}
use Rattle.times.specs.Least.{Moves}
use Rattle.junction.specs.declared.Junction.{Junction}
use Rattle.junction.specs.declared.Side.{Side}
use Rattle.junction.specs.declared.Zone.{Zone}
use Rattle.junction_places.specs.Places.{stream_at, stream_numbered, numbered_at}
use Rattle.junction_file.specs.Taken.{KindRanges, SideRight, Taken}
use Rattle.junction_figures.specs.Figures.{forward, backward}

-- at a zone of streams n and m, whichever of the two is its stream a, that gap is enough from n to m
unfoldable pub EnoughAt : Junction → ℕ → ℕ → Zone → ℕ → Type 0
EnoughAt j n m z gap =
    let a = stream_numbered j z.a.stream in
    let b = stream_numbered j z.b.stream in
    (forward n m z ≡ true → LeavesInTime a b z.a.clearing z.b.reaching gap)
    × (backward n m z ≡ true → LeavesInTime b a z.b.clearing z.a.reaching gap)

moves : (k : Kind) → KindRanges k → Moves k
moves (Car c) r = omega arith
moves (Tram t) r = omega arith
moves (Pedestrian p) r = omega arith
moves (Cyclist y) r = tt
moves (Island i) r = omega arith

module _ (j : Junction) (t : Taken j) where
  pub stream_moves : (n : ℕ) → Between 1 j.held.streams n → Moves (stream_numbered j n).kind
  stream_moves n range = rw (numbered_at j n range.0) (moves (stream_at j (n - 1)).kind (t.fields.streams (n - 1) (omega arith)).figures)

  pub side_exact : (x y : Side) → SideRight j x → (gap : ℕ)
      → (entry (stream_numbered j x.stream) (stream_numbered j y.stream) x.clearing y.reaching ≤ gap)
      ↔ LeavesInTime (stream_numbered j x.stream) (stream_numbered j y.stream) x.clearing y.reaching gap
  side_exact x y r = entry_exact _ _ x.clearing y.reaching (stream_moves x.stream r.existing) r.clearing
