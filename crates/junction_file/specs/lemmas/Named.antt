-- The place of the stream with a number.
use Rattle.std.specs.Prelude.{ℕ, ◌-◌, cond, ◌≡◌, eqb}
use Rattle.laws.specs.Tests.{by_test}
use Rattle.junction.specs.declared.Junction.{Junction}
use Rattle.limits.specs.Limits.{most_streams}
use Rattle.junction_places.specs.Places.{stream_at, stream_numbered}

-- the place of the stream with a number; the number 0 has the place past the last, where no stream stands
unfoldable pub stream_place : ℕ → ℕ
stream_place n = cond (eqb n 0) most_streams (n - 1)

pub numbered_place : (j : Junction) (n : ℕ) → stream_numbered j n ≡ stream_at j (stream_place n)
unfolding stream_numbered stream_place stream_at
numbered_place j n = by_test (eqb n 0) (λ e. rw e) (λ e. rw e)
