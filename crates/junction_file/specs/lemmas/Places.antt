-- What stands at a place of a taken junction.
use Rattle.std.specs.Prelude.{ℕ, ◌+◌, ◌-◌, ◌<◌, ◌≡◌, get_or}
use native.Mathlib.Omega.{arith}
use borrow.Author.Tests.{lt-ltb}
use Rattle.laws.specs.Ranges.{Between}
use Rattle.limits.specs.Limits.{most_streams, most_zones}
use Rattle.junction.specs.declared.Junction.{Junction}
use Rattle.junction_places.specs.Blank.{no_stream, no_zone}
use Rattle.junction_places.specs.Places.{stream_at, zone_at, stream_numbered, numbered_at}
use Rattle.junction_file.specs.Taken.{Taken, ZoneRight}

module _ (j : Junction) (taken : Taken j) (i : ℕ) where
  pub stream_place_lem : i < j.held.streams → get_or j.streams i no_stream ≡ stream_numbered j (i + 1)
  unfolding stream_at
  stream_place_lem h =
      let there : i + 1 - 1 ≡ i = omega arith in
      rw (numbered_at j (i + 1) (omega arith), there, lt-ltb i most_streams (omega (arith, taken.fields.few_streams)))

  pub number_place : Between 1 j.held.streams i → get_or j.streams (i - 1) no_stream ≡ stream_numbered j i
  unfolding stream_at
  number_place h = rw (numbered_at j i (omega arith), lt-ltb (i - 1) most_streams (omega (arith, taken.fields.few_streams)))

  pub zone_place : i < j.held.zones → get_or j.zones i no_zone ≡ zone_at j i
  unfolding zone_at
  zone_place h = rw (lt-ltb i most_zones (omega (arith, taken.fields.few_zones)))

  pub zone_right : i < j.held.zones → ZoneRight j (get_or j.zones i no_zone)
  zone_right h = rw (zone_place h) (taken.fields.zones i h)
