-- What stands at a place of a junction, from 0, and what has a number, from 1: streams, zones, counts.
use Rattle.std.specs.Prelude.{ℕ, ◌-◌, ◌<◌, Bool, ◌&&◌, cond, ◌≡◌, leb, ltb, eqb, get_or}
use Rattle.std.proofs.Common.{ne_of_gt, ne_eqb}
use Rattle.counts.specs.declared.Count.{Count}
use Rattle.streams.specs.declared.Stream.{Stream}
use Rattle.junction.specs.declared.Junction.{Junction}
use Rattle.junction.specs.declared.Zone.{Zone}
use Rattle.limits.specs.Limits.{most_streams, most_zones, most_counts}
use Rattle.junction_places.specs.Blank.{no_stream, no_count, no_zone}

-- what stands at a place, from 0; there are as many places as the limits allow
unfoldable pub stream_at : Junction → ℕ → Stream
stream_at j i = cond (ltb i most_streams) (get_or j.streams i no_stream) no_stream

unfoldable pub count_at : Junction → ℕ → Count
count_at j i = cond (ltb i most_counts) (get_or j.counts i no_count) no_count

unfoldable pub zone_at : Junction → ℕ → Zone
zone_at j i = cond (ltb i most_zones) (get_or j.zones i no_zone) no_zone

-- the stream with a number, from 1; none has the number 0
unfoldable pub stream_numbered : Junction → ℕ → Stream
stream_numbered j n = cond (eqb n 0) no_stream (stream_at j (n - 1))

pub numbered_at : (j : Junction) (n : ℕ) → 0 < n → stream_numbered j n ≡ stream_at j (n - 1)
unfolding stream_numbered
numbered_at j n h = rw (ne_eqb n 0 (ne_of_gt h))

pub numbered_by_streams : (j j' : Junction) → j.streams ≡ j'.streams → (n : ℕ) → stream_numbered j n ≡ stream_numbered j' n
unfolding stream_numbered stream_at
numbered_by_streams j j' streams n = rw streams

-- the zone with a number, from 1
unfoldable pub zone_numbered : Junction → ℕ → Zone
zone_numbered j n = cond (eqb n 0) no_zone (zone_at j (n - 1))

pub zone_numbered_at : (j : Junction) (n : ℕ) → 0 < n → zone_numbered j n ≡ zone_at j (n - 1)
unfolding zone_numbered
zone_numbered_at j n h = rw (ne_eqb n 0 (ne_of_gt h))

-- a number of one of so many streams
unfoldable pub numbered : ℕ → ℕ → Bool
numbered streams n = leb 1 n && leb n streams

unfoldable pub exists : Junction → ℕ → Bool
exists j n = numbered j.held.streams n
