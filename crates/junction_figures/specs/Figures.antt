-- The annex's figures of a junction that was read: entries of pairs, needs, flows, saturation flows, flow ratios.
use Rattle.std.specs.Prelude.{ℕ, Bool, ◌&&◌, ◌||◌, not, cond, ltb, eqb}
use Rattle.laws.specs.Largest.{largest_of}
use Rattle.laws.specs.Search.{first_below}
use Rattle.streams.specs.declared.Kind.{Kind}
use Rattle.streams.specs.declared.Stream.{Stream}
use Rattle.streams.specs.declared.Kind.TheVariants.{Car, Tram, Pedestrian, Cyclist, Island}
use Rattle.times.specs.Entry.{entry}
use Rattle.flows.specs.Needs.{need_at}
use Rattle.flows.specs.Saturation.{saturation_flow, flow_ratio}
use Rattle.junction.specs.declared.Junction.{Junction}
use Rattle.junction.specs.declared.Zone.{Zone}
use Rattle.counts.specs.Newest.{rank_day, rank_flow}
use Rattle.junction_places.specs.Places.{stream_numbered, zone_at}
use Rattle.junction_places.specs.Ranks.{newest_rank}

-- a zone of streams n and m, with n as its stream a, or as its stream b
unfoldable pub forward : ℕ → ℕ → Zone → Bool
forward n m z = eqb z.a.stream n && eqb z.b.stream m

unfoldable pub backward : ℕ → ℕ → Zone → Bool
backward n m z = eqb z.b.stream n && eqb z.a.stream m

-- the entry at one zone, (19), from one stream, with number n, to another, with number m: a to b with clearing a and reaching b, b to a
-- with clearing b and reaching a; 0 at a zone of other streams
abbrev pub entry_at : ℕ → ℕ → Stream → Stream → Zone → ℕ
entry_at n m from to z =
    cond (forward n m z) (entry from to z.a.clearing z.b.reaching)
    (cond (backward n m z) (entry from to z.b.clearing z.a.reaching) 0)

unfoldable pub zone_entry : Junction → ℕ → ℕ → Zone → ℕ
zone_entry j n m z = entry_at n m (stream_numbered j n) (stream_numbered j m) z

-- the entry of the pair: the largest over its zones, 0 where it has none
unfoldable pub pair_entry : Junction → ℕ → ℕ → ℕ
pair_entry j n m = largest_of (λ i. zone_entry j n m (zone_at j i)) j.held.zones

-- two streams share a zone
unfoldable pub shares_at : Junction → ℕ → ℕ → ℕ → Bool
shares_at j n m i = forward n m (zone_at j i) || backward n m (zone_at j i)

unfoldable pub first_shared : Junction → ℕ → ℕ → ℕ
first_shared j n m = first_below (shares_at j n m) j.held.zones 0

unfoldable pub shares_zone : Junction → ℕ → ℕ → Bool
shares_zone j n m = ltb (first_shared j n m) j.held.zones

-- two streams in different phases that share no zone: their greens are not compared
unfoldable pub unchecked : Junction → ℕ → ℕ → Bool
unchecked j n m = not (eqb (stream_numbered j n).phase (stream_numbered j m).phase) && not (shares_zone j n m)

-- the needed green of the stream with a number, at a cycle
unfoldable pub stream_need : Junction → ℕ → ℕ → ℕ
stream_need j n cycle = need_at cycle (stream_numbered j n)

-- the flow of the car stream with a number, by the day of the count
unfoldable pub stream_flow : Junction → ℕ → ℕ
stream_flow j n = rank_flow (newest_rank j n)

-- the day of that count
unfoldable pub stream_day : Junction → ℕ → ℕ
stream_day j n = rank_day (newest_rank j n)

-- its saturation flow S, (28), 0 for a stream that is no car
abbrev pub kind_saturation : Kind → ℕ
kind_saturation (Car c) = saturation_flow c
kind_saturation (Tram t) = 0
kind_saturation (Pedestrian p) = 0
kind_saturation (Cyclist y) = 0
kind_saturation (Island i) = 0

unfoldable pub stream_saturation : Junction → ℕ → ℕ
stream_saturation j n = kind_saturation (stream_numbered j n).kind

-- its flow ratio y, (29), in ten-thousandths
unfoldable pub stream_ratio : Junction → ℕ → ℕ
stream_ratio j n = flow_ratio (stream_flow j n) (stream_saturation j n)
