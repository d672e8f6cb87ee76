-- What it means that a well-formed plan is accepted: the customer's third demand, in the words of document 01, "Judging a plan".
--
-- A plan repeated for n cycles gives a stream with start s and length g the greens that begin at s + k × C and end g later, for each k
-- from 0 on, below n. Streams and zones are numbered from 1. Exact times are those of document 01, "Times at a zone",
-- unrounded; neither `off` nor an entry stands in this file.
use Rattle.std.specs.Prelude.{ℕ, ◌+◌, ◌-◌, ◌*◌, ◌≤◌, ◌<◌, true, ◌⊎◌, ◌≡◌}
use Rattle.laws.specs.Ranges.{Between}
use Rattle.exact_times.specs.Leaves.{LeavesInTime}
use Rattle.junction.specs.declared.Junction.{Junction}
use Rattle.junction.specs.declared.Zone.{Zone}
use Rattle.junction_places.specs.Places.{stream_numbered, zone_numbered}
use Rattle.streams.specs.Kinds.{is_car}
use Rattle.junction_figures.specs.Figures.{stream_need, stream_flow, stream_saturation}
use Rattle.plan_file.specs.declared.Plan.{Plan}
use Rattle.plan_file.specs.Plans.{green_of}

-- the green of a stream in cycle k: where it begins, and where it ends
unfoldable pub begins : Plan → ℕ → ℕ → ℕ
begins p stream k = (green_of p stream).start + k * p.cycle

unfoldable pub ends : Plan → ℕ → ℕ → ℕ
ends p stream k = begins p stream k + (green_of p stream).length

-- the green of one stream in its cycle k is the earlier: it ends no later than that of another in its cycle m begins; and its last participant
-- leaves the zone no later than the first of the other reaches it, by these distances: `LeavesInTime` of exact_times/specs/Leaves.antt
unfoldable pub Before : Junction → Plan → (earlier later clearing reach k m : ℕ) → Type 0
Before j p earlier later clearing reach k m =
    (ends p earlier k ≤ begins p later m)
    × LeavesInTime (stream_numbered j earlier) (stream_numbered j later) clearing reach (begins p later m - ends p earlier k)

-- the four distances of two streams a and b at a zone
pub record Distances : Type 0 where
  pub clearing_a : ℕ
  pub reaching_a : ℕ
  pub clearing_b : ℕ
  pub reaching_b : ℕ

abbrev pub distances_of : Zone → Distances
distances_of z = record { clearing_a = z.a.clearing; reaching_a = z.a.reaching; clearing_b = z.b.clearing; reaching_b = z.b.reaching }

-- the green of stream a in its cycle k and that of stream b in its cycle m: one of them is the earlier, and its last participant leaves in time
unfoldable pub Apart : Junction → Plan → (a b : ℕ) → Distances → (k m : ℕ) → Type 0
Apart j p a b d k m = Before j p a b d.clearing_a d.reaching_b k m ⊎ Before j p b a d.clearing_b d.reaching_a m k

-- the three things
pub record Acceptable (j : Junction) (p : Plan) : Type 0 where
  -- each stream has its needed green
  pub needed : (stream : ℕ) → Between 1 j.held.streams stream → stream_need j stream p.cycle ≤ (green_of p stream).length
  -- each car flow has its capacity
  pub capacity : (stream : ℕ) → Between 1 j.held.streams stream → is_car (stream_numbered j stream).kind ≡ true
      → stream_flow j stream * p.cycle ≤ stream_saturation j stream * ((green_of p stream).length + 1)
  -- whatever number of cycles the plan is repeated for, whichever zone is looked at, and whichever green of each of its two streams
  pub apart : (n : ℕ) (zone : ℕ) → Between 1 j.held.zones zone → (k m : ℕ) → k < n → m < n
      → Apart j p (zone_numbered j zone).a.stream (zone_numbered j zone).b.stream (distances_of (zone_numbered j zone)) k m
