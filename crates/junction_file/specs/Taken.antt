-- What is true of a junction whose file is taken: the junction's questions refuse nothing (document 01, "The junction file" and "Questions
-- in order"). TakenFile.antt has the theorem.
use Rattle.std.specs.Prelude.{ℕ, ◌+◌, ◌%◌, ◌≤◌, ◌<◌, true, ◌↔◌, ◌⊎◌, ◌≡◌, length}
use Rattle.laws.specs.Ranges.{Between}
use Rattle.counts.specs.Newest.{rank_flow}
use Rattle.counts.specs.declared.Count.{Count}
use Rattle.limits.specs.Limits.{least_flow, greatest_flow, least_period, greatest_period, most_phases}
use Rattle.streams.specs.declared.CarFigures.{CarFigures}
use Rattle.streams.specs.declared.TramFigures.{TramFigures}
use Rattle.streams.specs.declared.PedestrianFigures.{PedestrianFigures}
use Rattle.streams.specs.declared.IslandFigures.{IslandFigures}
use Rattle.streams.specs.declared.Kind.{Kind}
use Rattle.streams.specs.declared.Kind.TheVariants.{Car, Tram, Pedestrian, Cyclist, Island}
use Rattle.streams.specs.declared.Stream.{Stream}
use Rattle.junction.specs.declared.Junction.{Junction}
use Rattle.junction.specs.declared.Side.{Side}
use Rattle.junction.specs.declared.Zone.{Zone}
use Rattle.limits.specs.Limits.{most_streams, most_zones, most_counts}
use Rattle.junction_places.specs.Places.{stream_at, count_at, zone_at, stream_numbered}
use Rattle.streams.specs.Kinds.{is_car}
use Rattle.junction_places.specs.Ranks.{newest_rank}

-- the figures of a stream in range, by its kind
pub record CarRanges (c : CarFigures) : Type 0 where
  pub amber : Between 3 5 c.amber
  pub radius : (c.radius ≡ 0) ⊎ Between 30 9999 c.radius
  pub width : Between 300 1500 c.width
  pub rows : Between 1 2 c.rows
  pub gradient : c.gradient ≤ 20
  pub conditions : Between 1 3 c.conditions
  pub shares : c.left + c.right ≤ 100
  pub turning : (c.radius ≡ 0) ⊎ (c.left + c.right ≡ 0)

pub record TramRanges (t : TramFigures) : Type 0 where
  pub length : Between 100 600 t.length
  pub hourly : Between 1 34 t.hourly

pub record PedestrianRanges (p : PedestrianFigures) : Type 0 where
  pub speed : Between 12 15 p.speed
  pub crossing : Between 10 600 p.crossing
  pub hourly : p.hourly ≤ 9999

pub record IslandRanges (i : IslandFigures) : Type 0 where
  pub walk : PedestrianRanges i.walk
  pub wider : Between 10 600 i.wider
  pub island : Between 10 600 i.island
  pub packet : Between 20 200 i.packet
  pub fives : i.packet % 5 ≡ 0

abbrev pub KindRanges : Kind → Type 0
KindRanges (Car c) = CarRanges c
KindRanges (Tram t) = TramRanges t
KindRanges (Pedestrian p) = PedestrianRanges p
KindRanges (Cyclist y) = Unit {0}
KindRanges (Island i) = IslandRanges i

pub record StreamInRange (x : Stream) : Type 0 where
  pub phase : Between 1 most_phases x.phase
  pub figures : KindRanges x.kind

-- a zone's side: its stream exists, its distances are in range
pub record SideRight (j : Junction) (x : Side) : Type 0 where
  pub existing : Between 1 j.held.streams x.stream
  pub clearing : x.clearing ≤ 999
  pub reaching : x.reaching ≤ 999

-- a zone's streams stand in order, in different phases
pub record ZoneRight (j : Junction) (z : Zone) : Type 0 where
  pub a : SideRight j z.a
  pub b : SideRight j z.b
  pub below : z.a.stream < z.b.stream
  pub apart : (stream_numbered j z.a.stream).phase ≡ (stream_numbered j z.b.stream).phase → ⊥

-- a count is of an existing car, with a flow and a period in range
pub record CountRight (j : Junction) (c : Count) : Type 0 where
  pub existing : Between 1 j.held.streams c.stream
  pub car : is_car (stream_numbered j c.stream).kind ≡ true
  pub flow : Between least_flow greatest_flow c.flow
  pub period : Between least_period greatest_period c.period

-- the fields that pass questions 2 to 7: how many there are of each sort, and that each is right; the heading comes before any stream
pub record FieldsRight (j : Junction) : Type 0 where
  pub stream_places : length j.streams ≡ most_streams
  pub zone_places : length j.zones ≡ most_zones
  pub count_places : length j.counts ≡ most_counts
  pub few_streams : j.held.streams ≤ most_streams
  pub few_zones : j.held.zones ≤ most_zones
  pub few_counts : j.held.counts ≤ most_counts
  pub headed : 0 < j.held.streams → 0 < j.held.last
  pub period : 0 < j.held.last → Between least_period greatest_period j.period
  pub streams : (i : ℕ) → i < j.held.streams → StreamInRange (stream_at j i)
  pub zones : (i : ℕ) → i < j.held.zones → ZoneRight j (zone_at j i)
  pub counts : (i : ℕ) → i < j.held.counts → CountRight j (count_at j i)

-- some stream is in a phase
pub record UsedPhase (j : Junction) (p : ℕ) : Type 0 where
  pub place : ℕ
  pub held : place < j.held.streams
  pub phase : (stream_at j place).phase ≡ p

-- the phases used are exactly 1 to the last, which is 2 or more
pub record PhasesRight (j : Junction) : Type 0 where
  pub last : ℕ
  pub two_or_more : Between 2 most_phases last
  pub used : (p : ℕ) → UsedPhase j p ↔ Between 1 last p

-- a car is there
pub record HasCar (j : Junction) : Type 0 where
  pub place : ℕ
  pub held : place < j.held.streams
  pub car : is_car (stream_at j place).kind ≡ true

-- a usable count in the period gives the stream with a number its flow
pub record HasFlow (j : Junction) (n : ℕ) : Type 0 where
  pub counted : 0 < newest_rank j n
  pub flow : Between least_flow greatest_flow (rank_flow (newest_rank j n))

-- a junction that is taken
pub record Taken (j : Junction) : Type 0 where
  pub period : Between least_period greatest_period j.period
  pub fields : FieldsRight j
  pub phases : PhasesRight j
  pub car : HasCar j
  pub flows : (i : ℕ) → i < j.held.streams → is_car (stream_at j i).kind ≡ true → HasFlow j (i + 1)
