-- What a junction file is, field by field (document 01, "The junction file"; document 02, 2026-01 and 2026-04): one heading, streams, zones, counts.
use Rattle.std.specs.Prelude.{ℕ, zero, suc, ◌+◌, ◌≤◌, ◌<◌, true, List, ◌↔◌, ◌≡◌, length}
use Rattle.laws.specs.Ranges.{Between}
use Rattle.fields.specs.Bytes.{byte_at, number_at, fits, field_end, body_of}
use Rattle.junction.specs.Layout.{heading_length, zone_length, count_length, heading_in_range, stream_length_right, stream_in_range, zone_in_range, count_in_range}
use Rattle.limits.specs.Limits.{most_streams, most_zones, most_counts, most_bytes, most_phases}

-- where a field begins, by its number: the heading has number 0
unfoldable pub place : List ℕ → ℕ → ℕ
place s zero = 0
place s (suc i) = field_end s (place s i)

abbrev pub tag : List ℕ → ℕ → ℕ
tag s i = byte_at s (place s i)

abbrev pub body : List ℕ → ℕ → List ℕ
body s i = body_of s (place s i)

-- 02: stream n is the field with number n; its first byte is its kind, its second its phase
pub record StreamField (s : List ℕ) (n : ℕ) : Type 0 where
  pub tagged : tag s n ≡ 2
  pub long : stream_length_right (body s n) ≡ true
  pub ranged : stream_in_range (body s n) ≡ true

-- 03: a zone names two existing streams, a below b, in different phases
pub record ZoneField (s : List ℕ) (streams i : ℕ) : Type 0 where
  pub tagged : tag s i ≡ 3
  pub long : length (body s i) ≡ zone_length
  pub ranged : zone_in_range (body s i) ≡ true
  pub a : Between 1 streams (byte_at (body s i) 0)
  pub b : Between 1 streams (byte_at (body s i) 1)
  pub below : byte_at (body s i) 0 < byte_at (body s i) 1
  pub apart : byte_at (body s (byte_at (body s i) 0)) 1 ≡ byte_at (body s (byte_at (body s i) 1)) 1 → ⊥

-- 04: a count names an existing car
pub record CountField (s : List ℕ) (streams i : ℕ) : Type 0 where
  pub tagged : tag s i ≡ 4
  pub long : length (body s i) ≡ count_length
  pub ranged : count_in_range (body s i) ≡ true
  pub existing : Between 1 streams (byte_at (body s i) 0)
  pub car : byte_at (body s (byte_at (body s i) 0)) 0 ≡ 1

-- a count of stream n, not after the design day, in the period that is planned, both of which the heading has
pub record UsableFor (s : List ℕ) (n i : ℕ) : Type 0 where
  pub of : byte_at (body s i) 0 ≡ n
  pub not_after : number_at (body s i) 1 ≤ number_at (body s 0) 2
  pub in_period : byte_at (body s i) 7 ≡ byte_at (body s 0) 4

-- the flow of car n where the counts are the fields after the one with number first: that of a usable count; no usable count is of a later
-- day; of those of its day none has a larger flow
pub record FlowOf (s : List ℕ) (n first counts flow : ℕ) : Type 0 where
  pub place : ℕ
  pub listed : Between 1 counts place
  pub usable : UsableFor s n (first + place)
  pub with_flow : number_at (body s (first + place)) 5 ≡ flow
  pub newest : (k : ℕ) → Between 1 counts k → UsableFor s n (first + k) → number_at (body s (first + k)) 1 ≤ number_at (body s (first + place)) 1
  pub largest : (k : ℕ) → Between 1 counts k → UsableFor s n (first + k)
      → number_at (body s (first + k)) 1 ≡ number_at (body s (first + place)) 1 → number_at (body s (first + k)) 5 ≤ flow

-- a file with so many streams, zones and counts
pub record JunctionFile (s : List ℕ) (streams zones counts : ℕ) : Type 0 where
  -- at most 16,384 bytes, 16 streams, 64 zones, 128 counts
  pub size : length s ≤ most_bytes
  pub few_streams : streams ≤ most_streams
  pub few_zones : zones ≤ most_zones
  pub few_counts : counts ≤ most_counts
  -- fields one after the other, each within the file, and nothing after the last
  pub within : (i : ℕ) → i < 1 + streams + zones + counts → fits s (place s i) ≡ true
  pub ends : place s (1 + streams + zones + counts) ≡ length s
  -- in tag order
  pub heading : tag s 0 ≡ 1
  pub heading_long : length (body s 0) ≡ heading_length
  pub heading_ranged : heading_in_range (body s 0) ≡ true
  pub stream_fields : (n : ℕ) → Between 1 streams n → StreamField s n
  pub zone_fields : (n : ℕ) → Between 1 zones n → ZoneField s streams (streams + n)
  pub count_fields : (n : ℕ) → Between 1 counts n → CountField s streams (streams + zones + n)
  -- phases 1 to some 2 or more all used, a car present, each car with a usable count in the period
  pub last : ℕ
  pub two_or_more : Between 2 most_phases last
  pub phases : (p : ℕ) → ((n : ℕ) × Between 1 streams n × (byte_at (body s n) 1 ≡ p)) ↔ Between 1 last p
  pub car : (n : ℕ) × Between 1 streams n × (byte_at (body s n) 0 ≡ 1)
  pub counted : (n : ℕ) → Between 1 streams n → byte_at (body s n) 0 ≡ 1 → (k : ℕ) × Between 1 counts k × UsableFor s n (streams + zones + k)
