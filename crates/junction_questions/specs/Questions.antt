-- The questions of a junction file, field by field and then of the whole (document 01, "Questions in order", 2 to 9).
use Rattle.std.specs.Prelude.{ℕ, ◌+◌, ◌-◌, Bool, true, ◌&&◌, ◌||◌, not, cond, List, leb, ltb, eqb, length}
use Rattle.laws.specs.Search.{first_below}
use Rattle.fields.specs.Bytes.{byte_at, fits, body_of}
use Rattle.fields.specs.Verdict.{ask, Verdict, Passed}
use Rattle.streams.specs.declared.Stream.{Stream}
use Rattle.junction.specs.declared.Held.{Held}
use Rattle.junction.specs.declared.Junction.{Junction}
use Rattle.junction.specs.Layout.{heading_length, zone_length, count_length, heading_in_range, stream_length_right, stream_in_range, zone_in_range, count_in_range}
use Rattle.limits.specs.Limits.{most_streams, most_zones, most_counts}
use Rattle.streams.specs.Kinds.{is_car}
use Rattle.junction_places.specs.Places.{stream_at, stream_numbered, numbered}
use Rattle.junction_places.specs.Ranks.{newest_rank}

-- a choice by the tag: heading, stream, zone, count
abbrev pub by_tag : {A : Type 0} → ℕ → A → A → A → A → A
by_tag tag heading stream zone count = cond (eqb tag 1) heading (cond (eqb tag 2) stream (cond (eqb tag 3) zone count))

-- 3: is the tag known and in its order, the heading first and single? last is the tag of the field before, 0 where there is none
unfoldable pub in_order : ℕ → ℕ → Bool
in_order last tag = cond (eqb last 0) (eqb tag 1) (leb 2 tag && leb tag 4 && leb last tag)

-- 4: is the length right?
unfoldable pub length_right : ℕ → List ℕ → Bool
length_right tag b =
    by_tag tag (eqb (length b) heading_length) (stream_length_right b) (eqb (length b) zone_length) (eqb (length b) count_length)

-- 5: is each number in range?
unfoldable pub in_range : ℕ → List ℕ → Bool
in_range tag b = by_tag tag (heading_in_range b) (stream_in_range b) (zone_in_range b) (count_in_range b)

-- 6: is the count of its sort within limit?
unfoldable pub within_limit : ℕ → Held → Bool
within_limit tag h = by_tag tag true (ltb h.streams most_streams) (ltb h.zones most_zones) (ltb h.counts most_counts)

-- 7, zone, of so many streams: do both streams exist, a below b, in different phases? first is stream a, second stream b
unfoldable pub zone_refers : ℕ → ℕ → ℕ → Stream → Stream → Bool
zone_refers streams a b first second =
    numbered streams a && numbered streams b && ltb a b && not (eqb first.phase second.phase)

-- 7, count: is it an existing car?
unfoldable pub car_refers : ℕ → ℕ → Stream → Bool
car_refers streams n first = numbered streams n && is_car first.kind

-- first and second are the streams that the body's first two bytes name
unfoldable pub refers : ℕ → ℕ → List ℕ → Stream → Stream → Bool
refers tag streams b first second =
    by_tag tag true true (zone_refers streams (byte_at b 0) (byte_at b 1) first second) (car_refers streams (byte_at b 0) first)

-- 3 to 7, of a field that fits, with its tag, its body and its place: held is what the file has before it
unfoldable pub body_verdict : ℕ → List ℕ → ℕ → Held → Stream → Stream → Verdict
body_verdict tag b at held first second =
    ask (in_order held.last tag) 3 at
    (ask (length_right tag b) 4 at
    (ask (in_range tag b) 5 at
    (ask (within_limit tag held) 6 at
    (ask (refers tag held.streams b first second) 7 at
    Passed))))

-- the stream that a byte of a body names
abbrev pub named_by : Junction → List ℕ → ℕ → Stream
named_by j b k = stream_numbered j (byte_at b k)

-- 2: do three bytes and the body fit? Then 3 to 7
unfoldable pub field_verdict : List ℕ → ℕ → Junction → Verdict
field_verdict s at j =
    ask (fits s at) 2 at
    (body_verdict (byte_at s at) (body_of s at) at j.held (named_by j (body_of s at) 0) (named_by j (body_of s at) 1))

-- a number is that of an existing car
unfoldable pub count_refers : Junction → ℕ → Bool
count_refers j n = car_refers j.held.streams n (stream_numbered j n)

unfoldable pub in_phase : Junction → ℕ → ℕ → Bool
in_phase j p i = eqb (stream_at j i).phase p

-- the first place of a stream in a phase; the number of streams where there is none
unfoldable pub first_in_phase : Junction → ℕ → ℕ
first_in_phase j p = first_below (in_phase j p) j.held.streams 0

-- some stream is in a phase
unfoldable pub phase_used : Junction → ℕ → Bool
phase_used j p = ltb (first_in_phase j p) j.held.streams

-- where a phase is used, the phase before it is
unfoldable pub phase_follows : Junction → ℕ → Bool
phase_follows j p = not (phase_used j p) || phase_used j (p - 1)

-- phases 1 to some 2 or more all used
unfoldable pub phases_right : Junction → Bool
phases_right j =
    phase_used j 1 && phase_used j 2 && phase_follows j 3 && phase_follows j 4 && phase_follows j 5 && phase_follows j 6

unfoldable pub car_at : Junction → ℕ → Bool
car_at j i = is_car (stream_at j i).kind

-- the first place of a car; the number of streams where there is none
unfoldable pub first_car : Junction → ℕ
first_car j = first_below (car_at j) j.held.streams 0

-- a car without a usable count in the period that is planned, by its place from 0
unfoldable pub lacks_count : Junction → ℕ → Bool
lacks_count j i = car_at j i && eqb (newest_rank j (i + 1)) 0

-- the first place of a car without a usable count in the period; the number of streams where there is none
unfoldable pub first_lacking : Junction → ℕ
first_lacking j = first_below (lacks_count j) j.held.streams 0

-- 9, place the stream: has each car a usable count in the period?
unfoldable pub counts_verdict : Junction → Verdict
counts_verdict j = ask (leb j.held.streams (first_lacking j)) 9 (first_lacking j + 1) Passed

-- 8: heading present, phases 1 to some 2 or more all used, a car present?
unfoldable pub whole : Junction → Bool
whole j = not (eqb j.held.last 0) && phases_right j && ltb (first_car j) j.held.streams

-- 8, place the file length, then 9
unfoldable pub whole_verdict : ℕ → Junction → Verdict
whole_verdict size j = ask (whole j) 8 size (counts_verdict j)
