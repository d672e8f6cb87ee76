-- The answer to a junction file, for every list of bytes (document 01, "The junction file" and "Questions in order").
use Rattle.std.specs.Prelude.{ℕ, zero, suc, ◌+◌, cond, List, leb, ltb, length, set, Result}
use Rattle.fields.specs.Bytes.{byte_at, field_end, body_of}
use Rattle.fields.specs.Verdict.{is_refused, answered, Verdict, Refused}
use Rattle.fields.specs.declared.Refusal.{Refusal}
use Rattle.junction.specs.declared.Junction.{Junction}
use Rattle.junction.specs.Layout.{design_day, planned_period, stream_of, zone_of, count_of}
use Rattle.junction_places.specs.Blank.{blank}
use Rattle.junction_questions.specs.Questions.{by_tag, field_verdict, whole_verdict}
use Rattle.limits.specs.Limits.{most_bytes}

-- what the questions give, and the junction as far as it was read, to be used only where nothing is refused
pub record Reading : Type 0 where
  pub verdict : Verdict
  pub junction : Junction

-- the junction, or the refusal
abbrev pub taken_or_refused : Reading → Result Junction Refusal
taken_or_refused r = answered r.verdict r.junction

-- the junction with one field more, by its sort
unfoldable pub with_heading : List ℕ → Junction → Junction
with_heading b j =
    record {
      day = design_day b;
      period = planned_period b;
      held = record { last = 1; streams = j.held.streams; zones = j.held.zones; counts = j.held.counts };
      streams = j.streams;
      zones = j.zones;
      counts = j.counts;
    }

unfoldable pub with_stream : List ℕ → Junction → Junction
with_stream b j =
    record {
      day = j.day;
      period = j.period;
      held = record { last = 2; streams = j.held.streams + 1; zones = j.held.zones; counts = j.held.counts };
      streams = set j.streams j.held.streams (stream_of b);
      zones = j.zones;
      counts = j.counts;
    }

unfoldable pub with_zone : List ℕ → Junction → Junction
with_zone b j =
    record {
      day = j.day;
      period = j.period;
      held = record { last = 3; streams = j.held.streams; zones = j.held.zones + 1; counts = j.held.counts };
      streams = j.streams;
      zones = set j.zones j.held.zones (zone_of b);
      counts = j.counts;
    }

unfoldable pub with_count : List ℕ → Junction → Junction
with_count b j =
    record {
      day = j.day;
      period = j.period;
      held = record { last = 4; streams = j.held.streams; zones = j.held.zones; counts = j.held.counts + 1 };
      streams = j.streams;
      zones = j.zones;
      counts = set j.counts j.held.counts (count_of b);
    }

unfoldable pub with_field : ℕ → List ℕ → Junction → Junction
with_field tag b j = by_tag tag (with_heading b j) (with_stream b j) (with_zone b j) (with_count b j)

-- a field judged: the junction as it was where the field is refused, else with the field
unfoldable pub after_field : Verdict → ℕ → List ℕ → Junction → Reading
after_field v tag b j = record { verdict = v; junction = cond (is_refused v) j (with_field tag b j) }

unfoldable pub read_field : List ℕ → ℕ → Junction → Reading
read_field s at j = after_field (field_verdict s at j) (byte_at s at) (body_of s at) j

-- the end of the file: the questions of the whole
unfoldable pub at_end : ℕ → Junction → Reading
at_end size j = record { verdict = whole_verdict size j; junction = j }

-- field by field from a place on, until one is refused or the file ends; fuel is at least the number of bytes left, and a field has three
-- or more
unfoldable pub read_from : ℕ → List ℕ → ℕ → Junction → Reading
read_from zero s at j = at_end (length s) j
read_from (suc fuel) s at j =
    cond (ltb at (length s))
    (cond (is_refused (read_field s at j).verdict) (read_field s at j) (read_from fuel s (field_end s at) (read_field s at j).junction))
    (at_end (length s) j)

-- 1, place 0: is it within 16,384 bytes?
unfoldable pub reading : List ℕ → Reading
reading s =
    cond (leb (length s) most_bytes) (read_from (length s) s 0 blank) (record { verdict = Refused 1 0; junction = blank })
