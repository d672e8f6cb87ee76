-- The limits of junctions and plans (document 01, "The junction file" and "Judging a plan"; document 02).
use Rattle.std.specs.Prelude.{ℕ}

-- a junction file has at most so many bytes, streams, zones and counts
abbrev pub most_bytes : ℕ
most_bytes = 16384

abbrev pub most_streams : ℕ
most_streams = 16

abbrev pub most_zones : ℕ
most_zones = 64

abbrev pub most_counts : ℕ
most_counts = 128

-- phases have the numbers 1 to at most this
abbrev pub most_phases : ℕ
most_phases = 6

-- a cycle has at most so many seconds; one more stands for none
abbrev pub most_seconds : ℕ
most_seconds = 180

abbrev pub no_cycle : ℕ
no_cycle = 181

-- the flow of a count in E/h
abbrev pub least_flow : ℕ
least_flow = 1

abbrev pub greatest_flow : ℕ
greatest_flow = 9999

-- a period of the day, in a heading and in a count (document 02, 2026-04)
abbrev pub least_period : ℕ
least_period = 1

abbrev pub greatest_period : ℕ
greatest_period = 4
