-- The fields of the whole case and of files near it, byte by byte, with the bytes that a case changes as parameters.
use Rattle.std.specs.Prelude.{ℕ, ◌/◌, ◌%◌, List, [], ◌∷◌}

-- junction number 7, design day 9,000, with a period
unfoldable pub heading_for : ℕ → List ℕ
heading_for period = 1 ∷ 0 ∷ 5 ∷ 0 ∷ 7 ∷ 35 ∷ 40 ∷ period ∷ []

unfoldable pub heading : List ℕ
unfolding heading_for
heading = heading_for 1

-- a car of phase 1 with an amber: standing, straight, width 350, one row, level, medium, no shares
unfoldable pub car : ℕ → List ℕ
car amber = 2 ∷ 0 ∷ 13 ∷ 1 ∷ 1 ∷ amber ∷ 0 ∷ 0 ∷ 0 ∷ 1 ∷ 94 ∷ 1 ∷ 10 ∷ 2 ∷ 0 ∷ 0 ∷ []

-- a stream of phase 2 with a kind, and the rest of a pedestrian: speed 12, crossing 70, 200 people, reach uncounted, undisturbed
unfoldable pub of_kind : ℕ → List ℕ
of_kind kind = 2 ∷ 0 ∷ 9 ∷ kind ∷ 2 ∷ 12 ∷ 0 ∷ 70 ∷ 0 ∷ 200 ∷ 0 ∷ 0 ∷ []

unfoldable pub pedestrian : List ℕ
unfolding of_kind
pedestrian = of_kind 3

-- a pedestrian over an island, with wider carriageway, island and packet, all below 256
unfoldable pub island : ℕ → ℕ → ℕ → List ℕ
island wider between packet = 2 ∷ 0 ∷ 15 ∷ 5 ∷ 2 ∷ 12 ∷ 0 ∷ 70 ∷ 0 ∷ 200 ∷ 0 ∷ 0 ∷ 0 ∷ wider ∷ 0 ∷ between ∷ 0 ∷ packet ∷ []

-- a tram of phase 2 from a stop before the line, with a length, 10 an hour
unfoldable pub stop_tram : ℕ → List ℕ
stop_tram length = 2 ∷ 0 ∷ 6 ∷ 2 ∷ 2 ∷ 1 ∷ length / 256 ∷ length % 256 ∷ 10 ∷ []

-- a cyclist of a phase, with the byte that says whether its reach is counted
unfoldable pub cyclist : ℕ → ℕ → List ℕ
cyclist phase counted = 2 ∷ 0 ∷ 3 ∷ 4 ∷ phase ∷ counted ∷ []

-- a zone of two streams: clearing and reaching distance of the first, then of the second
unfoldable pub zone_by : ℕ → ℕ → ℕ → ℕ → ℕ → ℕ → List ℕ
zone_by a b clearing_a reaching_a clearing_b reaching_b =
    3 ∷ 0 ∷ 10 ∷ a ∷ b ∷ clearing_a / 256 ∷ clearing_a % 256 ∷ reaching_a / 256 ∷ reaching_a % 256 ∷
    clearing_b / 256 ∷ clearing_b % 256 ∷ reaching_b / 256 ∷ reaching_b % 256 ∷ []

unfoldable pub zone : ℕ → ℕ → List ℕ
unfolding zone_by
zone a b = zone_by a b 140 75 70 0

-- a count of stream 1, day 8,960 and so many, file day 0, with a flow and a period
unfoldable pub count_for : ℕ → ℕ → ℕ → List ℕ
count_for day flow period = 4 ∷ 0 ∷ 8 ∷ 1 ∷ 35 ∷ day ∷ 0 ∷ 0 ∷ flow / 256 ∷ flow % 256 ∷ period ∷ []

unfoldable pub count : ℕ → ℕ → List ℕ
unfolding count_for
count day flow = count_for day flow 1

-- a plan's field 11 with its cycle, and field 12 of a stream with start and length, all below 256
unfoldable pub cycle11 : ℕ → List ℕ
cycle11 cycle = 17 ∷ 0 ∷ 2 ∷ 0 ∷ cycle ∷ []

unfoldable pub green12 : ℕ → ℕ → ℕ → List ℕ
green12 stream start length = 18 ∷ 0 ∷ 5 ∷ stream ∷ 0 ∷ start ∷ 0 ∷ length ∷ []
