-- Needed greens (document 01, "Needs and flows"; annex 2.1.9, 2.2 to 2.4).
use Rattle.std.specs.Prelude.{ℕ, ◌+◌, ◌-◌, ◌*◌, min, max, ◌||◌, cond, List, [], ◌∷◌, leb, ltb, get_or}
use Rattle.laws.specs.Rounding.{up}
use Rattle.streams.specs.declared.Kind.{Kind}
use Rattle.streams.specs.declared.Kind.TheVariants.{Car, Tram, Pedestrian, Cyclist, Island}
use Rattle.streams.specs.declared.Stream.{Stream}
use Rattle.streams.specs.declared.TramFigures.{TramFigures}
use Rattle.streams.specs.declared.PedestrianFigures.{PedestrianFigures}
use Rattle.streams.specs.declared.IslandFigures.{IslandFigures}

-- Table 3: the longest cycle, in seconds, in which 15, 16, .. 34 trams an hour need 10 s
unfoldable pub table3 : List ℕ
table3 =
    120 ∷ 113 ∷ 106 ∷ 100 ∷ 95 ∷ 91 ∷ 87 ∷ 82 ∷ 79 ∷ 75 ∷
    72 ∷ 69 ∷ 67 ∷ 65 ∷ 63 ∷ 60 ∷ 58 ∷ 56 ∷ 54 ∷ 53 ∷ []

-- Table 3's cycle for a number of trams an hour: 14 or fewer as 15 (house); more than 34 are in no file, and count as 34
unfoldable pub longest_cycle : ℕ → ℕ
longest_cycle trams = get_or table3 (min (trams - 15) 19) 0

-- annex 2.2: 10 s for one tram a cycle, 20 s for two
unfoldable pub tram_need : ℕ → TramFigures → ℕ
tram_need cycle t = cond (leb cycle (longest_cycle t.hourly)) 10 20

-- formula (39): the crossing at 12 dm/s, or at 16 dm/s (0.75 of the time) where it is above 120 dm or at most 120 people
-- an hour use it (house on the overlap)
unfoldable pub crossing_speed : PedestrianFigures → ℕ
crossing_speed p = cond (ltb 120 p.crossing || leb p.hourly 120) 16 12

-- formula (40): 3 s more where turning cars disturb the crossing
unfoldable pub disturbance : PedestrianFigures → ℕ
disturbance p = cond p.disturbed 3 0

-- formulas (38) to (40): crossing / speed, plus 3 if disturbed, rounded up, at least 6
unfoldable pub pedestrian_need : PedestrianFigures → ℕ
pedestrian_need p = max 6 (up (p.crossing + disturbance p * crossing_speed p) (crossing_speed p))

-- formulas (38) to (40) with (39'), for a crossing in one go over an island: (wider carriageway + island + packet)/12, plus 3 if disturbed,
-- rounded up; and at least what the crossing needs without the island
unfoldable pub island_need : IslandFigures → ℕ
island_need i = max (pedestrian_need i.walk) (up (i.wider + i.island + i.packet + disturbance i.walk * 12) 12)

-- formula (38): the needed green of cars
abbrev pub car_need : ℕ
car_need = 8

-- the needed green of a kind at a cycle: car (38), tram (Table 3), pedestrian (38 to 40), cyclist (40'), pedestrian over an island (38 to
-- 40 with 39')
unfoldable pub kind_need : ℕ → Kind → ℕ
kind_need cycle (Car c) = car_need
kind_need cycle (Tram t) = tram_need cycle t
kind_need cycle (Pedestrian p) = pedestrian_need p
kind_need cycle (Cyclist y) = 6
kind_need cycle (Island i) = island_need i

unfoldable pub need_at : ℕ → Stream → ℕ
need_at cycle s = kind_need cycle s.kind
