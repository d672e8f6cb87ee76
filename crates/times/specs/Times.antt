-- Leaving and reaching times of each kind, unrounded (document 01, "Times at a zone", with document 02; annex 1.1 to 1.3).
-- Distances are decimetres: 10 m/s is 100.
use Rattle.std.specs.Prelude.{ℕ, ◌+◌, ◌-◌, ◌*◌, max, Bool, cond, leb, ltb, eqb}
use Rattle.times.specs.declared.Time.{Time}
use Rattle.times.specs.declared.Time.TheVariants.{Ratio, Root}
use Rattle.times.specs.Comparison.{root_ratio}
use Rattle.streams.specs.declared.Kind.{Kind}
use Rattle.streams.specs.declared.Kind.TheVariants.{Car, Tram, Pedestrian, Cyclist, Island}
use Rattle.streams.specs.declared.CarFigures.{CarFigures}
use Rattle.streams.specs.declared.TramFigures.{TramFigures}
use Rattle.streams.specs.declared.PedestrianFigures.{PedestrianFigures}

-- approach + (l + 60)/speed, raised to amber + 1 if lower (9')
unfoldable pub car_time : ℕ → ℕ → ℕ → ℕ → Time
car_time approach speed amber l = Ratio (max (approach * speed + (l + 60)) ((amber + 1) * speed)) speed

-- car with clearing distance l: straight 3 + (l + 60)/100 (1, 7); turning with radius above 150, 2 + (l + 60)/70 (2, 8); any other
-- turn 2 + (l + 60)/50 (2, 9; house at 150 and at 60 or less)
unfoldable pub car_leaving : CarFigures → ℕ → Time
car_leaving c l =
    cond (eqb c.radius 0) (car_time 3 100 c.amber l)
    (cond (ltb 150 c.radius) (car_time 2 70 c.amber l) (car_time 2 50 c.amber l))

-- the larger of √(q/e) and n/d, compared exactly: n/d where √(q/e) ≤ n/d, which is `root_ratio` with gap 0. What "the larger" means, without
-- this test, is `longer_at_least` of exact_times/proofs/Larger.antt.
unfoldable pub longer : ℕ → ℕ → ℕ → ℕ → Time
longer q e n d = cond (root_ratio q e n d 0) (Ratio n d) (Root q e 0)

-- tram of length t from a stop before the line: the root of (l + t)/5 if l is at most 400 (4, 11); else the larger of (11) at 400 and
-- 11.1 + (l - 400)/111 (11'), which is (111 × 111 + 10(l - 400))/1110 (document 02, 2026-02)
unfoldable pub stop_leaving : ℕ → ℕ → Time
stop_leaving t l = cond (leb l 400) (Root (l + t) 5 0) (longer (400 + t) 5 (12321 + 10 * (l - 400)) 1110)

-- running tram: 5.1 + 9(l + t)/1000 (3, 10); house: only the case drawn, not the larger of the two
unfoldable pub tram_leaving : TramFigures → ℕ → Time
tram_leaving t l = cond t.stop (stop_leaving t.length l) (Ratio (5100 + 9 * (l + t.length)) 1000)

-- pedestrian, over an island too: l/speed (5, 12)
unfoldable pub walk_leaving : PedestrianFigures → ℕ → Time
walk_leaving p l = Ratio l p.speed

-- the time from the end of green until the last participant leaves, with clearing distance l; cyclist 1 + l/40 (5', 12')
unfoldable pub leaving : Kind → ℕ → Time
leaving (Car c) l = car_leaving c l
leaving (Tram t) l = tram_leaving t l
leaving (Pedestrian p) l = walk_leaving p l
leaving (Cyclist y) l = Ratio (40 + l) 40
leaving (Island i) l = walk_leaving i.walk l

-- flying car and running tram: 9r/1000 (14, 16)
unfoldable pub passing : ℕ → Time
passing r = Ratio (9 * r) 1000

-- car standing at the line: the root of (r + 15)/10, less 1 (13)
unfoldable pub car_reaching : CarFigures → ℕ → Time
car_reaching c r = cond c.flying (passing r) (Root (r + 15) 10 1)

-- tram from a stop: the root of (r + 15)/5 (15)
unfoldable pub tram_reaching : TramFigures → ℕ → Time
tram_reaching t r = cond t.stop (Root (r + 15) 5 0) (passing r)

-- r/speed if the time is counted (18, 18'), else 0 (17, 17')
unfoldable pub counted_reaching : Bool → ℕ → ℕ → Time
counted_reaching counted r speed = cond counted (Ratio r speed) (Ratio 0 1)

-- pedestrian, over an island too: r/15 if counted (18), else 0 (17)
unfoldable pub walk_reaching : PedestrianFigures → ℕ → Time
walk_reaching p r = counted_reaching p.counted r 15

-- the time from the start of green until the first participant reaches the zone, with reaching distance r
unfoldable pub reaching : Kind → ℕ → Time
reaching (Car c) r = car_reaching c r
reaching (Tram t) r = tram_reaching t r
reaching (Pedestrian p) r = walk_reaching p r
reaching (Cyclist y) r = counted_reaching y.counted r 50
reaching (Island i) r = walk_reaching i.walk r
