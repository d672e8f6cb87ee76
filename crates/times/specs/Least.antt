-- For which streams and reaching times the entry means what the paper says.
use Rattle.std.specs.Prelude.{ℕ, ◌*◌, ◌≤◌, ◌<◌}
use Rattle.streams.specs.declared.Kind.{Kind}
use Rattle.streams.specs.declared.Kind.TheVariants.{Car, Tram, Pedestrian, Cyclist, Island}
use Rattle.times.specs.declared.Time.{Time}
use Rattle.times.specs.declared.Time.TheVariants.{Ratio, Root}

-- a reaching time that is not below 0, and less by no more than the gap
abbrev pub NotEarly : ℕ → Time → Type 0
NotEarly g (Ratio n d) = Unit {0}
NotEarly g (Root p f c) = (c ≤ g) × (c * c * f ≤ p)

-- figures with which a stream clears in finite time: a pedestrian's speed is not 0, and amber and tram length fit their bytes
abbrev pub Moves : Kind → Type 0
Moves (Car c) = c.amber < 256
Moves (Tram t) = t.length < 65536
Moves (Pedestrian p) = 0 < p.speed
Moves (Cyclist y) = Unit {0}
Moves (Island i) = 0 < i.walk.speed
