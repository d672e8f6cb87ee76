-- The kinds of streams.
use Rattle.std.specs.Prelude.{Bool, true, false}
use Rattle.streams.specs.declared.Kind.{Kind}
use Rattle.streams.specs.declared.Kind.TheVariants.{Car, Tram, Pedestrian, Cyclist, Island}

abbrev pub is_car : Kind → Bool
is_car (Car c) = true
is_car (Tram t) = false
is_car (Pedestrian p) = false
is_car (Cyclist y) = false
is_car (Island i) = false

-- pedestrians, over an island too, and trams
abbrev pub is_pedestrian_or_tram : Kind → Bool
is_pedestrian_or_tram (Car c) = false
is_pedestrian_or_tram (Tram t) = true
is_pedestrian_or_tram (Pedestrian p) = true
is_pedestrian_or_tram (Cyclist y) = false
is_pedestrian_or_tram (Island i) = true
