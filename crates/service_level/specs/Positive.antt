-- The least and the greatest that A, B and the delay can be.
use Rattle.std.specs.Prelude.{Float}
use Rattle.std.specs.Float.{binary64}
use Rattle.std.specs.Float.Ieee.{add, mul, div}
use Rattle.service_level.specs.Delays.{whole, nine_tenths}
use Rattle.service_level.specs.Divisors.{least_u}
use Rattle.service_level.specs.lemmas.Ranged.{one, two, step}

-- the ends of what A and B can be
abbrev pub least_a : Float
least_a = div binary64 (mul binary64 step step) (mul binary64 two one)

-- the most of both
abbrev pub most_a : Float
most_a = div binary64 (mul binary64 one one) (mul binary64 two step)

abbrev pub least_b : Float
least_b = div binary64 (mul binary64 least_u least_u) (mul binary64 two one)

-- and those of the delay
abbrev pub least_d : Float
least_d =
    mul binary64 nine_tenths
    (add binary64 (mul binary64 one least_a) (div binary64 (mul binary64 (whole 3600) least_b) (whole 65535)))

abbrev pub most_d : Float
most_d =
    mul binary64 nine_tenths
    (add binary64 (mul binary64 (whole 65535) most_a) (div binary64 (mul binary64 (whole 3600) most_a) one))
