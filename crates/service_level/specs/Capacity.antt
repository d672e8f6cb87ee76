-- The most that u comes to where the flow is the capacity.
use Rattle.std.specs.Prelude.{◌+◌, ◌^◌, false, Float}
use Rattle.std.specs.Float.{binary64}
use Rattle.std.specs.Float.Ieee.{round}

-- 1 + 2^-20
abbrev pub just_above : Float
just_above = round binary64 false (2 ^ 20 + 1) (2 ^ 20)
