-- The constant of the code, by its bit pattern, is the number that the definitions write.
use Rattle.std.specs.Prelude.{◌≡◌}
use Rattle.std.proofs.Math.Path.{refl}
use Rattle.std.specs.Float.{binary64}
use Rattle.std.specs.Float.Ieee.{of_bits, of_int}
use Rattle.service_level.specs.Delays.{whole}

pub is_10 : of_bits binary64 0x4024_0000_0000_0000 ≡ whole 10
is_10 = unfold of_bits of_int in refl
