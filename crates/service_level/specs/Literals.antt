-- The constants of the code, by their bit patterns, are the numbers that the definitions write.
use Rattle.std.specs.Prelude.{◌≡◌}
use Rattle.std.proofs.Math.Path.{refl}
use Rattle.std.specs.Float.{binary64}
use Rattle.std.specs.Float.Ieee.{of_bits, of_int, round}
use Rattle.service_level.specs.Delays.{whole, nine_tenths}

pub is_0 : of_bits binary64 0 ≡ whole 0
is_0 = unfold of_bits of_int in refl

pub is_1 : of_bits binary64 0x3ff0_0000_0000_0000 ≡ whole 1
is_1 = unfold of_bits of_int in refl

pub is_2 : of_bits binary64 0x4000_0000_0000_0000 ≡ whole 2
is_2 = unfold of_bits of_int in refl

pub is_3600 : of_bits binary64 0x40ac_2000_0000_0000 ≡ whole 3600
is_3600 = unfold of_bits of_int in refl

pub is_nine_tenths : of_bits binary64 0x3fec_cccc_cccc_cccd ≡ nine_tenths
is_nine_tenths = unfold of_bits round in refl

pub is_25 : of_bits binary64 0x4039_0000_0000_0000 ≡ whole 25
is_25 = unfold of_bits of_int in refl

pub is_35 : of_bits binary64 0x4041_8000_0000_0000 ≡ whole 35
is_35 = unfold of_bits of_int in refl

pub is_50 : of_bits binary64 0x4049_0000_0000_0000 ≡ whole 50
is_50 = unfold of_bits of_int in refl

pub is_70 : of_bits binary64 0x4051_8000_0000_0000 ≡ whole 70
is_70 = unfold of_bits of_int in refl

pub is_100 : of_bits binary64 0x4059_0000_0000_0000 ≡ whole 100
is_100 = unfold of_bits of_int in refl
