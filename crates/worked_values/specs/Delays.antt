-- Delays of request 2026-05 by their 64 bits, worked out apart with another program's f64, in one table with one proof over it: a value for each
-- constant of the formulas, and both sides of each level's limit, of no red and of exact capacity.
use Rattle.std.specs.Prelude.{ℕ, List, [], ◌∷◌, map, ◌≡◌, refl}
use Rattle.std.specs.Float.{binary64}
use Rattle.std.specs.Float.Ieee.{to_bits}
use Rattle.service_level.specs.Delays.{figures_of, service_of, level_of, outcome, value, letter}
use Rattle.worked_values.specs.Computed.{to_delays}

-- what is told: the number of the answer, the value's bits, and the level's letter
pub record Told : Type 0 where
  pub number : ℕ
  pub bits : ℕ
  pub level : ℕ

-- of a green of this length in a cycle, a flow and S
told : (length cycle flow s : ℕ) → Told
told length cycle flow s =
    let f = figures_of length cycle flow s in
    record { number = outcome (service_of f); bits = to_bits binary64 (value (service_of f)); level = letter (level_of f) }

pub record Row : Type 0 where
  pub answer : Told
  pub apart : Told

infixl 20 ◌is◌
◌is◌ : Told → Told → Row
v is w = record { answer = v; apart = w }

delay : ℕ → ℕ → Told
delay bits level = record { number = 1; bits = bits; level = level }

saturation : ℕ → Told
saturation bits = record { number = 2; bits = bits; level = 70 }

no_red : Told
no_red = record { number = 3; bits = 0; level = 65 }

unfoldable pub rows : List Row
unfolding ◌is◌ told delay saturation no_red
rows =
    -- document 01's whole case, 3.455 s; a second short of no red; no red
    (told 35 50 600 1925 is delay 0x400b_a3e6_c2ee_7cec 65) ∷ (told 48 50 600 1925 is delay 0x3fda_77fa_35ca_797b 65) ∷
    (told 49 50 600 1925 is no_red) ∷ (told 50 50 600 1925 is no_red) ∷
    -- no red is tested first: u is 1 too; and a flow just below its capacity, 1,088 × 23 < 1,925 × 13
    (told 49 50 1925 1925 is no_red) ∷ (told 12 23 1088 1925 is delay 0x40e2_31e0_58ed_0565 70) ∷
    -- exact capacity: u just below 1, so a delay; u 1; u just above 1
    (told 10 20 1485 2700 is delay 0x4341_745d_1745_d175 70) ∷ (told 49 100 1350 2700 is saturation 0x3ff0_0000_0000_0000) ∷
    (told 13 55 280 1100 is saturation 0x3ff0_0000_0000_0001) ∷
    -- 25 s, and the next number
    (told 17 60 642 2700 is delay 0x4039_0000_0000_0000 65) ∷ (told 55 112 1296 3240 is delay 0x4039_0000_0000_0001 66) ∷
    -- 35 s, and the next number
    (told 55 140 756 2700 is delay 0x4041_8000_0000_0000 66) ∷ (told 20 35 1566 2700 is delay 0x4041_8000_0000_0001 67) ∷
    -- 50 s, and just above
    (told 29 108 810 3240 is delay 0x4049_0000_0000_0000 67) ∷ (told 68 180 574 1980 is delay 0x4049_0000_0840_f6c0 68) ∷
    -- just below 70 s, and just above
    (told 21 158 196 2075 is delay 0x4051_7fff_f798_d269 68) ∷ (told 9 144 95 2475 is delay 0x4051_8000_0390_cebf 69) ∷
    -- just below 100 s, and just above
    (told 106 146 1648 2275 is delay 0x4058_ffff_6f00_47f6 69) ∷ (told 124 136 1849 2030 is delay 0x4059_0000_209f_8ddb 70) ∷
    []

-- each answer is the one worked out apart
pub every_delay : map (λ (r : Row). r.answer) rows ≡ map (λ (r : Row). r.apart) rows
unfolding rows to_delays
every_delay = refl
