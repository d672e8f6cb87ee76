-- Delay and level of service (document 02, 2026-05; annex 4.1, (51) to (56), and the levels of 6.2, with the factor 0.9 in place of term (54)),
-- in f64, rounded at each step as written: `add`, `sub`, `mul` and `div` of `Rattle.std.specs.Float.Ieee` work out the exact result and round it
-- once.
use Rattle.std.specs.Prelude.{ℕ, ◌+◌, cond, false, pos, Float}
use Rattle.std.specs.Float.{binary64}
use Rattle.std.specs.Float.Ieee.{add, sub, mul, div, le, of_int, round}
use Rattle.service_level.specs.declared.DelayFigures.{DelayFigures}
use Rattle.service_level.specs.declared.Service.{Service}
use Rattle.service_level.specs.declared.Service.TheVariants.{Delay, Oversaturated, NoRed}
use Rattle.service_level.specs.declared.Level.{Level}
use Rattle.service_level.specs.declared.Level.TheVariants.{A, B, C, D, E, F}

-- a whole number, in f64
abbrev pub whole : ℕ → Float
whole n = of_int binary64 (pos n)

-- 0.9: the f64 nearest to 9/10
abbrev pub nine_tenths : Float
nine_tenths = round binary64 false 9 10

-- (55): g = (length + 1)/C
abbrev pub green_share : ℕ → ℕ → Float
green_share length cycle = div binary64 (whole (length + 1)) (whole cycle)

-- (56): u = flow/(g × S)
abbrev pub saturation_of : Float → ℕ → ℕ → Float
saturation_of g flow s = div binary64 (whole flow) (mul binary64 g (whole s))

-- (52): A = ((1 - g) × (1 - g))/(2 × (1 - g × u))
unfoldable pub term_a : Float → Float → Float
term_a g u =
    div binary64 (mul binary64 (sub binary64 (whole 1) g) (sub binary64 (whole 1) g))
    (mul binary64 (whole 2) (sub binary64 (whole 1) (mul binary64 g u)))

-- (53): B = (u × u)/(2 × (1 - u))
unfoldable pub term_b : Float → Float
term_b u = div binary64 (mul binary64 u u) (mul binary64 (whole 2) (sub binary64 (whole 1) u))

-- (51): d = 0.9 × (C × A + (3600 × B)/flow)
unfoldable pub delay_of : ℕ → ℕ → Float → Float → Float
delay_of cycle flow a b =
    mul binary64 nine_tenths
    (add binary64 (mul binary64 (whole cycle) a) (div binary64 (mul binary64 (whole 3600) b) (whole flow)))

-- the figures travel together; A, B and d are 0 where the answer is not the delay
abbrev pub with_terms : ℕ → ℕ → Float → Float → DelayFigures
with_terms cycle flow g u =
    record { g = g; u = u; a = term_a g u; b = term_b u; d = delay_of cycle flow (term_a g u) (term_b u) }

abbrev pub without_terms : Float → Float → DelayFigures
without_terms g u = record { g = g; u = u; a = whole 0; b = whole 0; d = whole 0 }

unfoldable pub figures_of : (length cycle flow s : ℕ) → DelayFigures
figures_of length cycle flow s =
    let g = green_share length cycle in
    let u = saturation_of g flow s in
    cond (le (whole 1) g) (without_terms g u) (cond (le (whole 1) u) (without_terms g u) (with_terms cycle flow g u))

-- the answer: no red where g is 1 or more, tested first; the saturation where it is 1 or more; else the delay
unfoldable pub service_of : DelayFigures → Service
service_of f = cond (le (whole 1) f.g) NoRed (cond (le (whole 1) f.u) (Oversaturated f.u) (Delay f.d))

-- the level of a delay: A up to 25, B up to 35, C up to 50, D up to 70, E up to 100, else F
unfoldable pub delay_level : Float → Level
delay_level d =
    cond (le d (whole 25)) A
    (cond (le d (whole 35)) B
    (cond (le d (whole 50)) C
    (cond (le d (whole 70)) D
    (cond (le d (whole 100)) E F))))

-- a saturation has F, no red A
unfoldable pub service_level : Service → Level
service_level (Delay d) = delay_level d
service_level (Oversaturated u) = F
service_level NoRed = A

unfoldable pub level_of : DelayFigures → Level
level_of f = service_level (service_of f)

-- the number of each answer, as the C library tells it, and its value: seconds, or the saturation; 0 without red
unfoldable pub outcome : Service → ℕ
outcome (Delay d) = 1
outcome (Oversaturated u) = 2
outcome NoRed = 3

unfoldable pub value : Service → Float
value (Delay d) = d
value (Oversaturated u) = u
value NoRed = whole 0

-- a level's letter, as a byte: "A" to "F"
unfoldable pub letter : Level → ℕ
letter A = 65
letter B = 66
letter C = 67
letter D = 68
letter E = 69
letter F = 70
