-- A flow below its capacity is never told as a saturation: where flow × C is below S × (length + 1), u is below 1 also after three roundings.
-- Where the two are equal, u is no more than 1 and 2^-20.
use Rattle.std.specs.Prelude.{ℕ, ◌+◌, ◌-◌, ◌*◌, ◌/◌, ◌^◌, ◌≤◌, ◌<◌, false, ◌≡◌, T, Float}
use Rattle.std.proofs.Common.{le_refl, le-div_iff_mul-le, lt_of_lt_of_le, mul-one, mul-pos, mul_assoc, mul-le-mul, mul-le-mul_left}
use Rattle.std.proofs.Common.{mul-le-mul_right, mul-lt-mul_of_pos_right, le_of_mul-le-mul_right, div-mul-le_self, div-add-mod', mod-lt}
use Rattle.std.proofs.Common.{div-lt_iff_lt-mul, arith, sym, subst, lit≤, pow_mono, shl_lt}
use Rattle.std.proofs.Math.Path.{refl}
use Rattle.std.specs.Float.{binary64}
use Rattle.std.specs.Float.Ieee.{round, mul, div, lt, eq, le, of_int}
use Rattle.std.specs.Float.Ieee.Exact.{HasValue, round_exact}
use Rattle.std.specs.Float.Ieee.Order.{round_mono}
use Rattle.std.specs.Float.Ieee.Positive.{positive, positive_of_value, between, le_trans_positive, mul_at, mul_mono}
use Rattle.laws.specs.Ranges.{Between}
use Rattle.service_level.specs.Delays.{whole, green_share, saturation_of}
use Rattle.service_level.proofs.Divisors.{g_ranged, u_ranged, capacity_ranged}
use Rattle.service_level.specs.Divisors.{Numbers}
use Rattle.service_level.specs.lemmas.Numbers.{is_false, whole_value, whole_positive, whole_le, div_mono, quotient, div_at}
use Rattle.service_level.specs.lemmas.Ranged.{one, one_positive, ranged_positive}
use Rattle.service_level.specs.Capacity.{just_above}

-- parts of 2^32 with up to 53 digits are held exactly
held : (n : ℕ) → n < 2 ^ 53 → HasValue (round binary64 false n (2 ^ 32)) false n (2 ^ 32)
held n small =
    round_exact binary64 false n (2 ^ 32) n 1042 (lit≤ tt) small
    (lt_of_lt_of_le (shl_lt 53 1042 small) (pow_mono {i = 1095} {j = 2098} (lit≤ tt))) (sym (mul_assoc n (2 ^ 1042) (2 ^ 32)))

-- 1 - 2^-26
abbrev near : Float
near = round binary64 false (2 ^ 26 - 1) (2 ^ 26)

apart : le one near ≡ false
apart = unfold le lt eq round of_int in refl

module _ (length cycle flow s : ℕ) (short : length + 1 < cycle) (cycles : cycle ≤ 256) (flows : Between 1 9999 flow) (most : Between 1 (2 ^ 21) s)
    (carried : flow * cycle ≤ s * (length + 1)) where
  abbrev g : Float
  g = green_share length cycle

  -- g from below, in parts of 2^32
  abbrev parts : ℕ
  parts = (length + 1) * 2 ^ 32 / cycle

  parts_low : parts * cycle ≤ (length + 1) * 2 ^ 32
  parts_low = div-mul-le_self ((length + 1) * 2 ^ 32) cycle

  parts_high : (length + 1) * 2 ^ 32 ≤ parts * cycle + cycle
  parts_high = omega (arith, div-add-mod' ((length + 1) * 2 ^ 32) cycle, mod-lt ((length + 1) * 2 ^ 32) {m = cycle} (omega arith))

  parts_small : parts < 2 ^ 32
  parts_small = (div-lt_iff_lt-mul {k = cycle} (omega arith)).1 (omega arith)

  parts_some : 0 < parts
  parts_some = (le-div_iff_mul-le {k = cycle} {x = 1} {y = (length + 1) * 2 ^ 32} (omega arith)).1 (omega arith)

  -- flow/(g × S) is below 1 by more than the roundings can make up for, or above it by little
  cycle_some : 0 < cycle
  cycle_some = omega arith

  scaled : (length + 1) * 2 ^ 32 * s ≤ (parts * cycle + cycle) * s
  scaled = mul-le-mul_right s parts_high

  product : cycle * s ≤ 256 * 2 ^ 21
  product = mul-le-mul cycles most.1

  far : flow * cycle < s * (length + 1) → flow * 2 ^ 32 * 2 ^ 26 ≤ (2 ^ 26 - 1) * (parts * s)
  far below =
      let loaded : flow * cycle ≤ 9999 * 256 = mul-le-mul flows.1 cycles in
      le_of_mul-le-mul_right (omega (arith, scaled, product, loaded, below)) cycle_some

  close : flow * 2 ^ 32 * 2 ^ 20 ≤ (2 ^ 20 + 1) * (parts * s)
  close =
      let few : cycle * s ≤ 256 * s = mul-le-mul_right s cycles in
      let more : s * 1 ≤ s * (length + 1) = mul-le-mul_left s (omega arith) in
      le_of_mul-le-mul_right (omega (arith, scaled, few, more, carried)) cycle_some

  numbers : Numbers length cycle flow s
  numbers = record { of_length = omega arith; of_cycle = omega arith; of_flow = omega (arith, flows); of_s = omega (arith, most) }

  abbrev u : Float
  u = saturation_of g flow s

  abbrev low : Float
  low = round binary64 false parts (2 ^ 32)

  low_value : HasValue low false parts (2 ^ 32)
  low_value = held parts (omega (arith, parts_small))

  low_positive : T (positive low)
  low_positive = positive_of_value low parts (2 ^ 32) low_value parts_some

  g_positive : T (positive g)
  g_positive = ranged_positive (g_ranged length cycle flow s numbers)

  low_le : T (le low g)
  low_le =
      rw (quotient (length + 1) cycle (omega arith) (omega arith) (omega arith) (omega arith))
      (round_mono binary64 parts (2 ^ 32) (length + 1) cycle (lit≤ tt) (omega arith) parts_low)

  s_positive : T (positive (whole s))
  s_positive = whole_positive s most.0 (omega (arith, most))

  -- g × S from below
  abbrev low_capacity : Float
  low_capacity = mul binary64 low (whole s)

  product_small : parts * s < 2 ^ 53
  product_small = lt_of_lt_of_le (mul-lt-mul_of_pos_right parts_small most.0) (mul-le-mul_left (2 ^ 32) most.1)

  capacity_is : low_capacity ≡ round binary64 false (parts * s) (2 ^ 32)
  capacity_is =
      mul_at binary64 low (whole s) parts (2 ^ 32) s 1 low_positive s_positive (lit≤ tt) (omega arith) low_value
      (whole_value s (omega (arith, most)))

  capacity_value : HasValue low_capacity false (parts * s) (2 ^ 32)
  capacity_value = rw capacity_is (held (parts * s) product_small)

  capacity_some : T (positive low_capacity)
  capacity_some = positive_of_value low_capacity (parts * s) (2 ^ 32) capacity_value (mul-pos parts_some most.0)

  capacity_le : T (le low_capacity (mul binary64 g (whole s)))
  capacity_le =
      mul_mono binary64 low g (whole s) (whole s) low_positive g_positive s_positive s_positive low_le
      (whole_le s s most.0 (omega (arith, most)) (le_refl s))

  -- so u is at most 1 - 2^-26
  abbrev high_u : Float
  high_u = div binary64 (whole flow) low_capacity

  flow_positive : T (positive (whole flow))
  flow_positive = whole_positive flow flows.0 (omega (arith, flows))

  u_le : T (le u high_u)
  u_le =
      div_mono (whole flow) (whole flow) (mul binary64 g (whole s)) low_capacity flow_positive flow_positive
      (ranged_positive (capacity_ranged length cycle flow s numbers)) capacity_some
      (whole_le flow flow flows.0 (omega (arith, flows)) (le_refl flow)) capacity_le

  high_is : high_u ≡ round binary64 false (flow * 2 ^ 32) (parts * s * 1)
  high_is =
      div_at (whole flow) low_capacity flow 1 (parts * s) (2 ^ 32) flow_positive capacity_some (omega arith) (lit≤ tt) (mul-pos parts_some most.0)
      (whole_value flow (omega (arith, flows))) capacity_value

  parts_product : 0 < parts * s * 1
  parts_product = rw mul-one (mul-pos parts_some most.0)

  high_near : flow * cycle < s * (length + 1) → T (le high_u near)
  high_near below =
      rw high_is (round_mono binary64 (flow * 2 ^ 32) (parts * s * 1) (2 ^ 26 - 1) (2 ^ 26) parts_product (lit≤ tt) (rw mul-one (far below)))

  high_close : T (le high_u just_above)
  high_close = rw high_is (round_mono binary64 (flow * 2 ^ 32) (parts * s * 1) (2 ^ 20 + 1) (2 ^ 20) parts_product (lit≤ tt) (rw mul-one close))

  u_positive : T (positive u)
  u_positive = ranged_positive (u_ranged length cycle flow s numbers)

  high_positive : T (positive high_u)
  high_positive = between u high_u just_above u_positive (unfold round in tt) u_le high_close

  -- a flow below its capacity is no saturation
  pub below_capacity : flow * cycle < s * (length + 1) → le one u ≡ false
  below_capacity below =
      is_false _ (λ h.
      let reached = le_trans_positive one u high_u one_positive u_positive high_positive h u_le in
      subst T apart (le_trans_positive one high_u near one_positive high_positive (unfold round in tt) reached (high_near below)))

  -- and no saturation is more than 1 + 2^-20
  pub saturation_close : T (le u just_above)
  saturation_close = le_trans_positive u high_u just_above u_positive high_positive (unfold round in tt) u_le high_close
