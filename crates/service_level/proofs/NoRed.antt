-- The green's share is the quotient rounded once, and no red is told exactly where the green and one second fill the cycle.
use Rattle.std.specs.Prelude.{ℕ, ◌+◌, ◌*◌, ◌^◌, ◌≤◌, ◌<◌, false, ◌≡◌, T, leb, negsuc, Float}
use Rattle.std.proofs.Common.{mul-one, one-mul, arith, sym, ◌∙◌, lit≤, leb-true, leb-false}
use Rattle.std.proofs.Math.Path.{refl}
use Rattle.std.specs.Float.{fin}
use Rattle.std.specs.Float.Ieee.{binary64, round, le, of_int}
use Rattle.std.specs.Float.Ieee.Order.{round_mono}
use Rattle.std.specs.Float.Ieee.Positive.{num, den, positive, le→cross}
use Rattle.laws.specs.Ranges.{Between}
use Rattle.laws.specs.Tests.{by_test}
use Rattle.service_level.specs.Delays.{green_share}
use Rattle.service_level.specs.lemmas.Numbers.{is_true, is_false, num_some, quotient}
use Rattle.service_level.specs.lemmas.Ranged.{ranged_positive, one, one_positive, is_one_lem}
use Rattle.service_level.proofs.Divisors.{g_ranged}

-- the greatest share of a green short of its cycle, with cycles of 16 bits
abbrev short : Float
short = round binary64 false 65534 65535

is_short : short ≡ fin false 281470681677823 (negsuc 47)
is_short = unfold round in refl

module _ (length cycle : ℕ) (longest : length < 2 ^ 16) (cycles : Between 1 65535 cycle) where
  share : green_share length cycle ≡ round binary64 false (length + 1) cycle
  share = quotient (length + 1) cycle (omega arith) cycles.0 (omega arith) (omega arith)

  -- a green short of the cycle has a share of at most 65534/65535
  short_share : length + 1 < cycle → T (le (green_share length cycle) short)
  short_share h = rw share (round_mono binary64 (length + 1) cycle 65534 65535 cycles.0 (lit≤ tt) (omega arith))

  full_share : cycle ≤ length + 1 → T (le one (green_share length cycle))
  unfolding of_int
  full_share h = rw share (round_mono binary64 1 1 (length + 1) cycle (omega arith) cycles.0 (omega arith))

  share_positive : T (positive (green_share length cycle))
  share_positive =
      ranged_positive
      (g_ranged length cycle 1 1
      (record { of_length = longest; of_cycle = cycles; of_flow = omega arith; of_s = omega arith }))

  not_full : length + 1 < cycle → T (le one (green_share length cycle)) → ⊥
  not_full h full =
      let g = green_share length cycle in
      let above : num one * den g ≤ num g * den one = le→cross one g one_positive share_positive full in
      let under : num g * 2 ^ 48 ≤ 281470681677823 * den g = rw is_short at (le→cross g short share_positive (unfold round in tt) (short_share h)) in
      let low : den g ≤ num g = simp (one-mul, mul-one) at (rw is_one_lem at above) in
      omega (arith, low, under, num_some g share_positive)

  pub no_red_exact : le one (green_share length cycle) ≡ leb cycle (length + 1)
  no_red_exact =
      by_test (leb cycle (length + 1))
      (λ t. is_true _ (full_share (leb-true _ _ t)) ∙ sym t)
      (λ t. is_false _ (not_full (leb-false _ _ t)) ∙ sym t)
