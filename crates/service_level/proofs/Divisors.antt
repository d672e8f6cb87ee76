-- No divisor of the delay's formulas is 0: each is finite and above 0, also after rounding.
use Rattle.std.specs.Prelude.{ℕ, ◌+◌, ◌-◌, ◌*◌, ◌^◌, ◌≤◌, ◌<◌, false, ◌≡◌, negsuc, Float}
use Rattle.std.proofs.Common.{le_of_lt, le_of_eq, le_trans, mul-le-mul, mul_assoc, mul_right_comm, mul-pos, arith, lit≤}
use Rattle.std.proofs.Math.Path.{refl}
use Rattle.std.specs.Float.{fin}
use Rattle.std.specs.Float.Ieee.{binary64, round, sub, mul, div, le, of_int}
use Rattle.std.specs.Float.Ieee.Fits.{mul-fits, div-fits}
use Rattle.std.specs.Float.Ieee.Order.{round_mono}
use Rattle.std.specs.Float.Ieee.Positive.{num, den, den_pos, own_value, le→cross, mul_at}
use Rattle.service_level.specs.Delays.{whole, green_share, saturation_of}
use Rattle.service_level.specs.lemmas.Ranged.{Ranged, ranged_positive, one, one_positive, two, step, whole_ranged, at_itself, times, over}
use Rattle.service_level.specs.lemmas.Ranged.{short_of_one, less_ranged, below_one, at_most_one}
use Rattle.service_level.specs.Divisors.{Numbers, top, least_g, most_g, most_capacity, least_u, Divisors}

is_top : top ≡ fin false (2 ^ 53 - 1) (negsuc 52)
is_top = unfold round in refl

module _ (length cycle flow s : ℕ) (in_range : Numbers length cycle flow s) where
  abbrev pub g : Float
  g = green_share length cycle

  abbrev pub u : Float
  u = saturation_of g flow s

  pub cycle_ranged : Ranged one (whole cycle) (whole 65535)
  cycle_ranged = whole_ranged cycle 65535 in_range.of_cycle (lit≤ tt)

  pub flow_ranged : Ranged one (whole flow) (whole 65535)
  flow_ranged = whole_ranged flow 65535 in_range.of_flow (lit≤ tt)

  pub g_ranged : Ranged least_g g most_g
  g_ranged =
      over (whole_ranged (length + 1) 65536 (omega (arith, in_range.of_length)) (lit≤ tt)) cycle_ranged (unfold div round of_int in tt)
      (unfold div round of_int in tt)

  pub capacity_ranged : Ranged (mul binary64 least_g one) (mul binary64 g (whole s)) most_capacity
  capacity_ranged =
      times g_ranged (whole_ranged s (2 ^ 42) in_range.of_s (lit≤ tt)) (unfold mul div round of_int in tt) (unfold mul div round of_int in tt)

  pub u_ranged : Ranged least_u u (div binary64 (whole 65535) (mul binary64 least_g one))
  u_ranged = over flow_ranged capacity_ranged (unfold div mul round of_int in tt) (unfold div mul round of_int in tt)

  -- where the green is short of the cycle, and the flow below the capacity, by the tests
  module _ (red : le one g ≡ false) (free : le one u ≡ false) where
    pub g_below : num g < den g
    g_below = below_one g (ranged_positive g_ranged) red

    pub u_below : num u < den u
    u_below = below_one u (ranged_positive u_ranged) free

    pub u_short : Ranged least_u u one
    u_short =
        record {
          least = u_ranged.least;
          most = one_positive;
          from = u_ranged.from;
          to = at_most_one u (ranged_positive u_ranged) u_below;
        }

    -- g × u, rounded, is below 1 too
    product_ranged : Ranged (mul binary64 least_g least_u) (mul binary64 g u) top
    product_ranged =
        let p = ranged_positive g_ranged in
        let q = ranged_positive u_ranged in
        let few = short_of_one g p (div-fits binary64 (whole (length + 1)) (whole cycle)) g_below in
        let fewer : num g * 2 ^ 53 ≤ (2 ^ 53 - 1) * den g = omega (arith, few, g_below) in
        let both = mul-le-mul fewer (le_of_lt u_below) in
        record {
          least = unfold mul div round of_int in tt;
          most = unfold round in tt;
          from = (times g_ranged u_short (unfold mul div round of_int in tt) (unfold mul div round of_int in tt)).from;
          to =
              rw (mul_at binary64 g u (num g) (den g) (num u) (den u) p q (den_pos g) (den_pos u) (own_value g p) (own_value u q))
              (round_mono binary64 (num g * num u) (den g * den u) (2 ^ 53 - 1) (2 ^ 53) (mul-pos (den_pos g) (den_pos u)) (lit≤ tt)
              (le_trans (le_of_eq (mul_right_comm (num g) (num u) (2 ^ 53)))
              (le_trans both (le_of_eq (mul_assoc (2 ^ 53 - 1) (den g) (den u))))));
        }

    product_below : num (mul binary64 g u) < den (mul binary64 g u)
    product_below =
        let cross = le→cross (mul binary64 g u) top (ranged_positive product_ranged) product_ranged.most product_ranged.to in
        let part : num (mul binary64 g u) * 2 ^ 53 ≤ (2 ^ 53 - 1) * den (mul binary64 g u) = rw is_top at cross in
        omega (arith, den_pos (mul binary64 g u))

    twice : {x : Float} → Ranged step x one → Ranged (mul binary64 two step) (mul binary64 two x) (mul binary64 two one)
    twice r = times (at_itself 2 (omega arith) (lit≤ tt)) r (unfold mul round of_int in tt) (unfold mul round of_int in tt)

    -- the divisors of A and B
    pub red_ranged : Ranged (mul binary64 two step) (mul binary64 two (sub binary64 one (mul binary64 g u))) (mul binary64 two one)
    red_ranged = twice (less_ranged (mul binary64 g u) (ranged_positive product_ranged) (mul-fits binary64 g u) product_below)

    pub free_ranged : Ranged (mul binary64 two step) (mul binary64 two (sub binary64 one u)) (mul binary64 two one)
    free_ranged = twice (less_ranged u (ranged_positive u_ranged) (div-fits binary64 (whole flow) (mul binary64 g (whole s))) u_below)

pub divisors : (length cycle flow s : ℕ) → Numbers length cycle flow s
    → Divisors (green_share length cycle) (saturation_of (green_share length cycle) flow s) cycle flow s
divisors length cycle flow s r =
    record {
      of_g = ranged_positive (cycle_ranged length cycle flow s r);
      of_u = ranged_positive (capacity_ranged length cycle flow s r);
      of_a = λ red free. ranged_positive (red_ranged length cycle flow s r red free);
      of_b = λ red free. ranged_positive (free_ranged length cycle flow s r red free);
      of_d = ranged_positive (flow_ranged length cycle flow s r);
    }
