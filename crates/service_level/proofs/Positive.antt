-- A, B and the delay are finite and above 0 wherever they are worked out; so a delay is never a NaN, an infinity or 0.
use Rattle.std.specs.Prelude.{ℕ, ◌+◌, false, ◌≡◌, T, Float}
use Rattle.std.proofs.Common.{arith, lit≤}
use Rattle.std.specs.Float.{binary64}
use Rattle.std.specs.Float.Ieee.{round, sum, add, sub, mul, div, lt, eq, le, of_int}
use Rattle.std.specs.Float.Ieee.Fits.{div-fits}
use Rattle.std.specs.Float.Ieee.Positive.{positive}
use Rattle.service_level.specs.Delays.{whole, nine_tenths, green_share, saturation_of, term_a, term_b, delay_of}
use Rattle.service_level.proofs.Divisors.{cycle_ranged, flow_ranged, g_ranged, g_below, u_short, red_ranged, free_ranged}
use Rattle.service_level.specs.Divisors.{Numbers}
use Rattle.service_level.specs.lemmas.Ranged.{Ranged, ranged_positive, one, step, at_itself, times, over, plus, less_ranged}
use Rattle.service_level.specs.Positive.{least_a, most_a, least_b, least_d, most_d}

factor_ranged : Ranged nine_tenths nine_tenths nine_tenths
factor_ranged =
    record { least = unfold round in tt; most = unfold round in tt; from = unfold le lt eq round in tt; to = unfold le lt eq round in tt }

module _ (length cycle flow s : ℕ) (in_range : Numbers length cycle flow s) where
  abbrev g : Float
  g = green_share length cycle

  abbrev u : Float
  u = saturation_of g flow s

  module _ (red : le one g ≡ false) (free : le one u ≡ false) where
    -- 1 - g
    rest_ranged : Ranged step (sub binary64 one g) one
    rest_ranged =
        less_ranged g (ranged_positive (g_ranged length cycle flow s in_range)) (div-fits binary64 (whole (length + 1)) (whole cycle))
        (g_below length cycle flow s in_range red free)

    term_a_ranged : Ranged least_a (term_a g u) most_a
    unfolding term_a
    term_a_ranged =
        over (times rest_ranged rest_ranged (unfold mul round of_int in tt) (unfold mul round of_int in tt))
        (red_ranged length cycle flow s in_range red free)
        (unfold mul div round of_int in tt) (unfold mul div round of_int in tt)

    term_b_ranged : Ranged least_b (term_b u) most_a
    unfolding term_b
    term_b_ranged =
        let below = u_short length cycle flow s in_range red free in
        over (times below below (unfold mul div round of_int in tt) (unfold mul round of_int in tt))
        (free_ranged length cycle flow s in_range red free)
        (unfold mul div round of_int in tt) (unfold mul div round of_int in tt)

    pub term_a_positive : T (positive (term_a g u))
    term_a_positive = ranged_positive term_a_ranged

    pub term_b_positive : T (positive (term_b u))
    term_b_positive = ranged_positive term_b_ranged

    pub delay_ranged : Ranged least_d (delay_of cycle flow (term_a g u) (term_b u)) most_d
    unfolding delay_of
    delay_ranged =
        let uniform = times (cycle_ranged length cycle flow s in_range) term_a_ranged (unfold mul div round of_int in tt)
        (unfold mul div round of_int in tt) in
        let random = over (times (at_itself 3600 (omega arith) (lit≤ tt)) term_b_ranged (unfold mul div round of_int in tt)
        (unfold mul div round of_int in tt))
        (flow_ranged length cycle flow s in_range) (unfold mul div round of_int in tt) (unfold mul div round of_int in tt) in
        let both = plus uniform random (unfold add sum mul div round of_int in tt) (unfold add sum mul div round of_int in tt) in
        times factor_ranged both (unfold add sum mul div round of_int in tt) (unfold add sum mul div round of_int in tt)

    pub delay_positive : T (positive (delay_of cycle flow (term_a g u) (term_b u)))
    delay_positive = ranged_positive delay_ranged
