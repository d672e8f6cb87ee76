-- A printed delay and its level never contradict each other: the level of the printed tenths is that of the unrounded delay. A saturation from 1
-- to 1 + 2^-20, as every one that is told, is printed as 1.0.
use Rattle.std.specs.Prelude.{ℕ, suc, ◌+◌, ◌*◌, ◌^◌, ◌≤◌, ◌<◌, false, ◌≡◌, T, pos, Float}
use Rattle.std.proofs.Math.Nat.{mul-one}
use Rattle.std.proofs.Common.{eq-or-lt_of_le, arith, sym, ◌∙◌, subst, lit≤, pow_pos}
use Rattle.std.proofs.Math.Bool.{true}
use Rattle.std.proofs.Math.Logic.{⊎_elim}
use Rattle.std.proofs.Math.Path.{refl}
use Rattle.std.proofs.Math.Dec.{leb}
use Rattle.std.specs.Float.{fin}
use Rattle.std.specs.Float.Ieee.{binary64, round, sum, add, mul, div, lt, eq, le, of_int, fits}
use Rattle.std.specs.Float.Ieee.Fits.{mul-fits}
use Rattle.std.specs.Float.Ieee.Order.{round_mono}
use Rattle.std.specs.Float.Ieee.Positive.{num, den, positive, den_pos, own_value, le→cross, le_trans_positive, mul_at}
use borrow.Author.Tests.{leb-true, leb-false}
use Rattle.laws.specs.Ranges.{Between}
use Rattle.laws.specs.Tests.{by_test}
use Rattle.service_level.specs.Capacity.{just_above}
use Rattle.service_level.specs.Delays.{whole, green_share, saturation_of, term_a, term_b, delay_of, delay_level}
use Rattle.service_level.specs.Divisors.{Numbers}
use Rattle.service_level.proofs.Positive.{delay_ranged}
use Rattle.service_level.specs.lemmas.Numbers.{is_true, is_false, whole_value, whole_positive}
use Rattle.service_level.specs.lemmas.Ranged.{Ranged, ranged_positive, at_itself, times, one, one_positive}
use Rattle.tenths.specs.lemmas.Compared.{whole_test, up_least, next_above}
use Rattle.tenths.specs.Tenths.{tenfold, tenths_up, tenths_down, level_of_tenths}

-- a delay is at most a level's limit exactly where its tenfold, rounded, is at most the limit's
module _ (d : Float) (p : T (positive d)) (q : T (positive (tenfold d))) (f : T (fits binary64 d)) where
  tenfold_is : tenfold d ≡ round binary64 false (num d * 10) (den d * 1)
  tenfold_is =
      mul_at binary64 d (whole 10) (num d) (den d) 10 1 p (whole_positive 10 (omega arith) (lit≤ tt)) (den_pos d) (omega arith) (own_value d p)
      (whole_value 10 (lit≤ tt))

  -- the tenfold of the number next above the limit, rounded
  abbrev next_tenfold : ℕ → ℕ → Float
  next_tenfold n b = round binary64 false ((n * 2 ^ b + 1) * 10) (2 ^ b)

  -- up to the limit, and above it
  low : (n : ℕ) → num d ≤ n * den d → T (le (tenfold d) (whole (10 * n)))
  unfolding of_int
  low n h = rw tenfold_is (round_mono binary64 (num d * 10) (den d * 1) (10 * n) 1 (rw mul-one (den_pos d)) (omega arith) (omega (arith, h)))

  high : (n b : ℕ) → 2 ^ 53 ≤ n * 2 ^ suc b → n * den d < num d → T (le (next_tenfold n b) (tenfold d))
  high n b wide h =
      let far = next_above d p f n b wide h in
      rw tenfold_is
      (round_mono binary64 ((n * 2 ^ b + 1) * 10) (2 ^ b) (num d * 10) (den d * 1) (pow_pos b) (rw mul-one (den_pos d)) (omega (arith, far)))

  -- where the number next above the limit n, of which b digits come after the point, has a tenfold above the limit's
  limit_kept : (n b : ℕ) → le (next_tenfold n b) (whole (10 * n)) ≡ false → T (positive (next_tenfold n b))
      → 2 ^ 53 ≤ n * 2 ^ suc b → Between 1 999 n
      → leb (tenths_up d) (10 * n) ≡ le d (whole n)
  limit_kept n b apart there wide range =
      let exact = whole_test d p n (omega (arith, range)) in
      let ten-some = whole_positive (10 * n) (omega (arith, range)) (omega (arith, range)) in
      up_least d q (10 * n) (omega (arith, range))
      ∙ by_test (leb (num d) (n * den d))
      (λ t. is_true _ (low n (leb-true _ _ t)) ∙ sym (exact ∙ t))
      (λ t. let above = high n b wide (leb-false _ _ t) in
      is_false _ (λ h. subst T apart (le_trans_positive (next_tenfold n b) (tenfold d) (whole (10 * n)) there q ten-some above h)) ∙ sym (exact ∙ t))

  -- the level of the printed tenths is that of the delay
  pub printed_level : level_of_tenths (tenths_up d) ≡ delay_level d
  unfolding level_of_tenths delay_level
  printed_level =
      let a : leb (tenths_up d) 250 ≡ le d (whole 25) =
      limit_kept 25 48 (unfold le lt eq round of_int in refl) (unfold round in tt) (lit≤ tt) (omega arith) in
      let b : leb (tenths_up d) 350 ≡ le d (whole 35) =
      limit_kept 35 47 (unfold le lt eq round of_int in refl) (unfold round in tt) (lit≤ tt) (omega arith) in
      let c : leb (tenths_up d) 500 ≡ le d (whole 50) =
      limit_kept 50 47 (unfold le lt eq round of_int in refl) (unfold round in tt) (lit≤ tt) (omega arith) in
      let e : leb (tenths_up d) 700 ≡ le d (whole 70) =
      limit_kept 70 46 (unfold le lt eq round of_int in refl) (unfold round in tt) (lit≤ tt) (omega arith) in
      let g : leb (tenths_up d) 1000 ≡ le d (whole 100) =
      limit_kept 100 46 (unfold le lt eq round of_int in refl) (unfold round in tt) (lit≤ tt) (omega arith) in
      simp (a, b, c, e, g)

-- a number from 1 to 1 + 2^-20 has 10 tenths, rounded down
is_ten : whole 10 ≡ fin false 5 (pos 1)
is_ten = unfold of_int in refl

tens : (t : Float) → T (positive t) → T (le (whole 10) t) → 10 * den t ≤ num t
tens t p h = rw mul-one at (rw is_ten at (le→cross (whole 10) t (whole_positive 10 (omega arith) (lit≤ tt)) p h))

one_tenfold : tenfold one ≡ whole 10
one_tenfold = unfold mul round of_int in refl

above_tenfold : le (whole 11) (tenfold just_above) ≡ false
above_tenfold = unfold le lt eq mul round of_int in refl

ten_ranged : Ranged (whole 10) (whole 10) (whole 10)
ten_ranged = at_itself 10 (omega arith) (lit≤ tt)

module _ (x : Float) (r : Ranged one x just_above) where
  t_ranged : Ranged (tenfold one) (tenfold x) (tenfold just_above)
  t_ranged = times r ten_ranged (unfold mul round of_int in tt) (unfold mul round of_int in tt)

  p : T (positive (tenfold x))
  p = ranged_positive t_ranged

  reached : T (le (whole 10) (tenfold x))
  reached = subst (λ (v : Float). T (le v (tenfold x))) one_tenfold t_ranged.from

  up_reached : 10 ≤ tenths_up x
  up_reached =
      let t = tenfold x in
      by_test (leb (tenths_up x) 9)
      (λ e. let few = leb-true (num t) (9 * den t) (sym (whole_test t p 9 (lit≤ tt)) ∙ sym (up_least x p 9 (omega arith)) ∙ e) in
      absurd (omega (arith, few, tens t p reached, den_pos t)))
      (λ e. leb-false _ _ e)

  eleven_some : T (positive (whole 11))
  eleven_some = whole_positive 11 (omega arith) (lit≤ tt)

  up_most : tenths_up x ≤ 11
  up_most =
      let within = le_trans_positive (tenfold x) (tenfold just_above) (whole 11) p t_ranged.most eleven_some t_ranged.to
      (unfold le lt eq mul round of_int in tt) in
      leb-true _ _ (up_least x p 11 (omega arith) ∙ is_true _ within)

  below_eleven : le (whole 11) (tenfold x) ≡ false
  below_eleven =
      is_false _ (λ h. subst T above_tenfold
      (le_trans_positive (whole 11) (tenfold x) (tenfold just_above) eleven_some p t_ranged.most h t_ranged.to))

  pub down_ten : tenths_down x ≡ 10
  unfolding tenths_down
  down_ten =
      ⊎_elim (λ (same : 10 ≡ tenths_up x). let full : le (whole 10) (tenfold x) ≡ true = is_true _ reached in rw (← same, full))
      (λ (more : 10 < tenths_up x). let is : tenths_up x ≡ 11 = omega (arith, up_most) in rw (is, below_eleven))
      (eq-or-lt_of_le up_reached)

-- the delay and the saturation of a green, a flow and a saturation flow, as they are printed
module _ (length cycle flow s : ℕ) (in_range : Numbers length cycle flow s) where
  abbrev g : Float
  g = green_share length cycle

  abbrev u : Float
  u = saturation_of g flow s

  abbrev d : Float
  d = delay_of cycle flow (term_a g u) (term_b u)

  pub delay_printed : le (whole 1) g ≡ false → le (whole 1) u ≡ false → level_of_tenths (tenths_up d) ≡ delay_level d
  delay_printed red free =
      let ranged = delay_ranged length cycle flow s in_range red free in
      let tenfold-ranged = times ranged ten_ranged (unfold add sum mul div round of_int in tt) (unfold add sum mul div round of_int in tt) in
      printed_level d (ranged_positive ranged) (ranged_positive tenfold-ranged) (unfold delay_of in mul-fits binary64 _ _)

  pub saturation_printed : T (le (whole 1) u) → T (le u just_above) → tenths_down u ≡ 10
  saturation_printed over next = down_ten u (record { least = one_positive; most = unfold round in tt; from = over; to = next })
