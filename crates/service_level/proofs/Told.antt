-- What is told of a stream: no red exactly where the green and one second fill the cycle; a delay that is finite and above 0; a saturation that is
-- finite and 1 or more.
use Rattle.std.specs.Prelude.{ℕ, ◌+◌, ◌≤◌, true, false, ◌↔◌, ◌≡◌, T, leb, Float}
use Rattle.std.proofs.Common.{arith, sym, ◌∙◌, subst}
use Rattle.std.proofs.Math.Path.{ap}
use Rattle.std.specs.Float.Ieee.{le}
use Rattle.std.specs.Float.Ieee.Positive.{positive}
use borrow.Author.Tests.{leb-true, le-leb}
use Rattle.laws.specs.Tests.{by_test}
use Rattle.service_level.specs.Delays.{green_share, saturation_of, term_a, term_b, delay_of, figures_of, service_of, outcome, value}
use Rattle.service_level.proofs.Divisors.{u_ranged}
use Rattle.service_level.specs.Divisors.{Numbers}
use Rattle.service_level.proofs.NoRed.{no_red_exact}
use Rattle.service_level.proofs.Positive.{delay_positive}
use Rattle.service_level.specs.lemmas.Ranged.{ranged_positive, one}
use Rattle.service_level.specs.declared.Service.{Service}
use Rattle.service_level.specs.declared.Service.TheVariants.{Delay, Oversaturated, NoRed}

module _ (length cycle flow s : ℕ) (in_range : Numbers length cycle flow s) where
  abbrev g : Float
  g = green_share length cycle

  abbrev u : Float
  u = saturation_of g flow s

  abbrev told : Service
  told = service_of (figures_of length cycle flow s)

  -- by the two tests
  without_red : le one g ≡ true → told ≡ NoRed
  unfolding service_of figures_of
  without_red full = simp full

  saturated : le one g ≡ false → le one u ≡ true → told ≡ Oversaturated u
  unfolding service_of figures_of
  saturated red over = simp (red, over)

  delayed : le one g ≡ false → le one u ≡ false → told ≡ Delay (delay_of cycle flow (term_a g u) (term_b u))
  unfolding service_of figures_of
  delayed red free = simp (red, free)

  -- two answers that are told alike have one number
  same_number : (a b : Service) → told ≡ a → told ≡ b → outcome a ≡ outcome b
  same_number a b p q = ap outcome (sym p ∙ q)

  pub no_red_told : (told ≡ NoRed) ↔ (cycle ≤ length + 1)
  unfolding outcome
  no_red_told =
      let exact = no_red_exact length cycle in_range.of_length in_range.of_cycle in (
        λ e. by_test (leb cycle (length + 1)) (λ t. leb-true _ _ t)
            (λ t. let red = exact ∙ t in
            by_test (le one u)
            (λ v. absurd (omega (arith, same_number _ _ (saturated red v) e)))
            (λ v. absurd (omega (arith, same_number _ _ (delayed red v) e)))),
        λ h. without_red (exact ∙ le-leb _ _ h),
      )

  -- where a delay is told, both tests fail, and it is d of the formulas
  delay_is : (d : Float) → told ≡ Delay d → (le one g ≡ false) × (le one u ≡ false) × (delay_of cycle flow (term_a g u) (term_b u) ≡ d)
  unfolding outcome value
  delay_is d e =
      by_test (le one g) (λ full. absurd (omega (arith, same_number _ _ (without_red full) e)))
      (λ red. by_test (le one u)
      (λ over. absurd (omega (arith, same_number _ _ (saturated red over) e)))
      (λ free. (red, free, ap value (sym (delayed red free) ∙ e))))

  pub delay_told : (d : Float) → told ≡ Delay d → T (positive d)
  delay_told d e =
      let is = delay_is d e in
      subst (λ (x : Float). T (positive x)) is.2 (delay_positive length cycle flow s in_range is.0 is.1)

  -- where a saturation is told, it is u
  saturation_is : (x : Float) → told ≡ Oversaturated x → (le one g ≡ false) × (le one u ≡ true) × (u ≡ x)
  unfolding outcome value
  saturation_is x e =
      by_test (le one g) (λ full. absurd (omega (arith, same_number _ _ (without_red full) e)))
      (λ red. by_test (le one u)
      (λ over. (red, over, ap value (sym (saturated red over) ∙ e)))
      (λ free. absurd (omega (arith, same_number _ _ (delayed red free) e))))

  pub saturation_told : (x : Float) → told ≡ Oversaturated x → T (positive x) × T (le one x)
  saturation_told x e =
      let is = saturation_is x e in
      subst (λ (v : Float). T (positive v) × T (le one v)) is.2
      (ranged_positive (u_ranged length cycle flow s in_range), subst T (sym is.1) tt)
