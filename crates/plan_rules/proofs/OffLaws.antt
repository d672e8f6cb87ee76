-- `off` is document 01's (start b - start a) modulo C, for starts below C.
use Rattle.std.specs.Prelude.{ℕ, ◌+◌, ◌-◌, ◌≤◌, ◌<◌, ◌%◌, ◌≡◌, leb}
use Rattle.std.proofs.Common.{mod-eq_of_lt, arith, sym, ◌∙◌, ap, leb-true, leb-false, le-leb}
use Rattle.std.proofs.Math.Nat.{add-mod_right}
use Rattle.std.proofs.lemmas.Bool.{lt-leb}
use Rattle.laws.specs.Tests.{by_test}
use Rattle.plan_rules.specs.Rules.{off}

module _ (cycle from to : ℕ) where
  pub off_after : from ≤ to → off cycle from to ≡ to - from
  unfolding off
  off_after h = rw (le-leb from to h)

  pub off_before : to < from → off cycle from to ≡ to + cycle - from
  unfolding off
  off_before h = rw (lt-leb from to h)

  pub off_modulo : from < cycle → to < cycle → off cycle from to ≡ (to + cycle - from) % cycle
  off_modulo a b =
      by_test (leb from to)
      (λ e. let order : from ≤ to = leb-true _ _ e in
      let past : to + cycle - from ≡ to - from + cycle = omega arith in
      off_after order ∙ sym (ap (λ n. n % cycle) past ∙ add-mod_right (to - from) cycle ∙ mod-eq_of_lt (omega arith)))
      (λ e. let order : to < from = leb-false _ _ e in off_before order ∙ sym (mod-eq_of_lt (omega arith)))
