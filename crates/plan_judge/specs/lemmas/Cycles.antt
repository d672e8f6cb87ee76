-- Two streams' greens in every pair of cycles, by the one number `off`: what the rule of a zone says for all of them, and in which pair it
-- is tight.
use Rattle.std.specs.Prelude.{ℕ, suc, ◌+◌, ◌-◌, ◌*◌, ◌≤◌, ◌<◌, ◌⊎◌, ◌≡◌, leb}
use Rattle.std.proofs.Common.{mul-le-mul_right, suc-mul, arith, inl, inr, leb-true, leb-false}
use Rattle.laws.specs.Tests.{by_test}
use Rattle.plan_rules.proofs.OffLaws.{off_after, off_before}
use Rattle.plan_rules.specs.Rules.{off}

-- among two cycles, the pair in which b's green is the next after a's, and the pair in which a's is the next after b's
pub record Next (C sa la sb lb : ℕ) : Type 0 where
  pub k : ℕ
  pub m : ℕ
  pub k_low : k < 2
  pub m_low : m < 2
  pub order : sb + m * C + lb ≤ sa + k * C → ⊥
  pub room : sa + k * C + la ≤ sb + m * C → la ≤ off C sa sb
  pub gap : sb + m * C - (sa + k * C + la) ≡ off C sa sb - la

pub record Again (C sa la sb lb : ℕ) : Type 0 where
  pub k : ℕ
  pub m : ℕ
  pub k_low : k < 2
  pub m_low : m < 2
  pub order : sa + k * C + la ≤ sb + m * C → ⊥
  pub room : sb + m * C + lb ≤ sa + k * C → off C sa sb + lb ≤ C
  pub gap : sa + k * C - (sb + m * C + lb) ≡ C - (off C sa sb + lb)

-- a cycle, and the start and length of the greens of streams a and b
module _ (C sa la sb lb : ℕ) (in_a : sa < C) (in_b : sb < C) (some_a : 1 ≤ la) (some_b : 1 ≤ lb) where
  later_cycle : (k m : ℕ) → k < m → k * C + C ≤ m * C
  later_cycle k m h = let whole : suc k * C ≤ m * C = mul-le-mul_right C h in omega (arith, suc-mul k C)

  -- where the rule holds, of a's green in cycle k and b's in cycle m one ends before the other begins, with its entry between
  pub all_cycles : (atob btoa : ℕ) → la + atob ≤ off C sa sb → off C sa sb + lb + btoa ≤ C → (k m : ℕ)
      → (sa + k * C + la + atob ≤ sb + m * C) ⊎ (sb + m * C + lb + btoa ≤ sa + k * C)
  all_cycles atob btoa x y k m =
      by_test (leb sa sb)
      (λ e. let order : sa ≤ sb = leb-true _ _ e in
      let is = off_after C sa sb order in
      by_test (leb k m)
      (λ f. let same : k * C ≤ m * C = mul-le-mul_right C (leb-true _ _ f) in inl (omega arith))
      (λ f. let more : m * C + C ≤ k * C = later_cycle m k (leb-false _ _ f) in inr (omega arith)))
      (λ e. let order : sb < sa = leb-false _ _ e in
      let is = off_before C sa sb order in
      by_test (leb m k)
      (λ f. let same : m * C ≤ k * C = mul-le-mul_right C (leb-true _ _ f) in inr (omega arith))
      (λ f. let more : k * C + C ≤ m * C = later_cycle k m (leb-false _ _ f) in inl (omega arith)))

  pub next : Next C sa la sb lb
  next =
      by_test (leb sa sb)
      (λ e. let first : sa ≤ sb = leb-true _ _ e in
      let is = off_after C sa sb first in
      record { k = 0; m = 0; k_low = omega arith; m_low = omega arith; order = λ h. omega arith; room = λ h. omega arith; gap = omega arith })
      (λ e. let first : sb < sa = leb-false _ _ e in
      let is = off_before C sa sb first in
      record { k = 0; m = 1; k_low = omega arith; m_low = omega arith; order = λ h. omega arith; room = λ h. omega arith; gap = omega arith })

  pub again : Again C sa la sb lb
  again =
      by_test (leb sa sb)
      (λ e. let first : sa ≤ sb = leb-true _ _ e in
      let is = off_after C sa sb first in
      record { k = 1; m = 0; k_low = omega arith; m_low = omega arith; order = λ h. omega arith; room = λ h. omega arith; gap = omega arith })
      (λ e. let first : sb < sa = leb-false _ _ e in
      let is = off_before C sa sb first in
      record { k = 0; m = 0; k_low = omega arith; m_low = omega arith; order = λ h. omega arith; room = λ h. omega arith; gap = omega arith })
