-- What a usable count is, and that it alone has a rank (document 01, "The junction file"; document 02, 2026-04).
use Rattle.std.specs.Prelude.{◌+◌, ◌*◌, ◌≤◌, ◌<◌, ◌≡◌}
use Rattle.std.proofs.Common.{arith}
use Rattle.std.proofs.Math.Bool.{and-eq-true_iff}
use borrow.Author.Tests.{leb-true, le-leb, eqb-true, eq-eqb}
use Rattle.laws.specs.Ranges.{Between}
use Rattle.laws.specs.Tests.{by_test}
use Rattle.counts.specs.Newest.{usable, rank}
use Rattle.counts.specs.declared.Count.{Count}
use Rattle.counts.specs.declared.Wanted.{Wanted}
use Rattle.limits.specs.Limits.{least_flow, greatest_flow, least_period, greatest_period}

-- a count is of the stream asked for, not after the design day, of the period asked for, with a period and a flow in range
pub record Usable (w : Wanted) (c : Count) : Type 0 where
  pub of_stream : c.stream ≡ w.stream
  pub not_after : c.day ≤ w.day
  pub in_period : c.period ≡ w.period
  pub period : Between least_period greatest_period c.period
  pub flow : Between least_flow greatest_flow c.flow

module _ (w : Wanted) (c : Count) where
  -- its rank holds its day and its flow
  pub usable_rank : Usable w c → rank w c ≡ c.day * 65536 + c.flow
  unfolding rank usable
  usable_rank u =
      simp (
        eq-eqb _ _ u.of_stream,
        le-leb _ _ u.not_after,
        eq-eqb _ _ u.in_period,
        le-leb _ _ u.period.0,
        le-leb _ _ u.period.1,
        le-leb _ _ u.flow.0,
        le-leb _ _ u.flow.1,
      )

  -- a count with a rank is usable
  pub ranked_usable : 0 < rank w c → Usable w c
  unfolding rank usable
  ranked_usable r =
      by_test (usable w c)
      (λ e. let facts = simp and-eq-true_iff at e in omega (arith, leb-true, eqb-true))
      (λ e. let none : 0 < 0 = rw e at r in absurd (omega arith))
