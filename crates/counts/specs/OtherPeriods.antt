-- Counts of other periods have no effect on the choice (document 02, 2026-04), over any two sequences of counts: the same counts in the period
-- asked for give the same highest rank.
use Rattle.std.specs.Prelude.{ℕ, ◌<◌, ◌↔◌, ◌≡◌}
use Rattle.counts.specs.declared.Count.{Count}

-- a count is one of the first n
pub record Listed (counts : ℕ → Count) (n : ℕ) (c : Count) : Type 0 where
  pub place : ℕ
  pub held : place < n
  pub there : counts place ≡ c

-- each count of a period among the first n of the one is among the first m of the other, and the other way, in whatever order; counts of other
-- periods may differ, in number too
abbrev pub SameInPeriod : ℕ → (ℕ → Count) → ℕ → (ℕ → Count) → ℕ → Type 0
SameInPeriod period counts n others m = (c : Count) → c.period ≡ period → Listed counts n c ↔ Listed others m c
