-- A list of figures by number holds the largest of none, and of one more figure each.
use Rattle.std.specs.Prelude.{ℕ, ◌+◌, max, List, replicate}
use Rattle.std.proofs.Common.{sym, ◌∙◌}
use Rattle.std.proofs.lemmas.List.{length-replicate, get_or-replicate}
use Rattle.laws.proofs.Largest.{largest_none, largest_next}
use Rattle.laws.specs.Largest.{largest_of}
use Rattle.laws.specs.ByNumber.{ByNumber, by_number_same}

module _ {size : ℕ} where
  -- the largest figures of none, and of one more
  module _ (figure : ℕ → ℕ → ℕ) where
    pub by_number_none : ByNumber size (λ f. largest_of (figure f) 0) (replicate size 0)
    by_number_none =
        record { long = length-replicate {A = ℕ} size 0; each = λ i low. get_or-replicate {A = ℕ} size i 0 0 low ∙ sym (largest_none _) }

    pub by_number_next : (k : ℕ) (l : List ℕ) → ByNumber size (λ f. max (largest_of (figure f) k) (figure f k)) l
        → ByNumber size (λ f. largest_of (figure f) (k + 1)) l
    by_number_next k l by = by_number_same _ _ l by (λ f. sym (largest_next (figure f) k))
