-- A junction file is taken exactly where it is, field by field, what documents 01 and 02 describe.
use Rattle.std.specs.Prelude.{ℕ, ◌+◌, ◌<◌, true, List, ◌≡◌}
use native.Mathlib.Omega.{arith}
use Rattle.std.proofs.Common.{sym, subst}
use Rattle.std.proofs.Math.Dec.{eqb}
use Rattle.std.proofs.Math.ListN.{length}
use borrow.Author.Tests.{eqb-true, eqb-false}
use Rattle.laws.specs.Ranges.{Between}
use Rattle.laws.specs.Tests.{by_test}
use Rattle.fields.specs.Bytes.{fits}
use Rattle.junction.specs.declared.Junction.{Junction}
use Rattle.junction.specs.Layout.{heading_length, heading_in_range}
use Rattle.junction_description.specs.File.{place, tag, body, StreamField, ZoneField, CountField}
use Rattle.junction_description.specs.lemmas.Holds.{Holds}

-- the fields read so far are right
pub record Part (s : List ℕ) (j : Junction) (streams zones counts : ℕ) : Type 0 where
  pub holds : Holds s j streams zones counts
  pub within : (i : ℕ) → i < streams + zones + counts + 1 → fits s (place s i) ≡ true
  pub heading : tag s 0 ≡ 1
  pub heading_long : length (body s 0) ≡ heading_length
  pub heading_ranged : heading_in_range (body s 0) ≡ true
  pub stream_fields : (n : ℕ) → Between 1 streams n → StreamField s n
  pub zone_fields : (n : ℕ) → Between 1 zones n → ZoneField s streams (streams + n)
  pub count_fields : (n : ℕ) → Between 1 counts n → CountField s streams (streams + zones + n)

-- what holds of the numbers from 1 to n and of n + 1 holds of those to n + 1
pub one_more : (P : ℕ → Type 0) (n : ℕ) → ((k : ℕ) → Between 1 n k → P k) → P (n + 1) → (k : ℕ) → Between 1 (n + 1) k → P k
one_more P n old new k w =
    by_test (eqb k (n + 1)) (λ e. subst P (sym (eqb-true k (n + 1) e)) new)
    (λ e. let differ = eqb-false k (n + 1) e in old k (omega arith))

pub one_fits : (s : List ℕ) (n : ℕ) → ((i : ℕ) → i < n + 1 → fits s (place s i) ≡ true) → fits s (place s (n + 1)) ≡ true
    → (i : ℕ) → i < n + 1 + 1 → fits s (place s i) ≡ true
one_fits s n old new i h =
    by_test (eqb i (n + 1)) (λ e. rw (eqb-true i (n + 1) e) new) (λ e. let differ = eqb-false i (n + 1) e in old i (omega arith))

module _ (s : List ℕ) where
  abbrev pub Some : ℕ → Junction → Type 0
  Some i j = (n z c : ℕ) × (i ≡ n + z + c + 1) × Part s j n z c
