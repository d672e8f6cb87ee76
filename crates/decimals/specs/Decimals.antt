-- Decimal numbers in a text: a digit or more and nothing else, each place worth ten times the next.
use Rattle.std.specs.Prelude.{ℕ, zero, suc, ◌+◌, ◌-◌, ◌*◌, ◌<◌, ◌≤◌, min, Bool, true, false, ◌&&◌, List, [], ◌∷◌, ◌≡◌, leb, length, get_or, Option, Some, None}
use Rattle.std.specs.Bool.{if◌then◌else◌}
use Rattle.std.proofs.Math.Nat.{min-eq_left, min-eq_right}
use Rattle.std.proofs.Common.{add-one, arith, leb-true, leb-false, sym}
use Rattle.std.proofs.lemmas.Bool.{le-leb, and_left, and_right}
use Rattle.std.proofs.lemmas.Option.{cond_some}
use Rattle.std.proofs.Math.Path.{refl}
use Rattle.laws.specs.Tests.{by_test}

-- a number above this counts as this
unfoldable pub most_decimal : ℕ
most_decimal = 1000000000000000000

-- `0` is 48, `9` is 57
abbrev pub is_digit : ℕ → Bool
is_digit byte = leb 48 byte && leb byte 57

-- the first n bytes of a text are digits
unfoldable pub all_digits : List ℕ → ℕ → Bool
all_digits s zero = true
all_digits s (suc n) = all_digits s n && is_digit (get_or s n 0)

-- and the number that they make
unfoldable pub value_of : List ℕ → ℕ → ℕ
value_of s zero = 0
value_of s (suc n) = 10 * value_of s n + (get_or s n 0 - 48)

-- the number that a whole text makes, as it counts
abbrev pub counted : List ℕ → ℕ
counted s = min (value_of s (length s)) most_decimal

unfoldable pub decimal_of : List ℕ → Option ℕ
decimal_of s = if leb 1 (length s) && all_digits s (length s) then Some (counted s) else None

-- `65546`, `007` and, with the bytes below and above the digits, `5/` and `5:`
pub texts_read : (decimal_of (54 ∷ 53 ∷ 53 ∷ 52 ∷ 54 ∷ []) ≡ Some 65546)
    × (decimal_of (48 ∷ 48 ∷ 55 ∷ []) ≡ Some 7)
    × (decimal_of (53 ∷ 47 ∷ []) ≡ None)
    × (decimal_of (53 ∷ 58 ∷ []) ≡ None)
    × (decimal_of [] ≡ None)
unfolding decimal_of all_digits value_of most_decimal
texts_read = (refl, refl, refl, refl, refl)

-- a number with a digit after it, counted as above
abbrev pub with_digit : ℕ → ℕ → ℕ
with_digit n byte = min (10 * n + (byte - 48)) most_decimal

-- what is above the most stays above it
counted_next : (x d most : ℕ) → min (10 * x + d) most ≡ min (10 * min x most + d) most
counted_next x d most =
    by_test (leb x most)
    (λ e. rw (min-eq_left (leb-true x most e)))
    (λ e. let above = leb-false x most e in
    let number : min x most ≡ most = min-eq_right (omega arith) in
    let next : min (10 * x + d) most ≡ most = min-eq_right (omega arith) in
    let counted : min (10 * most + d) most ≡ most = min-eq_right (omega arith) in
    rw (next, number, counted))

-- where a loop over the bytes begins and turns, and where it ends before the text does
module _ (s : List ℕ) where
  pub digits_none : all_digits s 0 ≡ true
  unfolding all_digits
  digits_none = refl

  pub digits_next : (n : ℕ) → all_digits s (n + 1) ≡ (all_digits s n && is_digit (get_or s n 0))
  unfolding all_digits
  digits_next n = rw (add-one n)

  pub value_none : min (value_of s 0) most_decimal ≡ 0
  unfolding value_of most_decimal
  value_none = refl

  pub value_next : (n : ℕ) → min (value_of s (n + 1)) most_decimal ≡ with_digit (min (value_of s n) most_decimal) (get_or s n 0)
  unfolding value_of
  value_next n = rw (add-one n) (counted_next (value_of s n) (get_or s n 0 - 48) most_decimal)

  pub digits_broken : (i n : ℕ) → i < n → is_digit (get_or s i 0) ≡ false → all_digits s n ≡ false
  unfolding all_digits
  digits_broken i zero below other = absurd (omega arith)
  digits_broken i (suc n) below other =
      by_test (leb n i)
      (λ e. let here : i ≡ n = let h = leb-true n i e in omega arith in and_right (all_digits s n) _ (rw (sym here) other))
      (λ e. and_left (all_digits s n) _ (digits_broken i n (leb-false n i e) other))

  pub number_empty : length s ≡ 0 → None ≡ decimal_of s
  unfolding decimal_of
  number_empty e = rw e refl

  pub number_broken : (i : ℕ) → i < length s → is_digit (get_or s i 0) ≡ false → None ≡ decimal_of s
  unfolding decimal_of
  number_broken i below other = rw (digits_broken i (length s) below other, and_right (leb 1 (length s)) false refl) refl

  pub number_whole : 1 ≤ length s → all_digits s (length s) ≡ true → decimal_of s ≡ Some (counted s)
  unfolding decimal_of
  number_whole some all = rw (all, le-leb 1 (length s) some) refl

  -- a text that is a number is the one that is counted
  pub number_is : (n : ℕ) → decimal_of s ≡ Some n → n ≡ counted s
  unfolding decimal_of
  number_is n e = sym ((cond_some _ _ _ e).1)

-- what the loop and the tests of `decimals::decimal` show
pub ruleset reading = (digits_none, digits_next, value_none, value_next, number_empty, number_broken, number_whole)
