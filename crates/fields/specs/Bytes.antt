-- Fields of a file: a tag of one byte, a body length of two, the body (document 01, "The junction file").
use Rattle.std.specs.Prelude.{ℕ, ◌+◌, ◌-◌, ◌*◌, ◌≤◌, Bool, true, ◌&&◌, List, ◌≡◌, leb, length, get_or, take, drop}
use Rattle.std.proofs.Common.{le-add_right, arith, ap, leb-true, leb-false}
use Rattle.std.proofs.Math.Nat.{add-sub_cancel_left}
use Rattle.std.proofs.lemmas.Bool.{lt-leb}
use Rattle.laws.specs.Tests.{by_test, both_left, both_right}
use Rattle.std.proofs.Math.ListN.{get_or-eq_default}

-- the byte at a place, 0 past the end
unfoldable pub byte_at : List ℕ → ℕ → ℕ
byte_at s i = get_or s i 0

-- the number of two bytes at a place, high byte first
unfoldable pub number_at : List ℕ → ℕ → ℕ
number_at s i = byte_at s i * 256 + byte_at s (i + 1)

-- where the field at a place ends
unfoldable pub field_end : List ℕ → ℕ → ℕ
field_end s at = at + 3 + number_at s (at + 1)

-- three bytes and the body fit
unfoldable pub fits : List ℕ → ℕ → Bool
fits s at = leb (at + 3) (length s) && leb (field_end s at) (length s)

unfoldable pub body_of : List ℕ → ℕ → List ℕ
body_of s at = take (number_at s (at + 1)) (drop (at + 3) s)

pub byte_at_past : (s : List ℕ) (i : ℕ) → length s ≤ i → byte_at s i ≡ 0
unfolding byte_at
byte_at_past s i h = get_or-eq_default s 0 h

pub number_at_past : (s : List ℕ) (i : ℕ) → length s ≤ i → number_at s i ≡ 0
unfolding number_at
number_at_past s i h = simp (byte_at_past s i h, byte_at_past s (i + 1) (omega arith))

-- ranges, both ends included
unfoldable pub byte_in : List ℕ → ℕ → ℕ → ℕ → Bool
byte_in s i low high = leb low (byte_at s i) && leb (byte_at s i) high

unfoldable pub number_in : List ℕ → ℕ → ℕ → ℕ → Bool
number_in s i low high = leb low (number_at s i) && leb (number_at s i) high

pub fits_within : (s : List ℕ) (at : ℕ) → fits s at ≡ true → (at + 3 ≤ length s) × (field_end s at ≤ length s)
unfolding fits
fits_within s at t =
    (leb-true _ _ (both_left (leb (at + 3) (length s)) _ t), leb-true _ _ (both_right (leb (at + 3) (length s)) _ t))

pub field_long : (s : List ℕ) (at : ℕ) → at + 3 ≤ field_end s at
unfolding field_end
field_long s at = le-add_right (at + 3) _

-- a field fits exactly where its end lies within the file
pub fits_end : (s : List ℕ) (at : ℕ) → leb (field_end s at) (length s) ≡ fits s at
unfolding fits
fits_end s at =
    by_test (leb (at + 3) (length s)) (λ e. rw e)
    (λ e. rw (e, lt-leb (field_end s at) (length s) (omega (arith, leb-false (at + 3) (length s) e, field_long s at))))

-- the body is the part of the file from after the three bytes to the field's end
pub body_part : (s : List ℕ) (at : ℕ) → take (field_end s at - (at + 3)) (drop (at + 3) s) ≡ body_of s at
unfolding body_of field_end
body_part s at = ap (λ n. take n (drop (at + 3) s)) (add-sub_cancel_left (at + 3) _)
