-- The bytes of a plan file, and a buffer that one is written into (document 01, "Judging a plan", and question 23).
-- The paper writes tags in hexadecimal: 11 is 17, 12 is 18.
use Rattle.std.specs.Prelude.{ℕ, zero, suc, ◌+◌, ◌*◌, ◌/◌, ◌%◌, ◌≤◌, Bool, true, ◌&&◌, cond, List, [], ◌∷◌, ◌++◌, ◌≡◌, refl, leb, length, take}
use Rattle.std.proofs.Common.{arith, ◌∙◌, ext_get_or, get_or-append-add, leb-true}
use Rattle.std.proofs.Math.Path.{sym}
use Rattle.std.proofs.Math.ListN.{drop, length-append, length-drop, get_or-append}
use Rattle.std.proofs.Math.Seq.{length-take-le, get_or-take, get_or-drop}
use Rattle.laws.specs.Tests.{by_test, both_left, both_right}
use Rattle.limits.specs.Limits.{most_streams}
use Rattle.fields.specs.Bytes.{byte_at}
use Rattle.plan_file.specs.Plans.{green_of}
use Rattle.plan_file.specs.declared.Green.{Green}
use Rattle.plan_file.specs.declared.Plan.{Plan}

-- field 11: tag, body length, cycle; numbers have two bytes, the high one first
unfoldable pub cycle_field : ℕ → List ℕ
cycle_field cycle = 17 ∷ 0 ∷ 2 ∷ cycle / 256 ∷ cycle % 256 ∷ []

-- field 12 of stream n: tag, body length, stream, start, length
unfoldable pub green_field : Green → ℕ → List ℕ
green_field g n = 18 ∷ 0 ∷ 5 ∷ n ∷ g.start / 256 ∷ g.start % 256 ∷ g.length / 256 ∷ g.length % 256 ∷ []

-- the fields 12 of so many streams, the first of them stream n's
unfoldable pub green_fields : Plan → ℕ → ℕ → List ℕ
green_fields p zero n = []
green_fields p (suc streams) n = green_field (green_of p n) n ++ green_fields p streams (n + 1)

-- the plan file of so many streams: field 11, then a field 12 for each of them in order
unfoldable pub plan_file : Plan → ℕ → List ℕ
plan_file p streams = cycle_field p.cycle ++ green_fields p streams 1

-- how long it is
unfoldable pub plan_size : ℕ → ℕ
plan_size streams = 5 + 8 * streams

pub greens_long : (p : Plan) (streams n : ℕ) → length (green_fields p streams n) ≡ 8 * streams
unfolding green_fields green_field
greens_long p zero n = refl
greens_long p (suc streams) n = omega (arith, greens_long p streams (n + 1))

pub plan_long : (p : Plan) (streams : ℕ) → length (plan_file p streams) ≡ plan_size streams
unfolding plan_file plan_size cycle_field
plan_long p streams = omega (arith, greens_long p streams 1)

-- question 23: a buffer of so many bytes holds the file, of at most 16 streams
unfoldable pub has_room : ℕ → ℕ → Bool
has_room streams size = leb streams most_streams && leb (plan_size streams) size

pub has_room_lem : (streams size : ℕ) → has_room streams size ≡ true → (streams ≤ most_streams) × (plan_size streams ≤ size)
unfolding has_room
has_room_lem streams size e = (leb-true _ _ (both_left (leb streams most_streams) _ e), leb-true _ _ (both_right (leb streams most_streams) _ e))

-- the buffer with the file from its first byte on, and later bytes as they were; where there is no room, no byte is altered
unfoldable pub written : Plan → ℕ → List ℕ → List ℕ
written p streams buffer = cond (has_room streams (length buffer)) (plan_file p streams ++ drop (plan_size streams) buffer) buffer

module _ (p : Plan) (streams : ℕ) (buffer : List ℕ) where
  pub written_size : length (written p streams buffer) ≡ length buffer
  unfolding written
  written_size =
      by_test (has_room streams (length buffer))
      (λ e. rw e (length-append (plan_file p streams) (drop (plan_size streams) buffer)
      ∙ omega (arith, plan_long p streams, length-drop (plan_size streams) buffer, (has_room_lem streams (length buffer) e).1)))
      (λ e. rw e)

  -- where there is room the buffer begins with the file
  pub written_file : has_room streams (length buffer) ≡ true → take (plan_size streams) (written p streams buffer) ≡ plan_file p streams
  unfolding written
  written_file e =
      let n = plan_size streams in
      let long = plan_long p streams in
      let whole = length-append (plan_file p streams) (drop n buffer) in
      let size = length-take-le n (plan_file p streams ++ drop n buffer) (omega arith) in
      rw e
      (ext_get_or 0 _ _ (size ∙ sym long)
      (λ i h. get_or-take n _ i 0 (omega arith) ∙ get_or-append (plan_file p streams) (drop n buffer) 0 i (omega arith)))

  -- later bytes are untouched
  pub written_later : (k : ℕ) → byte_at (written p streams buffer) (plan_size streams + k) ≡ byte_at buffer (plan_size streams + k)
  unfolding written byte_at
  written_later k =
      by_test (has_room streams (length buffer))
      (λ e. rw (e, ← plan_long p streams) (get_or-append-add (plan_file p streams) (drop (length (plan_file p streams)) buffer) k 0
      ∙ get_or-drop (length (plan_file p streams)) buffer k 0))
      (λ e. rw e)
