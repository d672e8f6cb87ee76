-- What is refused: nothing exactly where the plan is accepted and the number is that of an existing car; the judge's refusal, number and place, where the
-- plan is not accepted; 9 with the number asked for where it is, and the number is that of no car.
use Rattle.std.specs.Prelude.{◌≡◌, refl, Ok, Err}
use Rattle.fields.specs.Verdict.{number_of, place_of, Verdict, Passed}
use Rattle.service_level.specs.declared.DelayFigures.{DelayFigures}
use Rattle.delays.specs.Answer.{Delayed, told, unless, refusal, refused_at}

-- the verdict's number and place
pub unless_number : (v : Verdict) (f : DelayFigures) → (refusal (unless v (told f)) ≡ number_of v) × (refused_at (unless v (told f)) ≡ place_of v)
unfolding unless told refusal refused_at
unless_number (Ok u) f = (refl, refl)
unless_number (Err r) f = (refl, refl)

-- where something is refused, what would be told has no part in the answer
pub unless_same : (v : Verdict) (x y : Delayed) → (v ≡ Passed → x ≡ y) → unless v x ≡ unless v y
unfolding unless
unless_same (Ok u) x y same = same refl
unless_same (Err r) x y same = refl
