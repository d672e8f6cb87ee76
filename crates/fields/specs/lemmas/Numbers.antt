-- The numbers of refusals: number 0 says that nothing is refused, where every question's number is 1 or more.
use Rattle.std.specs.Prelude.{ℕ, ◌≤◌, Bool, true, false, ◌↔◌, ◌≡◌, refl, leb, Ok, Err}
use Rattle.std.proofs.Common.{arith, ap}
use Rattle.fields.specs.Verdict.{Verdict, Passed, number_of, ask, first_refusal, first_failing, ask_each}

-- no refusal, or one whose number is 1 or more
abbrev pub Numbered : Verdict → Type 0
Numbered (Ok u) = Unit {0}
Numbered (Err r) = 1 ≤ r.number

pub ask_numbered : (answer : Bool) (number place : ℕ) (later : Verdict) → 1 ≤ number → Numbered later → Numbered (ask answer number place later)
ask_numbered true number place later here there = there
ask_numbered false number place later here there = here

pub first_numbered : (v later : Verdict) → Numbered v → Numbered later → Numbered (first_refusal v later)
first_numbered (Ok u) later here there = there
first_numbered (Err r) later here there = here

pub each_numbered : (holds : ℕ → Bool) (number n : ℕ) (later : Verdict) → 1 ≤ number → Numbered later → Numbered (ask_each holds number n later)
unfolding ask_each
each_numbered holds number n later here there = ask_numbered (leb n (first_failing holds n)) number _ later here there

-- the number is 0 exactly where nothing is refused
pub passed_number : (v : Verdict) → Numbered v → (number_of v ≡ 0) ↔ (v ≡ Passed)
passed_number (Ok u) n = (λ e. refl, λ e. refl)
passed_number (Err r) n = (λ e. absurd (omega arith), λ e. ap number_of e)
