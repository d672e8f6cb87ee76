-- What is worked out from a junction file, and what a lent buffer then holds: the junction's questions first, then 21, 22 and 23.
use Rattle.fields.specs.declared.Refusal.{Refusal}
use Rattle.std.specs.Prelude.{ℕ, Bool, cond, List, ltb, length, Result}
use Rattle.fields.specs.Verdict.{ask, is_refused, Verdict, Passed, answered}
use Rattle.junction.specs.declared.Junction.{Junction}
use Rattle.junction_file.specs.Reading.{reading}
use Rattle.plan_file.specs.Writing.{plan_size, has_room, written}
use Rattle.cycle_search.specs.Planning.{ratios, first_tried, plan_at, cycle, found}
use Rattle.planner.specs.declared.WorkedOut.{WorkedOut}
use Rattle.limits.specs.Limits.{no_cycle}

-- 22: is there a cycle? 23: does the lent buffer hold the plan file? Place 0
abbrev pub searched : ℕ → Bool → Verdict
searched c room = ask (ltb c no_cycle) 22 0 (ask room 23 0 Passed)

-- before them 21: is Y below 10,000?
unfoldable pub calculation : ℕ → ℕ → Bool → Verdict
calculation y c room = ask (ltb y 10000) 21 0 (searched c room)

-- of a junction that is taken, with a buffer of so many bytes
unfoldable pub junction_verdict : Junction → ℕ → Verdict
junction_verdict j size = calculation (ratios j) (cycle j) (has_room j.held.streams size)

-- what is worked out: what the questions give, the cycle in seconds, how many lengths were tried and how many bytes the plan file has, each 0 where
-- something is refused
pub record Worked : Type 0 where
  pub verdict : Verdict
  pub cycle : ℕ
  pub tried : ℕ
  pub size : ℕ

-- the three numbers, or the refusal
abbrev pub worked_or_refused : Worked → Result WorkedOut Refusal
worked_or_refused w = answered w.verdict (record { cycle = w.cycle; tried = w.tried; size = w.size })

abbrev pub refusal : Verdict → Worked
refusal v = record { verdict = v; cycle = 0; tried = 0; size = 0 }

unfoldable pub junction_worked : Junction → ℕ → Worked
junction_worked j size =
    cond (is_refused (junction_verdict j size)) (refusal (junction_verdict j size))
    (record {
      verdict = junction_verdict j size;
      cycle = (found j (first_tried j)).cycle;
      tried = (found j (first_tried j)).tried;
      size = plan_size j.held.streams;
    })

-- the plan file from the first byte, later bytes untouched; a refusal alters no byte
unfoldable pub junction_buffer : Junction → List ℕ → List ℕ
junction_buffer j lent =
    cond (is_refused (junction_verdict j (length lent))) lent (written (plan_at j (cycle j)) j.held.streams lent)

-- of any file
unfoldable pub worked : List ℕ → ℕ → Worked
worked junction size =
    cond (is_refused (reading junction).verdict) (refusal (reading junction).verdict) (junction_worked (reading junction).junction size)

unfoldable pub buffer : List ℕ → List ℕ → List ℕ
buffer junction lent = cond (is_refused (reading junction).verdict) lent (junction_buffer (reading junction).junction lent)
