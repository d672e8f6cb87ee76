-- What it means that portable signals are answered, in the words of document 02, 2026-07, and of the annex, part B. In `Apart`, which is about every
-- pair of greens, neither the rule of a zone stands nor the rounded M.
--
-- Signals repeated for n cycles give an approach with start s and length g the greens that begin at s + k × C and end g later, for each k from 0 on,
-- below n.
use Rattle.std.specs.Prelude.{ℕ, ◌+◌, ◌-◌, ◌*◌, ◌≤◌, ◌<◌, true, ◌⊎◌, ◌≡◌}
use Rattle.laws.specs.Ranges.{Between}
use Rattle.limits.specs.Limits.{most_seconds}
use Rattle.flows.specs.Needs.{car_need}
use Rattle.stretches.specs.Nearest.{nearest}
use Rattle.stretches.specs.Table.{clearing_length}
use Rattle.plan_file.specs.declared.Green.{Green}
use Rattle.roadworks.specs.Roadworks.{intergreen}
use Rattle.roadworks.specs.declared.Approach.{Approach}
use Rattle.roadworks.specs.declared.Timing.{Timing}

-- an approach's green in cycle k: where it begins, and where it ends
abbrev pub begins : Green → ℕ → ℕ → ℕ
begins g cycle k = g.start + k * cycle

abbrev pub ends : Green → ℕ → ℕ → ℕ
ends g cycle k = begins g cycle k + g.length

-- so many seconds are 3 and the unrounded t, 3.6 × clearing length/speed, or more
abbrev pub ClearedIn : ℕ → ℕ → ℕ → Type 0
ClearedIn stretch speed seconds = 36 * clearing_length stretch + 30 * speed ≤ seconds * (10 * speed)

-- the green of one approach in its cycle k ends before that of the other in its cycle m begins, and the stretch is cleared between them
abbrev pub Before : ℕ → ℕ → ℕ → Green → Green → ℕ → ℕ → Type 0
Before stretch speed cycle earlier later k m =
    (ends earlier cycle k ≤ begins later cycle m) × ClearedIn stretch speed (begins later cycle m - ends earlier cycle k)

-- one of the two is the earlier
abbrev pub Apart : ℕ → ℕ → ℕ → Green → Green → ℕ → ℕ → Type 0
Apart stretch speed cycle a b k m = Before stretch speed cycle a b k m ⊎ Before stretch speed cycle b a m k

-- an approach has its needed green and its capacity at a length ..
abbrev pub Enough : Approach → Green → ℕ → Type 0
Enough a g cycle = (car_need ≤ g.length) × (a.flow * cycle ≤ a.saturation * (g.length + 1))

-- .. and its available waiting length is above flow × C/600 m
pub record HasEnough (a : Approach) (g : Green) (cycle : ℕ) : Type 0 where
  pub enough : Enough a g cycle
  pub waiting : a.flow * cycle < 600 * a.waiting

pub record Signals (stretch speed : ℕ) (a b : Approach) (x : Timing) : Type 0 where
  -- t and L are the tenths nearest to 3.6 × clearing length/speed and to 2t + 4 from the unrounded t
  pub clearing : nearest x.table.clearing (36 * clearing_length stretch) speed ≡ true
  pub lost : nearest x.table.lost (2 * (36 * clearing_length stretch) + 40 * speed) speed ≡ true
  pub cycle : Between 1 most_seconds x.cycle
  -- the first approach starts at 0, the second M after its end, and M after the second's end the cycle is over
  pub first_start : x.greens.first.start ≡ 0
  pub second_start : x.greens.second.start ≡ x.greens.first.length + intergreen stretch speed
  pub filled : x.greens.second.start + x.greens.second.length + intergreen stretch speed ≡ x.cycle
  pub first : HasEnough a x.greens.first x.cycle
  pub second : HasEnough b x.greens.second x.cycle
  -- whatever number of cycles the signals are repeated for, and whichever green of each approach is looked at
  pub apart : (n k m : ℕ) → k < n → m < n → Apart stretch speed x.cycle x.greens.first x.greens.second k m
