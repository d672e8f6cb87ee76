-- Each refusal exactly: 25, 26, 21, 22 and 27, each where its question fails and those before it do not; and the signals where none fails.
use Rattle.std.specs.Prelude.{ℕ, ◌<◌, Bool, true, ◌&&◌, ◌≡◌, ltb}
use Rattle.limits.specs.Limits.{no_cycle}
use Rattle.fields.specs.Verdict.{ask, Verdict, Passed}
use Rattle.stretches.specs.Table.{listed}
use Rattle.phase_lengths.specs.Phases.{ratio_sum}
use Rattle.roadworks.specs.Roadworks.{in_range, asked_of, phases_of, cycle_of, enough_waiting, portable_verdict}
use Rattle.roadworks.specs.declared.Approach.{Approach}
use Rattle.roadworks.specs.declared.Asked.{Asked}

module _ (stretch speed : ℕ) (a b : Approach) where
  abbrev pub w : Asked
  w = asked_of stretch speed a b

  abbrev pub v : Verdict
  v = portable_verdict stretch speed a b

  -- what 26 and 27 ask of both approaches
  abbrev pub ranges : Bool
  ranges = in_range a && in_range b

  abbrev pub waiting : Bool
  waiting = enough_waiting a (cycle_of w) && enough_waiting b (cycle_of w)

  -- what is asked last, and what is asked after 21
  abbrev pub last : Verdict
  last = ask waiting 27 0 Passed

  abbrev pub searched : Verdict
  searched = ask (ltb (cycle_of w) no_cycle) 22 0 last

  -- 25 and 26 refuse nothing
  abbrev pub GivenRight : Type 0
  GivenRight = (listed stretch speed ≡ true) × (ranges ≡ true)

  -- and the rounded flow ratios sum to less than one
  abbrev pub BelowOne : Type 0
  BelowOne = GivenRight × (ratio_sum (phases_of w) < 10000)
