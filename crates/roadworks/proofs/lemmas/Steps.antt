-- The answer by the questions in order, 25, 26, 21, 22 and 27: what each gives where those before it refuse nothing.
use Rattle.fields.specs.Verdict.{Refused}
use Rattle.std.specs.Prelude.{ℕ, ◌≤◌, ◌<◌, true, false, ◌&&◌, ◌≡◌, Ok}
use borrow.Author.Tests.{lt-ltb, le-ltb}
use Rattle.limits.specs.Limits.{no_cycle}
use Rattle.stretches.specs.Table.{listed}
use Rattle.phase_lengths.specs.Phases.{ratio_sum}
use Rattle.roadworks.specs.Roadworks.{in_range, phases_of, cycle_of, enough_waiting, later_verdict, portable_verdict, timing, unless, timed, portable}
use Rattle.roadworks.specs.declared.Approach.{Approach}
use Rattle.roadworks.specs.lemmas.Steps.{w}

module _ (stretch speed : ℕ) (a b : Approach) where
  -- 25 and 26
  pub not_listed : listed stretch speed ≡ false → portable stretch speed a b ≡ Refused 25 0
  unfolding portable portable_verdict unless
  not_listed e = simp e

  module _ (known : listed stretch speed ≡ true) where
    pub out_of_range : (in_range a && in_range b) ≡ false → portable stretch speed a b ≡ Refused 26 0
    unfolding portable portable_verdict unless
    out_of_range e = simp (known, e)

    -- the later questions
    pub asked_later : (in_range a && in_range b) ≡ true → portable stretch speed a b ≡ timed stretch speed a b
    unfolding portable portable_verdict timed
    asked_later e = simp (known, e)

  -- 21, 22 and 27
  pub too_much : 10000 ≤ ratio_sum (phases_of (w stretch speed a b)) → timed stretch speed a b ≡ Refused 21 0
  unfolding timed later_verdict unless
  too_much h = simp (le-ltb (ratio_sum (phases_of (w stretch speed a b))) 10000 h)

  module _ (served : ratio_sum (phases_of (w stretch speed a b)) < 10000) where
    pub no_length : no_cycle ≤ cycle_of (w stretch speed a b) → timed stretch speed a b ≡ Refused 22 0
    unfolding timed later_verdict unless
    no_length h = simp (lt-ltb (ratio_sum (phases_of (w stretch speed a b))) 10000 served, le-ltb (cycle_of (w stretch speed a b)) no_cycle h)

    module _ (found : cycle_of (w stretch speed a b) < no_cycle) where
      pub waiting_short : (enough_waiting a (cycle_of (w stretch speed a b)) && enough_waiting b (cycle_of (w stretch speed a b))) ≡ false → timed stretch speed a b ≡ Refused 27 0
      unfolding timed later_verdict unless
      waiting_short e = simp (lt-ltb (ratio_sum (phases_of (w stretch speed a b))) 10000 served, lt-ltb (cycle_of (w stretch speed a b)) no_cycle found, e)

      -- nothing is refused
      pub all_answered : (enough_waiting a (cycle_of (w stretch speed a b)) && enough_waiting b (cycle_of (w stretch speed a b))) ≡ true
          → timed stretch speed a b ≡ Ok (timing stretch speed a b)
      unfolding timed later_verdict unless
      all_answered e = simp (lt-ltb (ratio_sum (phases_of (w stretch speed a b))) 10000 served, lt-ltb (cycle_of (w stretch speed a b)) no_cycle found, e)
