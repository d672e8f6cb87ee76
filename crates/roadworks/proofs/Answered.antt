-- The signals that are answered mean what Meaning.antt says, and their cycle is the least from T0 on; T0 is the annex's optimum by (32).
use Rattle.std.specs.Prelude.{ℕ, ◌+◌, ◌-◌, ◌*◌, ◌≤◌, ◌<◌, true, ◌&&◌, ◌↔◌, ◌≡◌}
use native.Mathlib.Omega.{arith}
use Rattle.std.proofs.Math.Bool.{false}
use Rattle.std.proofs.Math.Logic.{inl, inr, ⊎_elim}
use borrow.Author.Tests.{leb-true, le-leb, ltb-true}
use Rattle.laws.specs.Ranges.{Between}
use Rattle.laws.specs.Tests.{both_left, both_right}
use Rattle.limits.specs.Limits.{most_seconds, no_cycle}
use Rattle.fields.specs.Verdict.{Passed}
use Rattle.stretches.proofs.Nearest.{t_nearest, l_nearest}
use Rattle.stretches.specs.Table.{listed}
use Rattle.phase_lengths.specs.First.{first_length_least}
use Rattle.phase_lengths.specs.Phases.{ratio_sum, lost_time, long_enough}
use Rattle.phase_greens.specs.Fills.{Right}
use Rattle.phase_greens.proofs.Fills.{green_some}
use Rattle.plan_file.specs.declared.Green.{Green}
use Rattle.plan_rules.specs.Rules.{zone_clear}
use Rattle.plan_judge.specs.lemmas.Accepted.{clear_exact}
use Rattle.plan_judge.specs.lemmas.Cycles.{all_cycles}
use Rattle.roadworks.proofs.Approaches.{intergreen_least, lost_twice, phases_right_lem}
use Rattle.roadworks.proofs.Cycle.{cycle_seconds, cycle_greens, cycle_kept}
use Rattle.roadworks.specs.Meaning.{ClearedIn, Apart, HasEnough, Signals}
use Rattle.roadworks.proofs.RefusedLaws.{portable_passed}
use Rattle.roadworks.specs.Roadworks.{in_range, intergreen, load_of, phases_of, first_tried, served, rules_kept, enough_waiting, portable_verdict, timing}
use Rattle.roadworks.specs.declared.Approach.{Approach}
use Rattle.roadworks.specs.declared.Asked.{Asked}
use Rattle.roadworks.specs.Works.{served_exact}
use Rattle.roadworks.proofs.lemmas.Filled.{starts_first, starts_second, two_fill}
use Rattle.std.specs.Prelude.{Bool}
use Rattle.roadworks.specs.Roadworks.{asked_of, greens_at, cycle_of}
use Rattle.roadworks.specs.declared.Greens.{Greens}

module _ (stretch speed : ℕ) (a b : Approach) (passed : portable_verdict stretch speed a b ≡ Passed) where
  abbrev w : Asked
  w = asked_of stretch speed a b

  abbrev C : ℕ
  C = cycle_of w

  abbrev g : Greens
  g = greens_at (phases_of w) C

  known : listed stretch speed ≡ true
  known = ((portable_passed stretch speed a b).0 passed).0.0.0

  found : C < no_cycle
  found = ((portable_passed stretch speed a b).0 passed).1

  right : Right (phases_of w)
  right =
      let ranges = ((portable_passed stretch speed a b).0 passed).0.0.1 in
      phases_right_lem stretch speed a b known (both_left (in_range a) _ ranges) (both_right (in_range a) _ ranges)

  -- the rules, each of its own
  abbrev served_both : Bool
  served_both = served w.first g.first C && served w.second g.second C

  kept : (served_both && zone_clear C g.first g.second w.intergreen w.intergreen) ≡ true
  unfolding rules_kept
  kept = cycle_kept w found

  waiting : (enough_waiting a C && enough_waiting b C) ≡ true
  waiting = ((portable_passed stretch speed a b).0 passed).2

  approach_served : (x : Approach) (green : Green) → served (load_of x) green C ≡ true → enough_waiting x C ≡ true → HasEnough x green C
  unfolding enough_waiting
  approach_served x green e room = record { enough = (served_exact x green C).0 e; waiting = ltb-true _ _ room }

  -- M seconds or more clear the stretch
  clears : (seconds : ℕ) → intergreen stretch speed ≤ seconds → ClearedIn stretch speed seconds
  clears seconds h = (intergreen_least stretch speed known seconds).0 h

  greens_apart : (k m : ℕ) → Apart stretch speed C g.first g.second k m
  greens_apart k m =
      let M = intergreen stretch speed in
      let low = starts_first w C in
      let rule = (clear_exact C g.first g.second M M).0 (both_right served_both _ kept) in
      let full = two_fill w C right (cycle_greens w found) in
      let some = green_some (phases_of w) right C (cycle_greens w found) in
      let some_a : 1 ≤ g.first.length = some 0 (unfold phases_of in omega arith) in
      let some_b : 1 ≤ g.second.length = some 1 (unfold phases_of in omega arith) in
      ⊎_elim
      (λ (x : g.first.start + k * C + g.first.length + M ≤ g.second.start + m * C). inl (omega arith, clears _ (omega arith)))
      (λ (x : g.second.start + m * C + g.second.length + M ≤ g.first.start + k * C). inr (omega arith, clears _ (omega arith)))
      (all_cycles C g.first.start g.first.length g.second.start g.second.length (omega arith) (omega arith) some_a some_b M M rule.0 rule.1 k m)

  pub signals : Signals stretch speed a b (timing stretch speed a b)
  unfolding timing
  signals =
      record {
        clearing = t_nearest stretch speed known;
        lost = l_nearest stretch speed known;
        cycle = cycle_seconds w found;
        first_start = starts_first w C;
        second_start = starts_second w C;
        filled = two_fill w C right (cycle_greens w found);
        first = approach_served a g.first (both_left (served w.first g.first C) _ (both_left served_both _ kept)) (both_left (enough_waiting a C) _ waiting);
        second = approach_served b g.second (both_right (served w.first g.first C) _ (both_left served_both _ kept)) (both_right (enough_waiting a C) _ waiting);
        apart = λ n k m in_k in_m. greens_apart k m;
      }

-- T0 is the least length, from 1 on, for which T × (10,000 - Y) is at least 15,000 × L + 50,000 with L = 2 × (M - 1) (32)
module _ (w : Asked) where
  pub first_tried_least : (t : ℕ) → Between 1 most_seconds t
      → (first_tried w ≤ t) ↔ (15000 * (2 * (w.intergreen - 1)) + 50000 ≤ t * (10000 - ratio_sum (phases_of w)))
  unfolding first_tried long_enough
  first_tried_least t range =
      let least = first_length_least false (ratio_sum (phases_of w)) (lost_time (phases_of w)) t range in
      rw (← lost_twice w) (λ h. leb-true _ _ (least.0 h), λ h. least.1 (le-leb _ _ h))
