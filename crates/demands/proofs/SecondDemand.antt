-- The customer's second demand, whole: every intergreen, needed green, saturation flow, cycle and green equals the annex, with the roundings and
-- choices of document 01; and a cycle is refused exactly if no length up to 180 s, from the annex's optimum on, lets document 01's steps give
-- a plan that meets the rules.
--
-- `worked` and `buffer` are what `planner::work_out` is proved to answer and to leave in the lent buffer, `judgement` what `plan_judge::judge`
-- is proved to answer. `ratios` is Y in ten-thousandths, `first_tried` T0. Files.antt has the plan file of a length, `plan_bytes`, when a length
-- is `Accepted`, and the `Result`; Figures.antt the figures, as the C library answers them.
use Rattle.std.specs.Prelude.{ℕ, List, ◌≡◌, ltb, length}
use Rattle.std.proofs.Common.{ltb-true, ltb-false, lt-ltb, le-ltb}
use Rattle.fields.specs.Verdict.{Passed}
use Rattle.junction_file.specs.Reading.{reading}
use Rattle.plan_file.specs.Writing.{has_room}
use Rattle.cycle_search.specs.Planning.{ratios, cycle}
use Rattle.demands.specs.Figures.{figures_exact}
use Rattle.demands.specs.lemmas.Calculation.{ask_21, ask_22, ask_23, ask_none, verdict_is, room_there, room_lacks}
use Rattle.demands.proofs.lemmas.Calculation.{cycle_some, cycle_none, answered}
use Rattle.demands.specs.SecondDemand.{SecondDemand}

-- the second demand holds of every junction file that is taken and every lent buffer
pub second_demand : (junction lent : List ℕ) → (reading junction).verdict ≡ Passed → SecondDemand junction lent
second_demand junction lent is =
    let y = ratios (reading junction).junction in
    let c = cycle (reading junction).junction in
    let room = has_room (reading junction).junction.held.streams (length lent) in
    let v = verdict_is junction is lent in
    record {
      figures = figures_exact junction is;
      ratios_sum = rw v (λ e. ltb-false y 10000 ((ask_21 (ltb y 10000) (ltb c 181) room).0 e), λ h. (ask_21 (ltb y 10000) (ltb c 181) room).1 (le-ltb y 10000 h));
      no_cycle_lem = rw v (
        λ e. let two = (ask_22 (ltb y 10000) (ltb c 181) room).0 e in (ltb-true y 10000 two.0, (cycle_none junction is).0 (ltb-false c 181 two.1)),
        λ h. (ask_22 (ltb y 10000) (ltb c 181) room).1 (lt-ltb y 10000 h.0, le-ltb c 181 ((cycle_none junction is).1 h.1)),
      );
      no_room = rw v (
        λ e. let three = (ask_23 (ltb y 10000) (ltb c 181) room).0 e in
            (ltb-true y 10000 three.0, (cycle_some junction is).0 (ltb-true c 181 three.1), (room_lacks junction is lent).0 three.2),
        λ h. (ask_23 (ltb y 10000) (ltb c 181) room).1 (lt-ltb y 10000 h.0, lt-ltb c 181 ((cycle_some junction is).1 h.1), (room_lacks junction is lent).1 h.2),
      );
      planned = rw v (
        λ e. let three = (ask_none (ltb y 10000) (ltb c 181) room).0 e in
            (ltb-true y 10000 three.0, (cycle_some junction is).0 (ltb-true c 181 three.1), (room_there junction is lent).0 three.2),
        λ h. (ask_none (ltb y 10000) (ltb c 181) room).1 (lt-ltb y 10000 h.0, lt-ltb c 181 ((cycle_some junction is).1 h.1), (room_there junction is lent).1 h.2),
      );
      result = answered junction is lent;
    }
