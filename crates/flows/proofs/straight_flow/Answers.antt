-- One test computes the definition at every width of an arm.
use Rattle.std.proofs.Common.{ℕ, ◌+◌, ◌≤◌, ◌<◌, ◌≡◌, true, refl, eqb, eqb-true, arith}
use Rattle.laws.specs.Ranges.{every_of, every_at}
use Rattle.flows.specs.Saturation.{table1, listed_from, straight_flow}
use Rattle.flows.proofs.straight_flow.Goals as goal

-- the flow is v at each of the n widths from lo on
arm : {v : ℕ} (n lo : ℕ) → every_of (λ w. eqb v (straight_flow w)) n lo ≡ true → {w : ℕ} → lo ≤ w → w < lo + n → v ≡ straight_flow w
arm {v} n lo t {w} a b = eqb-true v (straight_flow w) (every_at (λ w. eqb v (straight_flow w)) n lo t w a b)

pub returns-in-540 : goal.returns-in-540
returns-in-540 c = arm 1 540 (unfold straight_flow listed_from table1 in refl) (omega arith) (omega arith)

pub returns-in-0-to-299 : goal.returns-in-0-to-299
returns-in-0-to-299 c = arm 300 0 (unfold straight_flow listed_from table1 in refl) (omega arith) (omega arith)

pub returns-in-300-to-324 : goal.returns-in-300-to-324
returns-in-300-to-324 c = arm 25 300 (unfold straight_flow listed_from table1 in refl) (omega arith) (omega arith)

pub returns-in-325-to-329 : goal.returns-in-325-to-329
returns-in-325-to-329 c = arm 5 325 (unfold straight_flow listed_from table1 in refl) (omega arith) (omega arith)

pub returns-in-330-to-349 : goal.returns-in-330-to-349
returns-in-330-to-349 c = arm 20 330 (unfold straight_flow listed_from table1 in refl) (omega arith) (omega arith)

pub returns-in-350-to-359 : goal.returns-in-350-to-359
returns-in-350-to-359 c = arm 10 350 (unfold straight_flow listed_from table1 in refl) (omega arith) (omega arith)

pub returns-in-360-to-374 : goal.returns-in-360-to-374
returns-in-360-to-374 c = arm 15 360 (unfold straight_flow listed_from table1 in refl) (omega arith) (omega arith)

pub returns-in-375-to-399 : goal.returns-in-375-to-399
returns-in-375-to-399 c = arm 25 375 (unfold straight_flow listed_from table1 in refl) (omega arith) (omega arith)

pub returns-in-400-to-419 : goal.returns-in-400-to-419
returns-in-400-to-419 c = arm 20 400 (unfold straight_flow listed_from table1 in refl) (omega arith) (omega arith)

pub returns-in-420-to-449 : goal.returns-in-420-to-449
returns-in-420-to-449 c = arm 30 420 (unfold straight_flow listed_from table1 in refl) (omega arith) (omega arith)

pub returns-in-450-to-479 : goal.returns-in-450-to-479
returns-in-450-to-479 c = arm 30 450 (unfold straight_flow listed_from table1 in refl) (omega arith) (omega arith)

pub returns-in-480-to-499 : goal.returns-in-480-to-499
returns-in-480-to-499 c = arm 20 480 (unfold straight_flow listed_from table1 in refl) (omega arith) (omega arith)

pub returns-in-500-to-539 : goal.returns-in-500-to-539
returns-in-500-to-539 c = arm 40 500 (unfold straight_flow listed_from table1 in refl) (omega arith) (omega arith)
