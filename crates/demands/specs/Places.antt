-- The numbers that documents 01 and 02 list for each entry over files, each with the places that it can have; and those of the C library's figures.
use Rattle.std.specs.Prelude.{ℕ, ◌≤◌, ◌<◌, List, length}
use Rattle.laws.specs.Ranges.{Between}
use Rattle.junction_file.specs.Reading.{reading}

-- a junction file of so many bytes, with so many streams: 1 at 0, 2 to 7 at a byte of the file, 8 at its length, 9 at a stream
pub data JunctionPlace (size streams : ℕ) : ℕ → ℕ → Type 0 where
  long : JunctionPlace size streams 1 0
  field : {n p : ℕ} → Between 2 7 n → p < size → JunctionPlace size streams n p
  file : JunctionPlace size streams 8 size
  count : {p : ℕ} → Between 1 streams p → JunctionPlace size streams 9 p

-- a plan file of so many bytes: 11 and 13 at a byte of the file, 12 there or at its length
pub data PlanPlace (size : ℕ) : ℕ → ℕ → Type 0 where
  fit : {p : ℕ} → p < size → PlanPlace size 11 p
  expected : {p : ℕ} → p ≤ size → PlanPlace size 12 p
  range : {p : ℕ} → p < size → PlanPlace size 13 p

-- the rules, of so many streams and zones: 15 and 16 at a stream, 17 at a zone
pub data RulePlace (streams zones : ℕ) : ℕ → ℕ → Type 0 where
  need : {p : ℕ} → Between 1 streams p → RulePlace streams zones 15 p
  capacity : {p : ℕ} → Between 1 streams p → RulePlace streams zones 16 p
  zone : {p : ℕ} → Between 1 zones p → RulePlace streams zones 17 p

-- the calculation: 21 to 23 at 0
pub data CalculationPlace : ℕ → ℕ → Type 0 where
  ratios_sum : CalculationPlace 21 0
  no_cycle_lem : CalculationPlace 22 0
  no_room : CalculationPlace 23 0

-- the judge's answer: a junction's, a plan's, or a rule's
pub data JudgePlace (junction plan : List ℕ) : ℕ → ℕ → Type 0 where
  of_junction : {n p : ℕ} → JunctionPlace (length junction) (reading junction).junction.held.streams n p → JudgePlace junction plan n p
  of_plan : {n p : ℕ} → PlanPlace (length plan) n p → JudgePlace junction plan n p
  of_rule : {n p : ℕ} → RulePlace (reading junction).junction.held.streams (reading junction).junction.held.zones n p → JudgePlace junction plan n p

-- a delay's: the judge's, or 9 at the number asked for
pub data DelayPlace (junction plan : List ℕ) (asked : ℕ) : ℕ → ℕ → Type 0 where
  of_judge : {n p : ℕ} → JudgePlace junction plan n p → DelayPlace junction plan asked n p
  no_car : DelayPlace junction plan asked 9 asked

-- a shift's (document 02, 2026-06): a junction's, a plan's, or 24 at 0
pub data ShiftPlace (junction plan : List ℕ) : ℕ → ℕ → Type 0 where
  of_junction : {n p : ℕ} → JunctionPlace (length junction) (reading junction).junction.held.streams n p → ShiftPlace junction plan n p
  of_plan : {n p : ℕ} → PlanPlace (length plan) n p → ShiftPlace junction plan n p
  not_below_lem : ShiftPlace junction plan 24 0

-- the planner's: a junction's, or the calculation's
pub data WorkPlace (junction : List ℕ) : ℕ → ℕ → Type 0 where
  of_junction : {n p : ℕ} → JunctionPlace (length junction) (reading junction).junction.held.streams n p → WorkPlace junction n p
  of_calculation : {n p : ℕ} → CalculationPlace n p → WorkPlace junction n p

-- a figure's: a junction's, 7 at a number asked for, or 13 at 0 for the cycle asked for
pub data FigurePlace (junction : List ℕ) (Asked : ℕ → Type 0) (Cycle : Type 0) : ℕ → ℕ → Type 0 where
  of_junction : {n p : ℕ} → JunctionPlace (length junction) (reading junction).junction.held.streams n p → FigurePlace junction Asked Cycle n p
  of_stream_lem : {p : ℕ} → Asked p → FigurePlace junction Asked Cycle 7 p
  of_cycle_lem : Cycle → FigurePlace junction Asked Cycle 13 0

-- the lent list's: 9 at the stream asked for
pub data ListPlace (asked : ℕ) : ℕ → ℕ → Type 0 where
  none_usable : ListPlace asked 9 asked

-- portable signals': 25, 26, 21, 22 and 27 at 0
pub data PortablePlace : ℕ → ℕ → Type 0 where
  not_listed : PortablePlace 25 0
  out_of_range : PortablePlace 26 0
  too_much : PortablePlace 21 0
  no_length : PortablePlace 22 0
  waiting_short : PortablePlace 27 0
