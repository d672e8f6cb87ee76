-- The count that gives a car its flow (document 01, "The junction file"; document 02, 2026-04): of those of the period, the greatest count day
-- not after the design day; of equals, the larger flow.
use Rattle.std.specs.Prelude.{ℕ, ◌+◌, ◌*◌, ◌/◌, ◌%◌, Bool, ◌&&◌, cond, leb, eqb}
use Rattle.limits.specs.Limits.{least_flow, greatest_flow, least_period, greatest_period}
use Rattle.counts.specs.declared.Count.{Count}
use Rattle.counts.specs.declared.Wanted.{Wanted}

-- a count of the stream asked for, not after the design day, of the period asked for, with a period and a flow in range; a period asked for
-- that is out of range has none
unfoldable pub usable : Wanted → Count → Bool
usable w c =
    eqb c.stream w.stream && leb c.day w.day && eqb c.period w.period &&
    leb least_period c.period && leb c.period greatest_period && leb least_flow c.flow && leb c.flow greatest_flow

-- one number for a usable count, larger for a later day and, of equal days, for a larger flow; 0 for a count that is not usable
unfoldable pub rank : Wanted → Count → ℕ
rank w c = cond (usable w c) (c.day * 65536 + c.flow) 0

unfoldable pub rank_day : ℕ → ℕ
rank_day r = r / 65536

unfoldable pub rank_flow : ℕ → ℕ
rank_flow r = r % 65536
