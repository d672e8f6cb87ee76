-- After the twelve months no day of the year is left.
use Rattle.std.proofs.Common.{arith, ◌≡◌}
use Rattle.dates.specs.Dates.{days_before_month, year_length}
use Rattle.dates.specs.lemmas.Steps.{twelve_months}
use Rattle.dates.proofs.date_in_year.Goals as goal

pub unreachable-requires : goal.unreachable-requires
unreachable-requires c =
    let l = c.loop-month in
    let last : l.month ≡ 13 = omega arith in
    let whole : days_before_month c.args.year l.month ≡ year_length c.args.year = rw last (twelve_months _) in
    omega (arith, whole, l.invariant, c.requires.within)
