-- The loop: the days before the year and the rest are the day; each year takes 365 days or more of it.
use Rattle.std.proofs.Common.{◌≡◌, ◌+◌, ◌*◌, ◌≤◌}
use Rattle.dates.specs.Dates.{days_before_year}
use Rattle.dates.proofs.date_of.Given as goal

abbrev pub invariant-loop-year : goal.invariant-loop-year
invariant-loop-year l = (365 * l.year + l.rest ≤ 365 * 2000 + l.day) × (days_before_year l.year + l.rest ≡ l.day)
