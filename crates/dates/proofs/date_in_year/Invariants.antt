-- The loop: the days before the month and the rest are the days before the date.
use Rattle.std.proofs.Common.{◌≡◌, ◌+◌}
use Rattle.dates.specs.Dates.{days_before_month}
use Rattle.dates.proofs.date_in_year.Given as goal

abbrev pub invariant-loop-month : goal.invariant-loop-month
invariant-loop-month l = days_before_month l.year l.month + l.rest ≡ l.before
