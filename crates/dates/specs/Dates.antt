-- The calendar from 1 January 2000 on, and the number of a date: the day of a junction file. 1 January 2000 is day 0.
use Rattle.std.specs.Prelude.{ℕ, ◌+◌, ◌-◌, ◌%◌, ◌≤◌, Bool, ◌&&◌, ◌||◌, not, cond, eqb}
use Rattle.laws.specs.Ranges.{Between}
use Rattle.laws.specs.Sums.{sum_of}
use Rattle.dates.specs.declared.Date.{Date}

-- a leap year is divisible by 4, and by 100 only where by 400
unfoldable pub is_leap_year : ℕ → Bool
is_leap_year year = eqb (year % 4) 0 && (not (eqb (year % 100) 0) || eqb (year % 400) 0)

-- how many days a year has
unfoldable pub year_length : ℕ → ℕ
year_length year = cond (is_leap_year year) 366 365

-- April, June, September and November have thirty days
unfoldable pub has_thirty : ℕ → Bool
has_thirty month = eqb month 4 || eqb month 6 || eqb month 9 || eqb month 11

-- how many days a month of a year has; January is month 1, February month 2
unfoldable pub month_length : ℕ → ℕ → ℕ
month_length year month = cond (eqb month 2) (cond (is_leap_year year) 29 28) (cond (has_thirty month) 30 31)

-- how many days the years from 2000 up to the one before have
unfoldable pub days_before_year : ℕ → ℕ
days_before_year year = sum_of (λ i. year_length (2000 + i)) (year - 2000)

-- how many days of a year the months from January up to the one before have
unfoldable pub days_before_month : ℕ → ℕ → ℕ
days_before_month year month = sum_of (λ i. month_length year (1 + i)) (month - 1)

-- a date of the calendar, from 2000 on: the month is one of twelve, the day one of the month's
pub record CalendarDate (d : Date) : Type 0 where
  pub year_from2000 : 2000 ≤ d.year
  pub month_of_year : Between 1 12 d.month
  pub day_of_month : Between 1 (month_length d.year d.month) d.day

-- the number of a date: how many days come before it, from 1 January 2000 on
unfoldable pub number : Date → ℕ
number d = days_before_year d.year + days_before_month d.year d.month + (d.day - 1)
