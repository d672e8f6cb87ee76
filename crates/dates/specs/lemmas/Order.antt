-- A later date has a larger number.
use Rattle.std.specs.Prelude.{ℕ, ◌+◌, ◌-◌, ◌≤◌, ◌<◌, ◌≡◌}
use native.Mathlib.Omega.{arith}
use Rattle.laws.specs.Sums.{sum_part}
use Rattle.dates.specs.Dates.{year_length, month_length, days_before_year, days_before_month, CalendarDate, number}
use Rattle.dates.specs.declared.Date.{Date}
use Rattle.dates.specs.lemmas.Steps.{twelve_months}

-- before a later year come all days of this one, before a later month of the year all days of this month
before_later_year : (year later : ℕ) → 2000 ≤ year → year < later → days_before_year year + year_length year ≤ days_before_year later
unfolding days_before_year
before_later_year year later h less =
    let same : 2000 + (year - 2000) ≡ year = omega arith in
    rw same at (sum_part (λ i. year_length (2000 + i)) (later - 2000) (year - 2000) (omega arith))

before_later_month : (year month later : ℕ) → 1 ≤ month → month < later
    → days_before_month year month + month_length year month ≤ days_before_month year later
unfolding days_before_month
before_later_month year month later h less =
    let same : 1 + (month - 1) ≡ month = omega arith in
    rw same at (sum_part (λ i. month_length year (1 + i)) (later - 1) (month - 1) (omega arith))

module _ (d e : Date) (date : CalendarDate d) where
  pub later_year : d.year < e.year → number d < number e
  unfolding number
  later_year less =
      omega (
        arith,
        date,
        twelve_months d.year,
        before_later_month d.year d.month 13 date.month_of_year.0 (omega (arith, date)),
        before_later_year d.year e.year date.year_from2000 less,
      )

  pub later_month : d.year ≡ e.year → d.month < e.month → number d < number e
  unfolding number
  later_month year less =
      rw (← year, number) (omega (arith, date, before_later_month d.year d.month e.month date.month_of_year.0 less))

  pub later_day : d.year ≡ e.year → d.month ≡ e.month → d.day < e.day → number d < number e
  unfolding number
  later_day year month less = rw (← year, ← month, number) (omega (arith, date))
