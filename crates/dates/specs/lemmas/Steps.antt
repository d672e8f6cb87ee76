-- The days before a year and before a month, one year or one month on; how long a year and a month are.
use Rattle.std.specs.Prelude.{ℕ, ◌+◌, ◌-◌, ◌≤◌, ◌<◌, ◌≡◌, eqb}
use Rattle.std.proofs.Common.{eq-or-lt_of_le, arith, ⊎_elim, sym, ◌∙◌}
use Rattle.laws.specs.Sums.{sum_of, sum_none, sum_next}
use Rattle.laws.specs.Tests.{by_test}
use Rattle.dates.specs.Dates.{is_leap_year, year_length, has_thirty, month_length, days_before_year, days_before_month}

pub year_first : days_before_year 2000 ≡ 0
unfolding days_before_year
year_first = sum_none _

pub year_next : (year : ℕ) → 2000 ≤ year → days_before_year (year + 1) ≡ days_before_year year + year_length year
unfolding days_before_year
year_next year h =
    let on : year + 1 - 2000 ≡ (year - 2000) + 1 = omega arith in
    let same : 2000 + (year - 2000) ≡ year = omega arith in
    rw (on, sum_next, same)

pub month_first : (year : ℕ) → days_before_month year 1 ≡ 0
unfolding days_before_month
month_first year = sum_none _

pub month_next : (year month : ℕ) → 1 ≤ month → days_before_month year (month + 1) ≡ days_before_month year month + month_length year month
unfolding days_before_month
month_next year month h =
    let on : month + 1 - 1 ≡ (month - 1) + 1 = omega arith in
    let same : 1 + (month - 1) ≡ month = omega arith in
    rw (on, sum_next, same)

-- the twelve months of a year have the days of the year
pub twelve_months : (year : ℕ) → days_before_month year 13 ≡ year_length year
unfolding days_before_month sum_of month_length has_thirty year_length
twelve_months year = by_test (is_leap_year year) (λ e. simp e) (λ e. simp e)

-- a month that ends before a day of its year is not the last month
pub month_not_last : (year month rest : ℕ) → month ≤ 12 → days_before_month year month + rest < year_length year → month_length year month ≤ rest
    → month < 12
month_not_last year month rest h within past =
    ⊎_elim
    (λ (last : month ≡ 12).
    let sum : days_before_month year month + month_length year month ≡ year_length year =
    rw last (sym (month_next year 12 (omega arith)) ∙ twelve_months year) in
    absurd (omega arith))
    (λ (earlier : month < 12). earlier)
    (eq-or-lt_of_le h)

pub year_long : (year : ℕ) → 365 ≤ year_length year
unfolding year_length
year_long year = by_test (is_leap_year year) (λ e. rw e (omega arith)) (λ e. rw e (omega arith))

pub month_short : (year month : ℕ) → month_length year month ≤ 31
unfolding month_length
month_short year month =
    by_test (eqb month 2)
    (λ e. rw e (by_test (is_leap_year year) (λ f. rw f (omega arith)) (λ f. rw f (omega arith))))
    (λ e. rw e (by_test (has_thirty month) (λ f. rw f (omega arith)) (λ f. rw f (omega arith))))
