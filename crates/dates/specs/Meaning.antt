-- Numbers of dates counted by hand, and the days before each month.
use Rattle.std.specs.Prelude.{ℕ, List, [], ◌∷◌, map, ◌≡◌, refl}
use Rattle.laws.specs.Sums.{sum_of}
use Rattle.dates.specs.Dates.{is_leap_year, year_length, has_thirty, month_length, days_before_year, days_before_month, number}
use Rattle.dates.specs.declared.Date.{Date}

-- a date by year, month and day
abbrev date : ℕ → ℕ → ℕ → Date
date year month day = record { year = year; month = month; day = day }

pub same_fields : {y m d y' m' d' : ℕ} → y ≡ y' → m ≡ m' → d ≡ d' → date y m d ≡ date y' m' d'
same_fields year month day = rw (year, month, day)

abbrev months : List ℕ
months = 1 ∷ 2 ∷ 3 ∷ 4 ∷ 5 ∷ 6 ∷ 7 ∷ 8 ∷ 9 ∷ 10 ∷ 11 ∷ 12 ∷ []

-- the days before each month of 2001, and of 2004, a leap year
pub months_by_hand : (map (days_before_month 2001) months ≡ 0 ∷ 31 ∷ 59 ∷ 90 ∷ 120 ∷ 151 ∷ 181 ∷ 212 ∷ 243 ∷ 273 ∷ 304 ∷ 334 ∷ [])
    × (map (days_before_month 2004) months ≡ 0 ∷ 31 ∷ 60 ∷ 91 ∷ 121 ∷ 152 ∷ 182 ∷ 213 ∷ 244 ∷ 274 ∷ 305 ∷ 335 ∷ [])
unfolding sum_of is_leap_year has_thirty month_length days_before_month
months_by_hand = (refl, refl)

-- 2000, a leap year: 31 + 28, 31 + 29, 366 days; 2026: 26 × 365, 7 leap days, 181 before July, 22; 2100, no leap year: 100 × 365, 25 leap days,
-- 31 + 27, 31 + 28; 2179: 179 × 365, 44 leap days, 151 before June, 5
pub numbers_by_hand : (number (date 2000 1 1) ≡ 0)
    × (number (date 2000 2 29) ≡ 59)
    × (number (date 2000 3 1) ≡ 60)
    × (number (date 2001 1 1) ≡ 366)
    × (number (date 2026 7 23) ≡ 9700)
    × (number (date 2100 2 28) ≡ 36583)
    × (number (date 2100 3 1) ≡ 36584)
    × (number (date 2179 6 6) ≡ 65535)
unfolding sum_of is_leap_year year_length has_thirty month_length days_before_year days_before_month number
numbers_by_hand = (refl, refl, refl, refl, refl, refl, refl, refl)
