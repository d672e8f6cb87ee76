-- No two dates of the calendar have the same number, since a later date has a larger one.
use Rattle.std.specs.Prelude.{ℕ, ◌<◌, ◌≡◌}
use Rattle.std.proofs.Common.{arith, sym}
use Rattle.dates.specs.Dates.{CalendarDate, number}
use Rattle.dates.specs.declared.Date.{Date}
use Rattle.dates.specs.lemmas.Order.{later_year, later_month, later_day}
use Rattle.dates.specs.Meaning.{same_fields}

-- a and b are the same where m and n are, which differ in the same direction
same_by_order : (a b m n : ℕ) → (a < b → m < n) → (b < a → n < m) → m ≡ n → a ≡ b
same_by_order a b m n less more same =
    let not-less : a < b → ⊥ = λ h. omega (arith, less h) in
    let not_more : b < a → ⊥ = λ h. omega (arith, more h) in
    omega arith

-- two dates of the calendar with the same number are the same date
pub one_date : (d e : Date) → CalendarDate d → CalendarDate e → number d ≡ number e → d ≡ e
one_date d e this other same =
    let year = same_by_order _ _ _ _ (later_year d e this) (later_year e d other) same in
    let month = same_by_order _ _ _ _ (later_month d e this year) (later_month e d other (sym year)) same in
    let day = same_by_order _ _ _ _ (later_day d e this year month) (later_day e d other (sym year) (sym month)) same in
    same_fields year month day
