-- The date of a moment is the one with its seconds.
use Rattle.std.proofs.Common.{◌≡◌, ℕ, zero, suc, ◌+◌, ◌-◌, ◌/◌, ◌<◌, ◌≤◌, Bool, true, false, nat_lt, cond, Some, refl, sym, ◌∙◌, ap, arith, inl}
use Rattle.std.proofs.lemmas.Bool.Decides.{nat_tests}
use Rattle.httpdate.specs.Calendar.{days_in_month, days_in_year, days_of_months, days_of_years, days_from_civil, weekday}
use Rattle.httpdate.specs.Date.{date_text, parse_secs, unix_secs}
use Rattle.httpdate.specs.Valid.{IsValid, parts_secs}
use Rattle.httpdate.specs.declared.date.HttpDate.{HttpDate}
use Rattle.httpdate.proofs.CalendarLemmas.{days_of_months_all, days_of_years_closed}
use Rattle.httpdate.proofs.FormatLemmas.{parse_complete}
use Rattle.httpdate.proofs.Theorems.{date_text_is}
use Rattle.httpdate.proofs.ValidLemmas.{is_valid_complete}
use Rattle.hx_fields.specs.declared.limits.TheConstants.{START_OF_YEAR_10000}
use Rattle.hx_hop.specs.Moments.{part_and_day_within_it, year_and_day, month_and_day, date_parts_of, date_text_of}

-- a part and a day in it, of a sum of days
pub record IsSplit (part_days total : ℕ → ℕ) (end sum : ℕ) (found : ℕ × ℕ) : Type 0 where
  pub within : found.0 < end
  pub inside : found.1 < part_days found.0
  pub whole : total found.0 + found.1 ≡ sum

module _ (part_days total : ℕ → ℕ) (next : (n : ℕ) → total (suc n) ≡ total n + part_days n) where
  one_more : (parts n days : ℕ) → total n + days < total (n + suc parts) →
      (total (suc n) + (days - part_days n) < total (suc n + parts) →
      IsSplit part_days total (suc n + parts) (total (suc n) + (days - part_days n)) (part_and_day_within_it part_days parts (suc n) (days - part_days n)))
      → (here : Bool) → nat_lt days (part_days n) ≡ here →
      IsSplit part_days total (n + suc parts) (total n + days) (cond here (n, days) (part_and_day_within_it part_days parts (suc n) (days - part_days n)))
  one_more parts n days h rest true e = record { within = omega arith; inside = grind (arith, nat_tests); whole = refl }
  one_more parts n days h rest false e =
      let past : part_days n ≤ days = grind (arith, nat_tests) in
      let moved : n + suc parts ≡ suc n + parts = omega arith in
      let there : total n + days < total (suc n + parts) = rw (← moved) h in
      let step = next n in
      let found = rest (omega arith) in
      record { within = omega (arith, found.within); inside = found.inside; whole = omega (arith, found.whole) }

  pub split_off_splits : (parts n days : ℕ) → total n + days < total (n + parts) → IsSplit part_days total (n + parts) (total n + days) (part_and_day_within_it part_days parts n days)
  unfolding part_and_day_within_it
  split_off_splits zero n days h =
      let same : n + 0 ≡ n = omega arith in
      let there : total n + days < total n = rw same at h in
      absurd (omega arith)
  split_off_splits (suc parts) n days h = one_more parts n days h (split_off_splits parts (suc n) (days - part_days n)) (nat_lt days (part_days n)) refl

years_next : (n : ℕ) → days_of_years (suc n) ≡ days_of_years n + days_in_year (1970 + n)
unfolding days_of_years
years_next n = refl

months_next : (y n : ℕ) → days_of_months y (suc n) ≡ days_of_months y n + days_in_month y (suc n)
unfolding days_of_months
months_next y n = refl

no_years : days_of_years 0 ≡ 0
unfolding days_of_years
no_years = refl

no_months : (y : ℕ) → days_of_months y 0 ≡ 0
unfolding days_of_months
no_months y = refl

year_splits : (days : ℕ) → days < 2932897 → IsSplit (λ n. days_in_year (1970 + n)) days_of_years 8030 days (year_and_day days)
year_splits days h =
    let all = days_of_years_closed 8030 in
    let none = no_years in
    let found = split_off_splits (λ n. days_in_year (1970 + n)) days_of_years years_next 8030 0 days (omega arith) in
    record { within = omega (arith, found.within); inside = found.inside; whole = omega (arith, found.whole) }

month_splits : (year days : ℕ) → days < days_in_year year → IsSplit (λ n. days_in_month year (suc n)) (days_of_months year) 12 days (month_and_day year days)
month_splits year days h =
    let all = days_of_months_all year in
    let none = no_months year in
    let found = split_off_splits (λ n. days_in_month year (suc n)) (days_of_months year) (months_next year) 12 0 days (omega arith) in
    record { within = omega (arith, found.within); inside = found.inside; whole = omega (arith, found.whole) }

civil_days : (days year of_year month day : ℕ) → days_of_years year + of_year ≡ days → days_of_months (1970 + year) month + day ≡ of_year
    → days_from_civil (1970 + year) (month + 1) (day + 1) ≡ days
civil_days days year of_year month day years months =
    let y : 1970 + year - 1970 ≡ year = omega arith in
    let m : month + 1 - 1 ≡ month = omega arith in
    let d : day + 1 - 1 ≡ day = omega arith in
    rw (y, m, d) (omega arith)

day_within : (year month day : ℕ) → day < days_in_month year (suc month) → day + 1 ≤ days_in_month year (month + 1)
day_within year month day h = let next : month + 1 ≡ suc month = omega arith in rw next (omega arith)

-- the numbers are a date of the calendar, of these seconds
pub civil_of_is : (now : ℕ) → now < START_OF_YEAR_10000 → IsValid (date_parts_of now) × (parts_secs (date_parts_of now) ≡ now)
civil_of_is now early =
    let years = year_splits (now / 86400) (omega arith) in
    let months = month_splits (1970 + (year_and_day (now / 86400)).0) (year_and_day (now / 86400)).1 years.inside in
    let days = civil_days _ _ _ _ _ years.whole months.whole in
    let month = month_and_day (1970 + (year_and_day (now / 86400)).0) (year_and_day (now / 86400)).1 in (
      (
        ((omega arith, omega (arith, years.within)), (omega arith, omega (arith, months.within)), (omega arith, day_within (1970 + (year_and_day (now / 86400)).0) month.0 month.1 months.inside)),
        (omega arith, omega arith, omega arith),
        ap weekday (sym days),
      ),
      omega (arith, days),
    )

-- so it is the date of which the port tells the text
pub date_text_of_is : (date : HttpDate) (now : ℕ) → unix_secs date ≡ now → now < START_OF_YEAR_10000 → date_text date ≡ date_text_of now
date_text_of_is date now e early =
    let civil = civil_of_is now early in
    date_text_is date (date_parts_of now) (is_valid_complete _ civil.0) (e ∙ sym civil.1)

-- and it is read back
pub parse_secs-date_text_of : (now : ℕ) → now < START_OF_YEAR_10000 → parse_secs (date_text_of now) ≡ Some now
parse_secs-date_text_of now early =
    let civil = civil_of_is now early in
    rw (parse_complete (date_text_of now) (date_parts_of now) civil.0 (inl refl), is_valid_complete _ civil.0, civil.1) refl
