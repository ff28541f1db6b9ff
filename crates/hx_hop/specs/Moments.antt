-- The date of a moment, as messages write it (RFC 9110, section 5.6.7). A moment is a number of whole seconds
-- since 1970, without leap seconds.
--
-- part_and_day_within_it: whole parts of a calendar, and the days that are left
-- date_parts_of: the day, the time and the week day
-- date_text_of: IMF-fixdate
use Rattle.std.specs.Prelude.{ℕ, zero, suc, ◌+◌, ◌-◌, ◌/◌, ◌%◌, nat_lt, if◌then◌else◌, List}
use Rattle.httpdate.specs.Calendar.{days_in_month, days_in_year, weekday}
use Rattle.httpdate.specs.Text.{imf_fixdate}
use Rattle.httpdate.specs.declared.parts.Parts.{Parts}

-- of some days from the start of part n: which of the next parts holds the last, and which of its days that is
unfoldable pub part_and_day_within_it : (ℕ → ℕ) → ℕ → ℕ → ℕ → ℕ × ℕ
part_and_day_within_it part_days zero n days = (n, days)
part_and_day_within_it part_days (suc parts) n days =
    if nat_lt days (part_days n) then (n, days) else part_and_day_within_it part_days parts (suc n) (days - part_days n)

-- the year from 1970 on, of 8030 up to 9999, and the day of that year, from 0
abbrev pub year_and_day : ℕ → ℕ × ℕ
year_and_day days = part_and_day_within_it (λ n. days_in_year (1970 + n)) 8030 0 days

-- the month of a year and the day of that month, both from 0
abbrev pub month_and_day : ℕ → ℕ → ℕ × ℕ
month_and_day year days = part_and_day_within_it (λ n. days_in_month year (suc n)) 12 0 days

-- the numbers that a date shows
abbrev pub date_parts_of : ℕ → Parts
date_parts_of now =
    let days = now / 86400 in
    let seconds = now % 86400 in
    let of_year = year_and_day days in
    let of_month = month_and_day (1970 + of_year.0) of_year.1 in
    record {
      year = 1970 + of_year.0;
      mon = of_month.0 + 1;
      day = of_month.1 + 1;
      hour = seconds / 3600;
      min = seconds % 3600 / 60;
      sec = seconds % 60;
      wday = weekday days;
    }

-- IMF-fixdate
abbrev pub date_text_of : ℕ → List ℕ
date_text_of now = imf_fixdate (date_parts_of now)
