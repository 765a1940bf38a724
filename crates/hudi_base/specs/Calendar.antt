-- Points of time as a calendar and a clock in UTC show them (ISO 8601, the proleptic Gregorian calendar).
use Rattle.std.specs.Prelude.{ℕ, zero, suc, ◌+◌, ◌-◌, ◌*◌, ◌/◌, ◌%◌, ◌<◌, ◌≤◌, Bool, nat_le, if◌then◌else◌, pos, unsigned_abs}
use Rattle.jiff_core.specs.Calendar.{days_from_civil, days_in_month}

-- what the calendar and the clock show
pub record Civil : Type 0 where
  pub year : ℕ
  pub month : ℕ
  pub day : ℕ
  pub hour : ℕ
  pub minute : ℕ
  pub second : ℕ
  pub milli : ℕ

-- they can show it, in the years 2000 to 9999
pub record IsCivil (c : Civil) : Type 0 where
  pub year_from : 2000 ≤ c.year
  pub year_to : c.year ≤ 9999
  pub month_from : 1 ≤ c.month
  pub month_to : c.month ≤ 12
  pub day_from : 1 ≤ c.day
  pub day_to : c.day ≤ days_in_month (pos c.year) c.month
  pub hour_to : c.hour < 24
  pub minute_to : c.minute < 60
  pub second_to : c.second < 60
  pub milli_to : c.milli < 1000

-- each field has no more digits than it is written with
pub record IsWritable (c : Civil) : Type 0 where
  pub year : c.year < 10_000
  pub month : c.month < 100
  pub day : c.day < 100
  pub hour : c.hour < 100
  pub minute : c.minute < 100
  pub second : c.second < 100
  pub milli : c.milli < 1000

-- the number of a day, counted from 1 January 1970
abbrev pub day_number : ℕ → ℕ → ℕ → ℕ
day_number year month day = unsigned_abs (days_from_civil (pos year) month day)

-- milliseconds since the beginning of 1970
unfoldable pub civil_ms : Civil → ℕ
civil_ms c = day_number c.year c.month c.day * 86_400_000 + c.hour * 3_600_000 + c.minute * 60_000 + c.second * 1000 + c.milli

-- how many of the numbers from 1 to n pass
unfoldable pub passing : (ℕ → Bool) → ℕ → ℕ
passing test zero = 0
passing test (suc n) = passing test n + (if test (suc n) then 1 else 0)

-- the first day of the month is this day or before it
abbrev pub has_come : ℕ → ℕ → ℕ → Bool
has_come year month day = nat_le (day_number year month 1) day

-- the year of a day: after 2000 each year counts whose first day has come
unfoldable pub year_of : ℕ → ℕ
year_of day = 2000 + passing (λ n. has_come (2000 + n) 1 day) 7999

-- the month of a day of that year: after January each month counts whose first day has come
unfoldable pub month_of : ℕ → ℕ → ℕ
month_of year day = 1 + passing (λ n. has_come year (1 + n) day) 11

-- what the calendar and the clock show that many milliseconds after the beginning of 1970
unfoldable pub civil_of : ℕ → Civil
civil_of ms =
    let day = ms / 86_400_000 in
    let rest = ms % 86_400_000 in
    let year = year_of day in
    let month = month_of year day in
    record {
      year = year;
      month = month;
      day = day + 1 - day_number year month 1;
      hour = rest / 3_600_000;
      minute = rest / 60_000 % 60;
      second = rest / 1000 % 60;
      milli = rest % 1000;
    }
