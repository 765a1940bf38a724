-- What a calendar and a clock show, and the milliseconds, give each other back.
use Rattle.std.proofs.Common.{◌≡◌, ℕ, ◌+◌, ◌-◌, ◌*◌, ◌/◌, ◌%◌, ◌<◌, ◌≤◌, refl, sym, ap, ◌∙◌, arith, ℤ, pos, negsuc, ◌≤ℤ◌, unsigned_abs}
use Rattle.std.proofs.lemmas.Int.{by_lt_z}
use Rattle.jiff_core.specs.declared.civil.date.Date.{Date}
use Rattle.jiff_core.specs.Calendar.{days_from_civil}
use Rattle.jiff_core.specs.Date.{epoch_day}
use Rattle.jiff_core.proofs.SignedLemmas.{signed_arith}
use Rattle.jiff_core.proofs.CalendarLemmas.{days_from_civil-day_count, day_count-epoch, day_count-lt_year}
use Rattle.jiff_core.proofs.DateLemmas.{civil as civil_date}
use Rattle.hudi_base.specs.Calendar.{Civil, IsCivil, day_number, civil_ms, civil_of, year_of, month_of}
use Rattle.hudi_base.specs.InstantTime.{IsTime, first_time, last_time}
use Rattle.hudi_base.proofs.CalendarLemmas.{IsDay, day_number-day_count, DateAt, date_at, year_of-day_number, month_of-day_number, day_number-day, day_number-bounds, day_number-first, day_number-last, last_day, year_of-early, month_of-early, year_of-late, month_of-late}

abbrev made : ℕ → ℕ → ℕ → ℕ → ℕ → ℕ → ℕ → Civil
made year month day hour minute second milli = record { year = year; month = month; day = day; hour = hour; minute = minute; second = second; milli = milli }

-- two that show the same are the same
pub same_civil : (a b : Civil) → a.year ≡ b.year → a.month ≡ b.month → a.day ≡ b.day → a.hour ≡ b.hour → a.minute ≡ b.minute → a.second ≡ b.second → a.milli ≡ b.milli → a ≡ b
same_civil a b year month day hour minute second milli =
    let e : made a.year a.month a.day a.hour a.minute a.second a.milli ≡ made b.year b.month b.day b.hour b.minute b.second b.milli = rw (year, month, day, hour, minute, second, milli) refl in
    e

pub IsDay-from_civil : (c : Civil) → IsCivil c → IsDay c.year c.month c.day
IsDay-from_civil c h = record { year_from = h.year_from; year_to = h.year_to; month_from = h.month_from; month_to = h.month_to; day_from = h.day_from; day_to = h.day_to }

-- the milliseconds of the day
abbrev pub ms_of_day : Civil → ℕ
ms_of_day c = c.hour * 3_600_000 + c.minute * 60_000 + c.second * 1000 + c.milli

pub civil_ms-parts : (c : Civil) → IsCivil c → (civil_ms c / 86_400_000 ≡ day_number c.year c.month c.day) × (civil_ms c % 86_400_000 ≡ ms_of_day c)
unfolding civil_ms
civil_ms-parts c h = (omega arith, omega arith)

-- what is shown on a day whose year and month are known
pub civil_of-parts : (t y m : ℕ) → year_of (t / 86_400_000) ≡ y → month_of y (t / 86_400_000) ≡ m → civil_of t ≡ record { year = y; month = m; day = t / 86_400_000 + 1 - day_number y m 1; hour = t % 86_400_000 / 3_600_000; minute = t % 86_400_000 / 60_000 % 60; second = t % 86_400_000 / 1000 % 60; milli = t % 86_400_000 % 1000 }
unfolding civil_of
civil_of-parts t y m year month = rw (year, month)

pub civil_of-civil_ms : (c : Civil) → IsCivil c → civil_of (civil_ms c) ≡ c
civil_of-civil_ms c h =
    let parts = civil_ms-parts c h in
    let is_day = IsDay-from_civil c h in
    let shown = civil_of-parts (civil_ms c) c.year c.month (rw parts.0 (year_of-day_number c.year c.month c.day is_day)) (rw parts.0 (month_of-day_number c.year c.month c.day is_day)) in
    shown ∙ same_civil _ c refl refl (omega (arith, day_number-day c.year c.month c.day is_day)) (omega arith) (omega arith) (omega arith) (omega arith)

pub IsTime-civil_ms : (c : Civil) → IsCivil c → IsTime (civil_ms c)
unfolding civil_ms
IsTime-civil_ms c h =
    let bounds = day_number-bounds c.year c.month c.day (IsDay-from_civil c h) in
    (omega arith, omega arith)

-- what is shown at a time, by a date of its day
shown_at : (t : ℕ) → DateAt (t / 86_400_000) → (c : Civil) × IsCivil c × (civil_ms c ≡ t)
unfolding civil_ms
shown_at t date = (
  record { year = date.year; month = date.month; day = date.day_of_month; hour = t % 86_400_000 / 3_600_000; minute = t % 86_400_000 / 60_000 % 60; second = t % 86_400_000 / 1000 % 60; milli = t % 86_400_000 % 1000 },
  record { year_from = date.is_day.year_from; year_to = date.is_day.year_to; month_from = date.is_day.month_from; month_to = date.is_day.month_to; day_from = date.is_day.day_from; day_to = date.is_day.day_to; hour_to = omega arith; minute_to = omega arith; second_to = omega arith; milli_to = omega arith },
  omega (arith, date.number),
)

by_shown : (t : ℕ) (c : Civil) → IsCivil c → civil_ms c ≡ t → IsCivil (civil_of t) × (civil_ms (civil_of t) ≡ t)
by_shown t c h e =
    let back : civil_of t ≡ c = ap civil_of (sym e) ∙ civil_of-civil_ms c h in
    rw back (h, e)

date_of_time : (t : ℕ) → IsTime t → DateAt (t / 86_400_000)
date_of_time t h =
    let day : 10_957 + (t / 86_400_000 - 10_957) ≡ t / 86_400_000 = omega arith in
    let date = date_at (t / 86_400_000 - 10_957) (omega arith) in
    rw day at date

pub civil_of_time : (t : ℕ) → IsTime t → IsCivil (civil_of t) × (civil_ms (civil_of t) ≡ t)
civil_of_time t h =
    let shown = shown_at t (date_of_time t h) in
    by_shown t shown.0 shown.1 shown.2

-- a number outside the times shows no day of the calendar
pub civil_of-early : (t : ℕ) → t < first_time → (civil_of t).day ≡ 0
civil_of-early t h =
    rw (civil_of-parts t 2000 1 (year_of-early _ (omega arith)) (month_of-early _ (omega arith))) (omega (arith, day_number-first))

pub civil_of-late : (t : ℕ) → last_time < t → ((civil_of t).month ≡ 12) × (31 < (civil_of t).day)
civil_of-late t h =
    rw (civil_of-parts t 9999 12 (year_of-late _ (omega arith)) (month_of-late _ (omega arith))) (refl, omega (arith, day_number-last, day_number-day 9999 12 31 last_day))

-- ---- the library's dates

from_zero : (z : ℤ) → pos 0 ≤ℤ z → z ≡ pos (unsigned_abs z)
from_zero (pos n) h = refl
from_zero (negsuc n) h = absurd (omega (arith, signed_arith))

-- a date after 1970 has the year as a natural number
year_of_date : (date : Date) (day : ℕ) → epoch_day date ≡ pos day → date.year ≡ pos (unsigned_abs date.year)
year_of_date date day e =
    by_lt_z date.year (pos 0)
    (λ before. absurd (omega (arith, signed_arith, days_from_civil-day_count date.year date.month date.day, day_count-lt_year date.year date.month date.day (pos 1970) 1 1 (civil_date date) (omega arith) (omega (arith, signed_arith)), day_count-epoch)))
    (λ from. from_zero date.year from)

-- the day number of such a date
pub day_number-date : (date : Date) (day : ℕ) → epoch_day date ≡ pos day → day_number (unsigned_abs date.year) date.month date.day ≡ day
day_number-date date day e =
    ap (λ (y : ℤ). unsigned_abs (days_from_civil y date.month date.day)) (sym (year_of_date date day e)) ∙ ap unsigned_abs e

IsDay-date : (date : Date) (day : ℕ) → epoch_day date ≡ pos day → 10_957 ≤ day → IsDay (unsigned_abs date.year) date.month date.day
IsDay-date date day e from =
    let year = year_of_date date day e in
    let late : 2000 ≤ unsigned_abs date.year = by_lt_z date.year (pos 2000)
    (λ before. absurd (omega (arith, signed_arith, days_from_civil-day_count date.year date.month date.day, day_count-lt_year date.year date.month date.day (pos 2000) 1 1 (civil_date date) (omega arith) before, day_number-day_count 2000 1 1 (omega arith) (omega arith), day_number-first)))
    (λ from. omega (arith, signed_arith)) in
    record {
      year_from = late;
      year_to = omega (arith, signed_arith, date.year_in);
      month_from = date.month_in.0;
      month_to = date.month_in.1;
      day_from = date.day_in.0;
      day_to = rw year at date.day_in.1;
    }

-- what is shown at a time, by the library's date of its day
pub civil_of-date : (t : ℕ) (date : Date) → IsTime t → epoch_day date ≡ pos (t / 86_400_000) → civil_of t ≡ record { year = unsigned_abs date.year; month = date.month; day = date.day; hour = t % 86_400_000 / 3_600_000; minute = t % 86_400_000 / 60_000 % 60; second = t % 86_400_000 / 1000 % 60; milli = t % 86_400_000 % 1000 }
civil_of-date t date h e =
    let y = unsigned_abs date.year in
    let is_day = IsDay-date date (t / 86_400_000) e (omega arith) in
    let number = day_number-date date (t / 86_400_000) e in
    let year = ap year_of (sym number) ∙ year_of-day_number y date.month date.day is_day in
    let month = ap (month_of y) (sym number) ∙ month_of-day_number y date.month date.day is_day in
    civil_of-parts t y date.month year month
    ∙ same_civil _ _ refl refl (omega (arith, number, day_number-day y date.month date.day is_day)) refl refl refl refl

-- the milliseconds of what is shown, by the library's date
pub civil_ms-date : (c : Civil) (date : Date) → date.year ≡ pos c.year → pos date.month ≡ pos c.month → pos date.day ≡ pos c.day → civil_ms c ≡ unsigned_abs (epoch_day date) * 86_400_000 + (c.hour * 60 + c.minute) * 60_000 + c.second * 1000 + c.milli
unfolding civil_ms
civil_ms-date c date year month day =
    let months : date.month ≡ c.month = omega (arith, signed_arith) in
    let days : date.day ≡ c.day = omega (arith, signed_arith) in
    rw (year, months, days) (omega arith)
