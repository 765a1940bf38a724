-- The times of instants: from 2000 to 9999, to the millisecond, written as yyyyMMddHHmmssSSS in UTC. That they are
-- in UTC, and the range, are this project's own.
use Rattle.std.specs.Prelude.{ℕ, ◌+◌, ◌-◌, ◌*◌, ◌/◌, ◌%◌, ◌≤◌, ◌==◌, ◌&&◌, ◌||◌, nat_le, nat_lt, not, Bool, if◌then◌else◌, min, max, ℤ, pos, negsuc, List, [], ◌∷◌, ◌++◌, length, take, drop, Option, Some, None, is_none, position}
use Rattle.std.specs.Option.{option_or}
use Rattle.jiff_core.specs.Calendar.{days_in_month}
use Rattle.hudi_base.specs.Calendar.{Civil, civil_of, civil_ms}

-- 20000101000000000
abbrev pub first_time : ℕ
first_time = 946_684_800_000

-- 99991231235959999
abbrev pub last_time : ℕ
last_time = 253_402_300_799_999

-- a time that an instant may have
abbrev pub IsTime : ℕ → Type 0
IsTime t = (first_time ≤ t) × (t ≤ last_time)

-- a number brought into the range
abbrev pub nearest_time : ℤ → ℕ
nearest_time (pos n) = min (max first_time n) last_time
nearest_time (negsuc n) = first_time

-- the least time above the last one that is no earlier than the clock's
abbrev pub time_after : ℕ → ℤ → ℕ
time_after last now = max (last + 1) (nearest_time now)

-- the digit of a number below ten
abbrev pub digit : ℕ → ℕ
digit n = 48 + n

-- two, three and four digits, with zeros before
abbrev pub two_digits : ℕ → List ℕ
two_digits n = digit (n / 10) ∷ digit (n % 10) ∷ []

abbrev pub three_digits : ℕ → List ℕ
three_digits n = digit (n / 100) ∷ two_digits (n % 100)

abbrev pub four_digits : ℕ → List ℕ
four_digits n = two_digits (n / 100) ++ two_digits (n % 100)

-- yyyyMMddHHmmssSSS
abbrev pub civil_text : Civil → List ℕ
civil_text c =
    four_digits c.year ++ two_digits c.month ++ two_digits c.day
    ++ two_digits c.hour ++ two_digits c.minute ++ two_digits c.second ++ three_digits c.milli

-- the text of a time
unfoldable pub time_text : ℕ → List ℕ
time_text t = civil_text (civil_of t)

-- ---- which texts are of a time, and where one that is not goes wrong

abbrev pub is_digit : ℕ → Bool
is_digit byte = nat_le 48 byte && nat_le byte 57

-- the number that digits write
abbrev pub digits_value : ℕ → List ℕ → ℕ
digits_value before [] = before
digits_value before (byte ∷ bytes) = digits_value (before * 10 + (byte - 48)) bytes

-- the number that stands at an offset
abbrev pub field : ℕ → ℕ → List ℕ → ℕ
field at len text = digits_value 0 (take len (drop at text))

-- what seventeen digits say
abbrev pub civil_at : List ℕ → Civil
civil_at text = record {
  year = field 0 4 text;
  month = field 4 2 text;
  day = field 6 2 text;
  hour = field 8 2 text;
  minute = field 10 2 text;
  second = field 12 2 text;
  milli = field 14 3 text;
}

-- the offset of the first field that is out of its range
abbrev pub field_out_of_range : Civil → Option ℕ
field_out_of_range c =
    if nat_lt c.year 2000 then Some 0
    else (if c.month == 0 || nat_lt 12 c.month then Some 4
    else (if c.day == 0 || nat_lt (days_in_month (pos c.year) c.month) c.day then Some 6
    else (if nat_lt 23 c.hour then Some 8
    else (if nat_lt 59 c.minute then Some 10
    else (if nat_lt 59 c.second then Some 12
    else None)))))

-- of a text of digits alone: it ends too soon or too late, or a field is out of range
abbrev pub digits_go_wrong : List ℕ → Option ℕ
digits_go_wrong text = if length text == 17 then field_out_of_range (civil_at text) else Some (min (length text) 17)

-- The first byte that is no digit comes before all else, wherever it stands.
abbrev pub goes_wrong : List ℕ → Option ℕ
goes_wrong text = option_or (position (λ byte. not (is_digit byte)) text) (digits_go_wrong text)

-- the time whose text it is
unfoldable pub time_of : List ℕ → Option ℕ
time_of text = if is_none (goes_wrong text) then Some (civil_ms (civil_at text)) else None
