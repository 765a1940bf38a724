-- The year, the month and the day of a day number: counting those that have begun finds the date.
use Rattle.std.proofs.Common.{◌≡◌, ℕ, zero, suc, ◌+◌, ◌-◌, ◌<◌, ◌≤◌, inl, inr, Bool, true, false, refl, sym, ap, subst, arith, rules, ℤ, pos, negsuc, unsigned_abs}
use Rattle.std.proofs.lemmas.Bool.Decides.{nat_tests}
use Rattle.std.proofs.lemmas.Bool.{cases_lt}
use Rattle.jiff_core.specs.Calendar.{day_count, days_in_month, days_from_civil, IsCivilDate}
use Rattle.jiff_core.proofs.SignedLemmas.{signed_arith}
use Rattle.jiff_core.proofs.MarchLemmas.{day_count-early}
use Rattle.jiff_core.proofs.CalendarLemmas.{days_from_civil-day_count, day_count-epoch, day_count-later_year, day_count-day_of_year, day_count-lt_year, day_count-lt_month, day_count-day, day_count-next_month, day_count-next_year, day_count-last_of_year, day_count-end, days_in_month_bounds}
use borrow.Author.Differences.{up, down}
use Rattle.hudi_base.specs.Calendar.{day_number, passing, has_come, year_of, month_of}

-- a test that passes from 1 to j and then fails counts to j
pub passing_front : (test : ℕ → Bool) (j n : ℕ) → j ≤ n → ((k : ℕ) → 1 ≤ k → k ≤ j → test k ≡ true) → ((k : ℕ) → j < k → k ≤ n → test k ≡ false) → passing test n ≡ j
unfolding passing
passing_front test j zero h pass fail = omega arith
passing_front test j (suc n) h pass fail =
    elim (cases_lt j (suc n)) [
      | inl lt ↦ rw (fail (suc n) lt (omega arith)) (omega (arith, passing_front test j n (omega arith) pass (λ k low high. fail k low (omega arith))))
      | inr ge ↦ rw (pass (suc n) (omega arith) (omega arith)) (omega (arith, passing_front test n n (omega arith) (λ k low high. pass k low (omega arith)) (λ k low high. absurd (omega arith))))
    ]

-- a date that an instant may have
pub record IsDay (y m d : ℕ) : Type 0 where
  pub year_from : 2000 ≤ y
  pub year_to : y ≤ 9999
  pub month_from : 1 ≤ m
  pub month_to : m ≤ 12
  pub day_from : 1 ≤ d
  pub day_to : d ≤ days_in_month (pos y) m

-- the library has it
pub IsCivilDate-from_day : (y m d : ℕ) → IsDay y m d → IsCivilDate (pos y) m d
IsCivilDate-from_day y m d h = ((omega (arith, signed_arith), omega (arith, signed_arith)), (h.month_from, h.month_to), (h.day_from, h.day_to))

-- a number that is not negative is as far from 0 as it lies above
unsigned_abs-above : (z : ℤ) (n k : ℕ) → up z + k ≡ down z + n → k ≤ n → unsigned_abs z + k ≡ n
unsigned_abs-above (pos a) n k e h = omega (arith, signed_arith)
unsigned_abs-above (negsuc a) n k e h = absurd (omega (arith, signed_arith))

-- after 1970 the day number is the day count less that of the epoch
pub day_number-day_count : (y m d : ℕ) → 1970 < y → 1 ≤ d → day_number y m d + 4_371_953 ≡ day_count (pos y) m d
day_number-day_count y m d late low =
    unsigned_abs-above (days_from_civil (pos y) m d) _ _ (days_from_civil-day_count (pos y) m d)
    (omega (arith, signed_arith, day_count-epoch, day_count-later_year (pos 1970) (pos y) (omega (arith, signed_arith)) (omega (arith, signed_arith)), day_count-day_of_year (pos y) m d low))

-- ---- what has come on a day

-- the first day of the year is the date's or before it
year_begun : (y m d : ℕ) → 1 ≤ d → day_count (pos y) 1 1 ≤ day_count (pos y) m d
year_begun y m d low =
    omega (arith, day_count-day_of_year (pos y) m d low, day_count-day_of_year (pos y) 1 1 (omega arith))

-- a first day that is no later than the day has come, and one that is later has not
has_come-true : (y m day : ℕ) → day_number y m 1 ≤ day → has_come y m day ≡ true
has_come-true y m day h = grind (arith, nat_tests)

has_come-false : (y m day : ℕ) → day < day_number y m 1 → has_come y m day ≡ false
has_come-false y m day h = grind (arith, nat_tests)

-- each year up to the date's has begun
years_begun : (y m d k : ℕ) → IsDay y m d → 1970 < k → k ≤ y → day_number k 1 1 ≤ day_number y m d
years_begun y m d k h late before =
    elim (cases_lt k y) [
      | inl lt ↦ omega (arith, year_begun y m d h.day_from, day_number-day_count y m d (omega arith) h.day_from, day_number-day_count k 1 1 late (omega arith), day_count-later_year (pos k) (pos y) (omega (arith, signed_arith)) (omega (arith, signed_arith)))
      | inr ge ↦ let same : k ≡ y = omega arith in rw same (omega (arith, year_begun y m d h.day_from, day_number-day_count y m d (omega arith) h.day_from, day_number-day_count y 1 1 (omega arith) (omega arith)))
    ]

-- and no later one
later_years : (y m d k : ℕ) → IsDay y m d → y < k → day_number y m d < day_number k 1 1
later_years y m d k h after =
    omega (arith, day_number-day_count y m d (omega arith) h.day_from, day_number-day_count k 1 1 (omega arith) (omega arith), day_count-lt_year (pos y) m d (pos k) 1 1 (IsCivilDate-from_day y m d h) (omega arith) (omega (arith, signed_arith)))

-- each month of the year up to the date's has begun
months_begun : (y m d k : ℕ) → IsDay y m d → 1 ≤ k → k ≤ m → day_number y k 1 ≤ day_number y m d
months_begun y m d k h low before =
    elim (cases_lt k m) [
      | inl lt ↦ omega (arith, day_number-day_count y m d (omega arith) h.day_from, day_number-day_count y k 1 (omega arith) (omega arith), day_count-lt_month (pos y) k 1 m d (first_of_month y m d k h low before) h.day_from lt)
      | inr ge ↦ let same : k ≡ m = omega arith in rw same (omega (arith, h, day_number-day_count y m d (omega arith) h.day_from, day_number-day_count y m 1 (omega arith) (omega arith), day_count-day (pos y) m d 1 h.day_from (omega arith)))
    ]
  where
    first_of_month : (y m d k : ℕ) → IsDay y m d → 1 ≤ k → k ≤ m → IsCivilDate (pos y) k 1
    first_of_month y m d k h low before =
        let date = IsCivilDate-from_day y m d h in
        (date.0, (low, omega arith), (omega arith, omega (arith, days_in_month_bounds (pos y) k)))

-- and no later one
later_months : (y m d k : ℕ) → IsDay y m d → m < k → day_number y m d < day_number y k 1
later_months y m d k h after =
    omega (arith, day_number-day_count y m d (omega arith) h.day_from, day_number-day_count y k 1 (omega arith) (omega arith), day_count-lt_month (pos y) m d k 1 (IsCivilDate-from_day y m d h) (omega arith) after)

-- ---- a date's number gives back the year, the month and the day

pub year_of-day_number : (y m d : ℕ) → IsDay y m d → year_of (day_number y m d) ≡ y
unfolding year_of
year_of-day_number y m d h =
    let count = passing_front (λ n. has_come (2000 + n) 1 (day_number y m d)) (y - 2000) 7999 (omega arith)
    (λ k low high. has_come-true (2000 + k) 1 _ (years_begun y m d (2000 + k) h (omega arith) (omega arith)))
    (λ k low high. has_come-false (2000 + k) 1 _ (later_years y m d (2000 + k) h (omega arith))) in
    omega arith

pub month_of-day_number : (y m d : ℕ) → IsDay y m d → month_of y (day_number y m d) ≡ m
unfolding month_of
month_of-day_number y m d h =
    let count = passing_front (λ n. has_come y (1 + n) (day_number y m d)) (m - 1) 11 (omega arith)
    (λ k low high. has_come-true y (1 + k) _ (months_begun y m d (1 + k) h (omega arith) (omega arith)))
    (λ k low high. has_come-false y (1 + k) _ (later_months y m d (1 + k) h (omega arith))) in
    omega arith

pub day_number-day : (y m d : ℕ) → IsDay y m d → day_number y m d + 1 ≡ day_number y m 1 + d
day_number-day y m d h =
    omega (arith, day_number-day_count y m d (omega arith) h.day_from, day_number-day_count y m 1 (omega arith) (omega arith), day_count-day (pos y) m d 1 h.day_from (omega arith))

-- ---- each day from 2000 to 9999 has a date

-- a date with this day number
pub record DateAt (day : ℕ) : Type 0 where
  pub year : ℕ
  pub month : ℕ
  pub day_of_month : ℕ
  pub is_day : IsDay year month day_of_month
  pub number : day_number year month day_of_month ≡ day

days_from_2000 : day_count (pos 2000) 1 1 ≡ 4_382_910
days_from_2000 = day_count-early (pos 2000) 11999 1 1 refl (omega arith) (omega arith) (omega arith)

-- the first and the last day
pub day_number-first : day_number 2000 1 1 ≡ 10_957
day_number-first = omega (arith, day_number-day_count 2000 1 1 (omega arith) (omega arith), days_from_2000)

pub day_number-last : day_number 9999 12 31 ≡ 2_932_896
day_number-last =
    omega (arith, day_number-day_count 9999 12 31 (omega arith) (omega arith), day_count-last_of_year (pos 9999), day_count-next_year (pos 9999) (pos 10000) (search rules) refl, day_count-end)

-- the day after the last one
day_number-end : day_number 10000 1 1 ≡ 2_932_897
day_number-end = omega (arith, day_number-day_count 10000 1 1 (omega arith) (omega arith), day_count-end)

first_day : IsDay 2000 1 1
first_day = record { year_from = omega arith; year_to = omega arith; month_from = omega arith; month_to = omega arith; day_from = omega arith; day_to = omega (arith, days_in_month_bounds (pos 2000) 1) }

pub last_day : IsDay 9999 12 31
last_day = record { year_from = omega arith; year_to = omega arith; month_from = omega arith; month_to = omega arith; day_from = omega arith; day_to = omega arith }

-- the day after a date: in its month, in the next month, or in the next year
next_in_month : (y m d : ℕ) → IsDay y m d → d < days_in_month (pos y) m → DateAt (day_number y m d + 1)
next_in_month y m d h within = record {
  year = y;
  month = m;
  day_of_month = d + 1;
  is_day = record { year_from = h.year_from; year_to = h.year_to; month_from = h.month_from; month_to = h.month_to; day_from = omega arith; day_to = omega arith };
  number = omega (arith, day_number-day_count y m d (omega arith) h.day_from, day_number-day_count y m (d + 1) (omega arith) (omega arith), day_count-day (pos y) m d (d + 1) h.day_from (omega arith));
}

next_in_year : (y m d : ℕ) → IsDay y m d → days_in_month (pos y) m ≤ d → m < 12 → DateAt (day_number y m d + 1)
next_in_year y m d h last before = record {
  year = y;
  month = m + 1;
  day_of_month = 1;
  is_day = record { year_from = h.year_from; year_to = h.year_to; month_from = omega arith; month_to = omega arith; day_from = omega arith; day_to = omega (arith, days_in_month_bounds (pos y) (m + 1)) };
  number = omega (arith, day_number-day_count y m d (omega arith) h.day_from, day_number-day_count y (m + 1) 1 (omega arith) (omega arith), day_count-next_month (pos y) m h.month_from, day_count-day (pos y) m d 1 h.day_from (omega arith));
}

next_new_year : (y d : ℕ) → IsDay y 12 d → d ≡ 31 → day_number y 12 d < 2_932_896 → DateAt (day_number y 12 d + 1)
next_new_year y d h last before =
    let last_day : day_number y 12 d ≡ day_number y 12 31 = ap (λ (d : ℕ). day_number y 12 d) last in
    let apart : ¬ (y ≡ 9999) = λ e. let same : day_number y 12 31 ≡ day_number 9999 12 31 = ap (λ (y : ℕ). day_number y 12 31) e in omega (arith, day_number-last) in
    record {
      year = y + 1;
      month = 1;
      day_of_month = 1;
      is_day = record { year_from = omega arith; year_to = omega arith; month_from = omega arith; month_to = omega arith; day_from = omega arith; day_to = omega (arith, days_in_month_bounds (pos (y + 1)) 1) };
      number = omega (arith, day_number-day_count y 12 31 (omega arith) (omega arith), day_number-day_count (y + 1) 1 1 (omega arith) (omega arith), day_count-last_of_year (pos y), day_count-next_year (pos y) (pos (y + 1)) (omega (arith, signed_arith)) (omega (arith, signed_arith)));
    }

next_date : (y m d : ℕ) → IsDay y m d → day_number y m d < 2_932_896 → DateAt (day_number y m d + 1)
next_date y m d h before =
    elim (cases_lt d (days_in_month (pos y) m)) [
      | inl within ↦ next_in_month y m d h within
      | inr last ↦ elim (cases_lt m 12) [
        | inl month ↦ next_in_year y m d h last month
        | inr december ↦ in_december y m d h last (omega arith) before
      ]
    ]
  where
    in_december : (y m d : ℕ) → IsDay y m d → days_in_month (pos y) m ≤ d → m ≡ 12 → day_number y m d < 2_932_896 → DateAt (day_number y m d + 1)
    in_december y m d h last december before =
        let P : ℕ → Type 0 = λ m. IsDay y m d → days_in_month (pos y) m ≤ d → day_number y m d < 2_932_896 → DateAt (day_number y m d + 1) in
        subst P (sym december) (λ h last before. next_new_year y d h (omega (arith, h)) before) h last before

-- each day from the first of 2000 to the last of 9999 has a date
pub date_at : (n : ℕ) → n ≤ 2_921_939 → DateAt (10_957 + n)
date_at zero h = record {
  year = 2000;
  month = 1;
  day_of_month = 1;
  is_day = first_day;
  number = day_number-first;
}
date_at (suc n) h =
    let here = date_at n (omega arith) in
    let next = next_date here.year here.month here.day_of_month here.is_day (omega (arith, here.number)) in
    record {
      year = next.year;
      month = next.month;
      day_of_month = next.day_of_month;
      is_day = next.is_day;
      number = omega (arith, next.number, here.number);
    }

-- ---- days outside these years

-- a date's number lies among those of these years
pub day_number-bounds : (y m d : ℕ) → IsDay y m d → (10_957 ≤ day_number y m d) × (day_number y m d ≤ 2_932_896)
day_number-bounds y m d h =
    omega (arith, day_number-first, years_begun y m d 2000 h (omega arith) h.year_from, later_years y m d 10000 h (omega arith), day_number-end)

-- an earlier day counts as one of January 2000
pub year_of-early : (day : ℕ) → day < 10_957 → year_of day ≡ 2000
unfolding year_of
year_of-early day h =
    let count = passing_front (λ n. has_come (2000 + n) 1 day) 0 7999 (omega arith) (λ k low high. absurd (omega arith))
    (λ k low high. has_come-false (2000 + k) 1 _ (omega (arith, day_number-first, later_years 2000 1 1 (2000 + k) first_day (omega arith)))) in
    omega arith

pub month_of-early : (day : ℕ) → day < 10_957 → month_of 2000 day ≡ 1
unfolding month_of
month_of-early day h =
    let count = passing_front (λ n. has_come 2000 (1 + n) day) 0 11 (omega arith) (λ k low high. absurd (omega arith))
    (λ k low high. has_come-false 2000 (1 + k) _ (omega (arith, day_number-first, later_months 2000 1 1 (1 + k) first_day (omega arith)))) in
    omega arith

-- and a later one as one of December 9999
pub year_of-late : (day : ℕ) → 2_932_896 < day → year_of day ≡ 9999
unfolding year_of
year_of-late day h =
    let count = passing_front (λ n. has_come (2000 + n) 1 day) 7999 7999 (omega arith)
    (λ k low high. has_come-true (2000 + k) 1 _ (omega (arith, day_number-last, years_begun 9999 12 31 (2000 + k) last_day (omega arith) (omega arith))))
    (λ k low high. absurd (omega arith)) in
    omega arith

pub month_of-late : (day : ℕ) → 2_932_896 < day → month_of 9999 day ≡ 12
unfolding month_of
month_of-late day h =
    let count = passing_front (λ n. has_come 9999 (1 + n) day) 11 11 (omega arith)
    (λ k low high. has_come-true 9999 (1 + k) _ (omega (arith, day_number-last, months_begun 9999 12 31 (1 + k) last_day (omega arith) (omega arith))))
    (λ k low high. absurd (omega arith)) in
    omega arith
