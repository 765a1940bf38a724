-- Texts of times are ordered as their times are.
use Rattle.std.proofs.Common.{◌≡◌, ℕ, Ordering, Less, Equal, ◌+◌, ◌*◌, ◌/◌, ◌%◌, ◌<◌, ◌≤◌, inl, inr, List, [], ◌∷◌, ◌++◌, refl, sym, ap, subst, ◌∙◌, arith, pos}
use Rattle.std.specs.Ordering.{nat_cmp, ordering_then}
use Rattle.std.specs.Cmp.{nat_cmp_is}
use Rattle.std.specs.Cmp.Lexicographic.{slice_cmp}
use Rattle.std.proofs.lemmas.Bool.{cases_lt}
use Rattle.jiff_core.proofs.SignedLemmas.{signed_arith}
use Rattle.jiff_core.proofs.CalendarLemmas.{day_count-lt_year, day_count-lt_month, day_count-day}
use Rattle.hudi_base.specs.Calendar.{Civil, IsCivil, civil_of, civil_ms, day_number}
use Rattle.hudi_base.specs.InstantTime.{IsTime, digit, two_digits, three_digits, four_digits, civil_text, time_text}
use Rattle.hudi_base.proofs.CalendarLemmas.{IsDay, IsCivilDate-from_day, day_number-day_count}
use Rattle.hudi_base.proofs.CivilLemmas.{IsDay-from_civil, ms_of_day, civil_ms-parts}
use Rattle.hudi_base.proofs.DigitsLemmas.{from_second, from_minute, from_hour, from_day, from_month}
use Rattle.hudi_base.proofs.Times as times

-- the first text comes before the second
abbrev IsLess : List ℕ → List ℕ → Type 0
IsLess xs ys = slice_cmp nat_cmp xs ys ≡ Less

-- ---- digits

by_first : (x y : ℕ) (xs ys : List ℕ) → x < y → IsLess (x ∷ xs) (y ∷ ys)
by_first x y xs ys h = ap (λ (o : Ordering). ordering_then o (slice_cmp nat_cmp xs ys)) (sym (nat_cmp_is x y Less h))

by_rest : (x y : ℕ) (xs ys : List ℕ) → x ≡ y → IsLess xs ys → IsLess (x ∷ xs) (y ∷ ys)
by_rest x y xs ys e h = ap (λ (o : Ordering). ordering_then o (slice_cmp nat_cmp xs ys)) (sym (nat_cmp_is x y Equal e)) ∙ h

-- two digits of a number, and what follows
two_less : (n m : ℕ) (xs ys : List ℕ) → n < m → IsLess (two_digits n ++ xs) (two_digits m ++ ys)
two_less n m xs ys h =
    elim (cases_lt (n / 10) (m / 10)) [
      | inl tens ↦ by_first (digit (n / 10)) (digit (m / 10)) (digit (n % 10) ∷ xs) (digit (m % 10) ∷ ys) (omega arith)
      | inr same ↦ by_rest (digit (n / 10)) (digit (m / 10)) (digit (n % 10) ∷ xs) (digit (m % 10) ∷ ys) (omega arith) (by_first (digit (n % 10)) (digit (m % 10)) xs ys (omega arith))
    ]

two_same : (n m : ℕ) (xs ys : List ℕ) → n ≡ m → IsLess xs ys → IsLess (two_digits n ++ xs) (two_digits m ++ ys)
two_same n m xs ys e h =
    by_rest (digit (n / 10)) (digit (m / 10)) (digit (n % 10) ∷ xs) (digit (m % 10) ∷ ys) (omega arith) (by_rest (digit (n % 10)) (digit (m % 10)) xs ys (omega arith) h)

-- two digits of a number, and an end that decides where the numbers are the same
by_two : (n m : ℕ) (xs ys : List ℕ) → n ≤ m → (n ≡ m → IsLess xs ys) → IsLess (two_digits n ++ xs) (two_digits m ++ ys)
by_two n m xs ys h rest =
    elim (cases_lt n m) [
      | inl less ↦ two_less n m xs ys less
      | inr same ↦ two_same n m xs ys (omega arith) (rest (omega arith))
    ]

by_three : (n m : ℕ) → n < m → IsLess (three_digits n) (three_digits m)
by_three n m h =
    elim (cases_lt (n / 100) (m / 100)) [
      | inl less ↦ by_first (digit (n / 100)) (digit (m / 100)) (two_digits (n % 100)) (two_digits (m % 100)) (omega arith)
      | inr same ↦ by_rest (digit (n / 100)) (digit (m / 100)) (two_digits (n % 100)) (two_digits (m % 100)) (omega arith) (two_less (n % 100) (m % 100) [] [] (omega arith))
    ]

by_four : (n m : ℕ) (xs ys : List ℕ) → n ≤ m → (n ≡ m → IsLess xs ys) → IsLess (four_digits n ++ xs) (four_digits m ++ ys)
by_four n m xs ys h rest =
    by_two (n / 100) (m / 100) (two_digits (n % 100) ++ xs) (two_digits (m % 100) ++ ys) (omega arith)
    (λ e. by_two (n % 100) (m % 100) xs ys (omega arith) (λ f. rest (omega arith)))

-- ---- the time of a day

from_second_less : (c d : Civil) → IsCivil c → IsCivil d → c.second * 1000 + c.milli < d.second * 1000 + d.milli → IsLess (from_second c) (from_second d)
from_second_less c d p q h =
    by_two c.second d.second (three_digits c.milli) (three_digits d.milli) (omega (arith, p, q)) (λ e. by_three c.milli d.milli (omega arith))

from_minute_less : (c d : Civil) → IsCivil c → IsCivil d → c.minute * 60_000 + c.second * 1000 + c.milli < d.minute * 60_000 + d.second * 1000 + d.milli → IsLess (from_minute c) (from_minute d)
from_minute_less c d p q h =
    by_two c.minute d.minute (from_second c) (from_second d) (omega (arith, p, q)) (λ e. from_second_less c d p q (omega arith))

from_hour_less : (c d : Civil) → IsCivil c → IsCivil d → ms_of_day c < ms_of_day d → IsLess (from_hour c) (from_hour d)
from_hour_less c d p q h =
    by_two c.hour d.hour (from_minute c) (from_minute d) (omega (arith, p, q)) (λ e. from_minute_less c d p q (omega arith))

-- ---- dates

-- a date of an earlier year, or of an earlier month, has a smaller number
years_ordered : (y m d y' m' d' : ℕ) → IsDay y m d → IsDay y' m' d' → y < y' → day_number y m d < day_number y' m' d'
years_ordered y m d y' m' d' h k less =
    omega (arith, day_number-day_count y m d (omega (arith, h)) h.day_from, day_number-day_count y' m' d' (omega (arith, k)) k.day_from, day_count-lt_year (pos y) m d (pos y') m' d' (IsCivilDate-from_day y m d h) k.day_from (omega (arith, signed_arith)))

months_ordered : (y m d m' d' : ℕ) → IsDay y m d → IsDay y m' d' → m < m' → day_number y m d < day_number y m' d'
months_ordered y m d m' d' h k less =
    omega (arith, day_number-day_count y m d (omega (arith, h)) h.day_from, day_number-day_count y m' d' (omega (arith, k)) k.day_from, day_count-lt_month (pos y) m d m' d' (IsCivilDate-from_day y m d h) k.day_from less)

days_ordered : (y m d d' : ℕ) → IsDay y m d → IsDay y m d' → d < d' → day_number y m d < day_number y m d'
days_ordered y m d d' h k less =
    omega (arith, day_number-day_count y m d (omega (arith, h)) h.day_from, day_number-day_count y m d' (omega (arith, k)) k.day_from, day_count-day (pos y) m d d' h.day_from (omega arith))

-- so where one number isn't above the other, neither is the year, nor the month of the same year, nor the day of the same month
year_from_number : (y m d y' m' d' : ℕ) → IsDay y m d → IsDay y' m' d' → day_number y m d ≤ day_number y' m' d' → y ≤ y'
year_from_number y m d y' m' d' h k le =
    elim (cases_lt y' y) [
      | inl less ↦ absurd (omega (arith, years_ordered y' m' d' y m d k h less))
      | inr from ↦ from
    ]

month_from_number : (y m d y' m' d' : ℕ) → IsDay y m d → IsDay y' m' d' → y ≡ y' → day_number y m d ≤ day_number y' m' d' → m ≤ m'
month_from_number y m d y' m' d' h k year le =
    let same : day_number y m' d' ≡ day_number y' m' d' = ap (λ (n : ℕ). day_number n m' d') year in
    let moved : IsDay y m' d' = subst (λ (n : ℕ). IsDay n m' d') (sym year) k in
    elim (cases_lt m' m) [
      | inl less ↦ absurd (omega (arith, same, months_ordered y m' d' m d moved h less))
      | inr from ↦ from
    ]

day_from_number : (y m d y' m' d' : ℕ) → IsDay y m d → IsDay y' m' d' → y ≡ y' → m ≡ m' → day_number y m d ≤ day_number y' m' d' → d ≤ d'
day_from_number y m d y' m' d' h k year month le =
    let same : day_number y m d' ≡ day_number y' m' d' = ap (λ (n : ℕ). day_number n m d') year ∙ ap (λ (n : ℕ). day_number y' n d') month in
    let moved : IsDay y m d' = subst (λ (n : ℕ). IsDay n m d') (sym year) (subst (λ (n : ℕ). IsDay y' n d') (sym month) k) in
    elim (cases_lt d' d) [
      | inl less ↦ absurd (omega (arith, same, days_ordered y m d' d moved h less))
      | inr from ↦ from
    ]

-- ---- whole texts

number_ordered : (c d : Civil) → IsCivil c → IsCivil d → civil_ms c < civil_ms d → day_number c.year c.month c.day ≤ day_number d.year d.month d.day
number_ordered c d p q h = omega (arith, civil_ms-parts c p, civil_ms-parts d q)

same_number : (c d : Civil) → c.year ≡ d.year → c.month ≡ d.month → c.day ≡ d.day → day_number c.year c.month c.day ≡ day_number d.year d.month d.day
same_number c d year month day = rw (year, month, day) refl

ms_ordered : (c d : Civil) → IsCivil c → IsCivil d → civil_ms c < civil_ms d → day_number c.year c.month c.day ≡ day_number d.year d.month d.day → ms_of_day c < ms_of_day d
ms_ordered c d p q h same = omega (arith, civil_ms-parts c p, civil_ms-parts d q)

civil_less : (c d : Civil) → IsCivil c → IsCivil d → civil_ms c < civil_ms d → IsLess (civil_text c) (civil_text d)
civil_less c d p q h =
    let a = IsDay-from_civil c p in
    let b = IsDay-from_civil d q in
    let le = number_ordered c d p q h in
    by_four c.year d.year (from_month c) (from_month d) (year_from_number c.year c.month c.day d.year d.month d.day a b le)
    (λ year. by_two c.month d.month (from_day c) (from_day d) (month_from_number c.year c.month c.day d.year d.month d.day a b year le)
    (λ month. by_two c.day d.day (from_hour c) (from_hour d) (day_from_number c.year c.month c.day d.year d.month d.day a b year month le)
    (λ day. from_hour_less c d p q (ms_ordered c d p q h (same_number c d year month day)))))

pub time_text_ordered : (a b : ℕ) → IsTime a → IsTime b → a < b → slice_cmp nat_cmp (time_text a) (time_text b) ≡ Less
unfolding time_text
time_text_ordered a b p q h =
    civil_less (civil_of a) (civil_of b) (times.IsCivil-civil_of a p) (times.IsCivil-civil_of b q)
    (omega (arith, times.civil_ms-civil_of a p, times.civil_ms-civil_of b q))
