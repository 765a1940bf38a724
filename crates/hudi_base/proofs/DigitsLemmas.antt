-- Seventeen digits and the fields that they write give each other back.
use Rattle.std.proofs.Common.{◌≡◌, ℕ, ◌/◌, ◌%◌, ◌<◌, ◌≤◌, Bool, true, false, not, cond, ltb, eqb, List, [], ◌∷◌, ◌++◌, length, get_or, min, Option, Some, None, refl, arith, pos}
use Rattle.std.specs.Prelude.{◌||◌, ◌==◌, nat_lt}
use Rattle.std.specs.List.{All, position, position_or_len}
use Rattle.std.specs.Option.{option_or}
use Rattle.std.specs.Char.{IsAsciiDigit}
use Rattle.std.proofs.lemmas.Bool.Decides.{nat_tests}
use Rattle.std.proofs.lemmas.List.Sums.{position_or_len_is, fails_before_first}
use Rattle.std.proofs.lemmas.List.Elements.{All-nil, All-cons}
use Rattle.jiff_core.specs.Calendar.{days_in_month}
use Rattle.hudi_base.specs.Calendar.{Civil, IsCivil, IsWritable}
use Rattle.hudi_base.specs.InstantTime.{two_digits, three_digits, four_digits, digit, digits_value, is_digit, civil_text, civil_at, field_out_of_range, digits_go_wrong, goes_wrong}
use Rattle.hudi_base.proofs.CivilLemmas.{same_civil}

-- ---- no field out of range

pub field_out_of_range-None : (c : Civil) → IsCivil c → field_out_of_range c ≡ None
field_out_of_range-None c h = grind (arith, nat_tests)

-- a choice that gave nothing went on
went_on : (b : Bool) (k : ℕ) (rest : Option ℕ) → cond b (Some k) rest ≡ None → (b ≡ false) × (rest ≡ None)
went_on false k rest e = (refl, e)
went_on true k rest e = cc

pub IsCivil-in_range : (c : Civil) → field_out_of_range c ≡ None → c.year ≤ 9999 → c.milli < 1000 → IsCivil c
IsCivil-in_range c h year milli =
    let year_on = went_on (nat_lt c.year 2000) 0 _ h in
    let month_on = went_on (c.month == 0 || nat_lt 12 c.month) 4 _ year_on.1 in
    let day_on = went_on (c.day == 0 || nat_lt (days_in_month (pos c.year) c.month) c.day) 6 _ month_on.1 in
    let hour_on = went_on (nat_lt 23 c.hour) 8 _ day_on.1 in
    let minute_on = went_on (nat_lt 59 c.minute) 10 _ hour_on.1 in
    let second_on = went_on (nat_lt 59 c.second) 12 _ minute_on.1 in
    let months = neither _ _ month_on.0 in
    let days = neither _ _ day_on.0 in
    record {
      year_from = lt-false c.year 2000 year_on.0;
      year_to = year;
      month_from = above_zero _ months.0;
      month_to = lt-false 12 c.month months.1;
      day_from = above_zero _ days.0;
      day_to = lt-false _ c.day days.1;
      hour_to = omega (arith, lt-false 23 c.hour hour_on.0);
      minute_to = omega (arith, lt-false 59 c.minute minute_on.0);
      second_to = omega (arith, lt-false 59 c.second second_on.0);
      milli_to = milli;
    }
  where
    neither : (a b : Bool) → (a || b) ≡ false → (a ≡ false) × (b ≡ false)
    neither false b e = (refl, e)
    neither true b e = cc

    above_zero : (n : ℕ) → (n == 0) ≡ false → 1 ≤ n
    above_zero n e = grind (arith, nat_tests)

    lt-false : (a b : ℕ) → nat_lt a b ≡ false → b ≤ a
    lt-false a b e = grind (arith, nat_tests)

-- ---- digits and numbers

-- digits write a number below a power of ten
pub two_value : (a b : ℕ) → IsAsciiDigit a → IsAsciiDigit b → digits_value 0 (a ∷ b ∷ []) < 100
two_value a b p q = omega arith

pub three_value : (a b c : ℕ) → IsAsciiDigit a → IsAsciiDigit b → IsAsciiDigit c → digits_value 0 (a ∷ b ∷ c ∷ []) < 1000
three_value a b c p q r = omega arith

pub four_value : (a b c d : ℕ) → IsAsciiDigit a → IsAsciiDigit b → IsAsciiDigit c → IsAsciiDigit d → digits_value 0 (a ∷ b ∷ c ∷ d ∷ []) < 10_000
four_value a b c d p q r s = omega arith

-- and the number's digits are these
two_digits-value : (a b : ℕ) → IsAsciiDigit a → IsAsciiDigit b → two_digits (digits_value 0 (a ∷ b ∷ [])) ≡ a ∷ b ∷ []
two_digits-value a b p q =
    let tens : digit (digits_value 0 (a ∷ b ∷ []) / 10) ≡ a = omega arith in
    let ones : digit (digits_value 0 (a ∷ b ∷ []) % 10) ≡ b = omega arith in
    rw (tens, ones) refl

three_digits-value : (a b c : ℕ) → IsAsciiDigit a → IsAsciiDigit b → IsAsciiDigit c → three_digits (digits_value 0 (a ∷ b ∷ c ∷ [])) ≡ a ∷ b ∷ c ∷ []
three_digits-value a b c p q r =
    let n = digits_value 0 (a ∷ b ∷ c ∷ []) in
    let hundreds : digit (n / 100) ≡ a = omega arith in
    let tens : digit (n % 100 / 10) ≡ b = omega arith in
    let ones : digit (n % 100 % 10) ≡ c = omega arith in
    rw (hundreds, tens, ones) refl

four_digits-value : (a b c d : ℕ) → IsAsciiDigit a → IsAsciiDigit b → IsAsciiDigit c → IsAsciiDigit d → four_digits (digits_value 0 (a ∷ b ∷ c ∷ d ∷ [])) ≡ a ∷ b ∷ c ∷ d ∷ []
four_digits-value a b c d p q r s =
    let n = digits_value 0 (a ∷ b ∷ c ∷ d ∷ []) in
    let thousands : digit (n / 100 / 10) ≡ a = omega arith in
    let hundreds : digit (n / 100 % 10) ≡ b = omega arith in
    let tens : digit (n % 100 / 10) ≡ c = omega arith in
    let ones : digit (n % 100 % 10) ≡ d = omega arith in
    rw (thousands, hundreds, tens, ones) refl

-- ---- texts and fields

pub length-civil_text : (c : Civil) → length (civil_text c) ≡ 17
length-civil_text c = refl

-- the text gives back the fields
pub civil_at-civil_text : (c : Civil) → civil_at (civil_text c) ≡ c
civil_at-civil_text c =
    same_civil (civil_at (civil_text c)) c (omega arith) (omega arith) (omega arith) (omega arith) (omega arith) (omega arith) (omega arith)

-- the ends of a text, each from one field on
abbrev pub from_second : Civil → List ℕ
from_second c = two_digits c.second ++ three_digits c.milli

abbrev pub from_minute : Civil → List ℕ
from_minute c = two_digits c.minute ++ from_second c

abbrev pub from_hour : Civil → List ℕ
from_hour c = two_digits c.hour ++ from_minute c

abbrev pub from_day : Civil → List ℕ
from_day c = two_digits c.day ++ from_hour c

abbrev pub from_month : Civil → List ℕ
from_month c = two_digits c.month ++ from_day c

two_more : (n : ℕ) (rest : List ℕ) → n < 100 → All IsAsciiDigit rest → All IsAsciiDigit (digit (n / 10) ∷ digit (n % 10) ∷ rest)
two_more n rest h all =
    All-cons IsAsciiDigit (digit (n / 10)) (digit (n % 10) ∷ rest) (omega arith, omega arith) (All-cons IsAsciiDigit (digit (n % 10)) rest (omega arith, omega arith) all)

-- the text of writable fields has digits alone
pub All-civil_text : (c : Civil) → IsWritable c → All IsAsciiDigit (civil_text c)
All-civil_text c h =
    two_more (c.year / 100) (two_digits (c.year % 100) ++ from_month c) (omega arith)
    (two_more (c.year % 100) (from_month c) (omega arith)
    (two_more c.month (from_day c) h.month
    (two_more c.day (from_hour c) h.day
    (two_more c.hour (from_minute c) h.hour
    (two_more c.minute (from_second c) h.minute
    (two_more c.second (three_digits c.milli) h.second
    (All-cons IsAsciiDigit (digit (c.milli / 100)) (two_digits (c.milli % 100)) (omega arith, omega arith)
    (two_more (c.milli % 100) [] (omega arith) (All-nil IsAsciiDigit)))))))))

-- seven parts that are the same make the same text
same_joined : (a b c d e f g a' b' c' d' e' f' g' : List ℕ) → a ≡ a' → b ≡ b' → c ≡ c' → d ≡ d' → e ≡ e' → f ≡ f' → g ≡ g' → a ++ b ++ c ++ d ++ e ++ f ++ g ≡ a' ++ b' ++ c' ++ d' ++ e' ++ f' ++ g'
same_joined a b c d e f g a' b' c' d' e' f' g' p q r s t u v = rw (p, q, r, s, t, u, v) refl

-- what seventeen digits say is writable
pub IsWritable-civil_at : (text : List ℕ) → length text ≡ 17 → All IsAsciiDigit text → IsWritable (civil_at text)
IsWritable-civil_at (y₁ ∷ y₂ ∷ y₃ ∷ y₄ ∷ m₁ ∷ m₂ ∷ d₁ ∷ d₂ ∷ h₁ ∷ h₂ ∷ n₁ ∷ n₂ ∷ s₁ ∷ s₂ ∷ z₁ ∷ z₂ ∷ z₃ ∷ []) e all = record {
  year = four_value y₁ y₂ y₃ y₄ (all 0 0 (omega arith)) (all 1 0 (omega arith)) (all 2 0 (omega arith)) (all 3 0 (omega arith));
  month = two_value m₁ m₂ (all 4 0 (omega arith)) (all 5 0 (omega arith));
  day = two_value d₁ d₂ (all 6 0 (omega arith)) (all 7 0 (omega arith));
  hour = two_value h₁ h₂ (all 8 0 (omega arith)) (all 9 0 (omega arith));
  minute = two_value n₁ n₂ (all 10 0 (omega arith)) (all 11 0 (omega arith));
  second = two_value s₁ s₂ (all 12 0 (omega arith)) (all 13 0 (omega arith));
  milli = three_value z₁ z₂ z₃ (all 14 0 (omega arith)) (all 15 0 (omega arith)) (all 16 0 (omega arith));
}
IsWritable-civil_at _ e all = absurd (omega arith)

-- and is written by them
pub civil_text-civil_at : (text : List ℕ) → length text ≡ 17 → All IsAsciiDigit text → civil_text (civil_at text) ≡ text
civil_text-civil_at (y₁ ∷ y₂ ∷ y₃ ∷ y₄ ∷ m₁ ∷ m₂ ∷ d₁ ∷ d₂ ∷ h₁ ∷ h₂ ∷ n₁ ∷ n₂ ∷ s₁ ∷ s₂ ∷ z₁ ∷ z₂ ∷ z₃ ∷ []) e all = same_joined _ _ _ _ _ _ _ _ _ _ _ _ _ _
    (four_digits-value y₁ y₂ y₃ y₄ (all 0 0 (omega arith)) (all 1 0 (omega arith)) (all 2 0 (omega arith)) (all 3 0 (omega arith)))
    (two_digits-value m₁ m₂ (all 4 0 (omega arith)) (all 5 0 (omega arith)))
    (two_digits-value d₁ d₂ (all 6 0 (omega arith)) (all 7 0 (omega arith)))
    (two_digits-value h₁ h₂ (all 8 0 (omega arith)) (all 9 0 (omega arith)))
    (two_digits-value n₁ n₂ (all 10 0 (omega arith)) (all 11 0 (omega arith)))
    (two_digits-value s₁ s₂ (all 12 0 (omega arith)) (all 13 0 (omega arith)))
    (three_digits-value z₁ z₂ z₃ (all 14 0 (omega arith)) (all 15 0 (omega arith)) (all 16 0 (omega arith)))
civil_text-civil_at _ e all = absurd (omega arith)

-- ---- where a text goes wrong

-- the test of a byte that is no digit
abbrev pub is_no_digit : ℕ → Bool
is_no_digit byte = not (is_digit byte)

is_no_digit-false : (b : ℕ) → IsAsciiDigit b → is_no_digit b ≡ false
is_no_digit-false b h = grind (arith, nat_tests)

IsAsciiDigit-from_false : (b : ℕ) → is_no_digit b ≡ false → IsAsciiDigit b
IsAsciiDigit-from_false b h = grind (arith, nat_tests)

-- no byte is wrong exactly in a text of digits alone
pub position-None : (text : List ℕ) → All IsAsciiDigit text → position is_no_digit text ≡ None
position-None text all =
    let first = position_or_len_is is_no_digit text (length text) 0 (omega arith) (λ k lt. is_no_digit-false (get_or text k 0) (all k 0 lt)) (λ lt. absurd (omega arith)) in
    rw first (grind (arith, nat_tests))

pub All-position_none : (text : List ℕ) → position is_no_digit text ≡ None → All IsAsciiDigit text
All-position_none text none k d lt =
    let all : length text ≤ position_or_len is_no_digit text = past _ _ none in
    IsAsciiDigit-from_false (get_or text k d) (fails_before_first is_no_digit text k d (omega arith))
  where
    past : (n len : ℕ) → cond (ltb n len) (Some n) None ≡ None → len ≤ n
    past n len e = grind (arith, nat_tests)

-- what a text is in which nothing goes wrong
pub record IsRight (text : List ℕ) : Type 0 where
  pub long : length text ≡ 17
  pub digits : All IsAsciiDigit text
  pub civil : IsCivil (civil_at text)

-- what passes each of the three tests is right
pub goes_wrong-passed : (text : List ℕ) → position is_no_digit text ≡ None → length text ≡ 17 → field_out_of_range (civil_at text) ≡ None → goes_wrong text ≡ None
goes_wrong-passed text first long range = rw (first, long) range

pub goes_wrong-None : (text : List ℕ) → IsRight text → goes_wrong text ≡ None
goes_wrong-None text h =
    goes_wrong-passed text (position-None text h.digits) h.long (field_out_of_range-None (civil_at text) h.civil)

pub IsRight-goes_wrong : (text : List ℕ) → goes_wrong text ≡ None → IsRight text
IsRight-goes_wrong text h =
    let first = neither (position is_no_digit text) (digits_go_wrong text) h in
    let digits = All-position_none text first.0 in
    let long = in_length (length text) _ first.1 in
    let writable = IsWritable-civil_at text long.0 digits in
    record {
      long = long.0;
      digits = digits;
      civil = IsCivil-in_range (civil_at text) long.1 (omega arith) writable.milli;
    }
  where
    neither : (a b : Option ℕ) → option_or a b ≡ None → (a ≡ None) × (b ≡ None)
    neither None b e = (refl, e)
    neither (Some x) b e = cc

    in_length : (len : ℕ) (rest : Option ℕ) → cond (eqb len 17) rest (Some (min len 17)) ≡ None → (len ≡ 17) × (rest ≡ None)
    in_length len rest e = grind (arith, nat_tests)
