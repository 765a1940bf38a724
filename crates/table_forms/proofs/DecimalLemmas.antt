-- Decimal numbers: their digits, and what they read as.
use Rattle.std.proofs.Common.{◌≡◌, ◌≢◌, ℕ, zero, suc, ◌<◌, ◌≤◌, ◌^◌, true, ◌&&◌, nat_lt, Option, Some, None, List, length, get_or, Result, Ok, Err, refl, sym, ap, subst, ◌∙◌, arith, IsUtf8}
use Rattle.std.specs.Prelude.{MatchOption}
use Rattle.std.specs.Result.{result_ok}
use Rattle.std.specs.Fmt.{decimal}
use Rattle.std.specs.Str.Parse.{IsNumeral, AllDigits, digits_value, ParsesUnsigned, without_leading_plus}
use Rattle.std.proofs.lemmas.Fmt.{decimal_is_IsNumeral, decimal_digit, first_decimal, decimal-digits_value, IsAscii-decimal}
use Rattle.std.proofs.lemmas.Str.Parse.{IsNumeralModel, numerals_by_value, tells_digits, digit_at, without_leading_plus_none}
use Rattle.std.proofs.lemmas.Str.{IsUtf8-from_ascii}
use Rattle.std.specs.Str.{bytes_eq}
use Rattle.std.proofs.lemmas.Bool.Decides.{nat_tests}
use Rattle.std.proofs.lemmas.Option.{cond_some}
use Rattle.std.proofs.lemmas.Slice.Eq.{bytes_eq-Decides}
use borrow.Author.Tests.{ltb-true}
use Rattle.table_forms.specs.Decimals.{IsDecimal, decimal_of}
use Rattle.table_forms.proofs.PieceLemmas.{and_parts}

digits_own : IsNumeralModel (AllDigits 10) (digits_value 10)
digits_own = numerals_by_value (AllDigits 10) tells_digits

numeral_of : (n : ℕ) (text : List ℕ) → IsDecimal n text → IsNumeral 10 text × (digits_value 10 text ≡ n)
numeral_of n text d = rw d.written (decimal_is_IsNumeral n d.fits)

-- it isn't empty, no zero leads another digit, and no plus leads
pub filled_always : (n : ℕ) (text : List ℕ) → IsDecimal n text → 0 < length text
filled_always n text d = (numeral_of n text d).0.0

pub digit_leads : (n : ℕ) (text : List ℕ) → IsDecimal n text → (48 ≤ get_or text 0 0) × (get_or text 0 0 ≤ 57)
digit_leads n text d = let own = numeral_of n text d in digit_at text 0 own.0.1 own.0.0

pub zero_alone : (n : ℕ) (text : List ℕ) → IsDecimal n text → get_or text 0 0 ≡ 48 → length text ≡ 1
zero_alone zero text d leads = ap length d.written ∙ ap length (decimal_digit 0 (omega arith))
zero_alone (suc n) text d leads =
    let above : 48 < get_or (decimal (suc n)) 0 0 = first_decimal (suc n) (omega arith) d.fits in
    let same : get_or (decimal (suc n)) 0 0 ≡ 48 = rw d.written at leads in
    absurd (omega arith)

pub IsUtf8-decimal : (n : ℕ) (text : List ℕ) → IsDecimal n text → IsUtf8 text
IsUtf8-decimal n text d = rw d.written (IsUtf8-from_ascii (decimal n) (IsAscii-decimal n d.fits))

-- what std's reading gives, where no plus leads and no zero leads another digit
pub parsed : {E : Type 0} (text : List ℕ) (read : Result ℕ E) → ParsesUnsigned 64 10 text read → get_or text 0 0 ≢ 43 → (get_or text 0 0 ≡ 48 → length text ≡ 1)
    → MatchOption (result_ok read) ((n : ℕ) → ¬ IsDecimal n text) (λ n. IsDecimal n text)
parsed text (Ok x) gives plain alone =
    let same : without_leading_plus text ≡ text = without_leading_plus_none text plain in
    let own : IsNumeral 10 text × (digits_value 10 text < 2 ^ 64) = subst (λ (t : List ℕ). IsNumeral 10 t × (digits_value 10 t < 2 ^ 64)) same gives.0 in
    let value : digits_value 10 text ≡ x = subst (λ (t : List ℕ). digits_value 10 t ≡ x) same (sym gives.1) in
    subst (λ (n : ℕ). IsDecimal n text) value (record { fits = own.1; written = sym (decimal-digits_value digits_own text own.0.1 own.0.0 alone own.1) })
parsed text (Err e) gives plain alone = λ n d.
    let same : without_leading_plus text ≡ text = without_leading_plus_none text plain in
    let own = numeral_of n text d in
    gives (subst (λ (t : List ℕ). IsNumeral 10 t × (digits_value 10 t < 2 ^ 64)) (sym same) (own.0, rw own.1 d.fits))

-- the number of a text, both ways
pub decimal_of-IsDecimal : (n : ℕ) (text : List ℕ) → IsDecimal n text → decimal_of text ≡ Some n
unfolding decimal_of
decimal_of-IsDecimal n text d =
    let value : digits_value 10 text ≡ n = (numeral_of n text d).1 in
    let fits : nat_lt n (2 ^ 64) ≡ true = grind (arith, nat_tests, d.fits) in
    let same : bytes_eq text (decimal n) ≡ true = (bytes_eq-Decides text (decimal n)).1 d.written in
    rw (value, fits, same) refl

pub IsDecimal-decimal_of : (n : ℕ) (text : List ℕ) → decimal_of text ≡ Some n → IsDecimal n text
unfolding decimal_of
IsDecimal-decimal_of n text is =
    let parts = cond_some (nat_lt (digits_value 10 text) (2 ^ 64) && bytes_eq text (decimal (digits_value 10 text))) (digits_value 10 text) n is in
    let tests = and_parts (nat_lt (digits_value 10 text) (2 ^ 64)) (bytes_eq text (decimal (digits_value 10 text))) parts.0 in
    let below : digits_value 10 text < 2 ^ 64 = ltb-true _ _ tests.0 in
    subst (λ (k : ℕ). IsDecimal k text) parts.1 (record { fits = below; written = (bytes_eq-Decides text _).0 tests.1 })

-- what a reading that is exact gives
pub decimal_of-exact : (text : List ℕ) (read : Option ℕ) → MatchOption read ((n : ℕ) → ¬ IsDecimal n text) (λ n. IsDecimal n text) → read ≡ decimal_of text
decimal_of-exact text (Some n) exact = sym (decimal_of-IsDecimal n text exact)
decimal_of-exact text None exact = none (decimal_of text) refl
  where
    none : (found : Option ℕ) → decimal_of text ≡ found → None ≡ found
    none None is = refl
    none (Some n) is = absurd (exact n (IsDecimal-decimal_of n text is))
