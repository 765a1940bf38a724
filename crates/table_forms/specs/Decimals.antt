-- Decimal numbers of 64 bits.
use Rattle.std.specs.Prelude.{◌≡◌, ℕ, ◌<◌, ◌^◌, ◌&&◌, nat_lt, if◌then◌else◌, List, Option, Some, None}
use Rattle.std.specs.Fmt.{decimal}
use Rattle.std.specs.Str.{bytes_eq}
use Rattle.std.specs.Str.Parse.{digits_value}

-- the text is the number's decimal digits, with no sign and no leading zero
pub record IsDecimal (n : ℕ) (text : List ℕ) : Type 0 where
  pub fits : n < 2 ^ 64
  pub written : text ≡ decimal n

-- the number that a text is the decimal digits of
unfoldable pub decimal_of : List ℕ → Option ℕ
decimal_of text =
    if nat_lt (digits_value 10 text) (2 ^ 64) && bytes_eq text (decimal (digits_value 10 text)) then Some (digits_value 10 text) else None
