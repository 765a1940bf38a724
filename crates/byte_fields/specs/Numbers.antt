-- Numbers of a fixed number of bytes. A byte order is given by what it reads, as `big_number` and
-- `little_number` of `byteorder`, and what it writes, as `big_bytes` and `little_bytes`.
use Rattle.std.specs.Prelude.{ℕ, List, length, drop, nat_lt, ◌==◌, if◌then◌else◌, Result, Ok, Err}
use Rattle.std.specs.Prelude.{ℤ}
use Rattle.std.specs.Int.{Width, cast_signed}
use Rattle.byte_fields.specs.declared.field_error.FieldError.{FieldError}
use Rattle.byte_fields.specs.declared.field_error.FieldError.TheVariants.{Short}
use Rattle.byte_fields.specs.Reading.{Reading, ◌>>=◌, only_if}

-- a number of n bytes
unfoldable pub number_at : (ℕ → List ℕ → ℕ) → ℕ → List ℕ → Reading ℕ
number_at number_of n bytes =
    if nat_lt (length bytes) n then Err (Short (length bytes)) else Ok (number_of n bytes, drop n bytes)

-- a signed number of n bytes and that width, in two's complement
unfoldable pub signed_at : (ℕ → List ℕ → ℕ) → Width → ℕ → List ℕ → Reading ℤ
signed_at number_of width n bytes = do
  found ← number_at number_of n bytes
  Ok (cast_signed width found.0, found.1)

-- the bytes after a number of n bytes that has to be x
unfoldable pub after_number : (ℕ → List ℕ → ℕ) → ℕ → ℕ → List ℕ → Result (List ℕ) FieldError
after_number number_of n x bytes = do
  found ← number_at number_of n bytes
  only_if (found.0 == x) bytes found.1
