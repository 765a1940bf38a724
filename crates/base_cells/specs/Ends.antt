-- The two ends of a Parquet file and its footer: "File Format" of the Parquet format. A file begins with four bytes and ends
-- with the footer, its length in four bytes and the same four bytes.
use Rattle.std.specs.Prelude.{ℕ, ◌+◌, ◌-◌, not, ◌||◌, nat_lt, nat_eq, if◌then◌else◌, codes, List, length, take, drop, Option, Some, None, Result, Ok, Err}
use Rattle.std.specs.List.{starts_with, ends_with}
use Rattle.byteorder.specs.Endian.{little_number}
use Rattle.byte_fields.specs.declared.field_error.FieldError.{FieldError}
use Rattle.byte_fields.specs.Reading.{left_of}
use Rattle.parquet_meta.specs.declared.file_meta.FileMeta.{FileMeta}
use Rattle.parquet_meta.specs.Footers.{footer_of, first_unsupported}
use Rattle.base_cells.specs.declared.base_error.BaseError.{BaseError}
use Rattle.base_cells.specs.declared.base_error.BaseError.TheVariants.{BadBase}
use Rattle.base_cells.specs.declared.base_error.BaseCause.TheVariants as cause
use Rattle.base_cells.specs.Binding.{◌>>=◌}

-- the bytes at both ends
abbrev pub magic : List ℕ
magic = codes "PAR1"

-- the length that the footer claims, in the four bytes before the last four
abbrev pub footer_len : List ℕ → ℕ
footer_len bytes = little_number 4 (drop (length bytes - 8) bytes)

-- where the footer begins
abbrev pub footer_start : List ℕ → ℕ
footer_start bytes = length bytes - 8 - footer_len bytes

-- the bytes of the footer, of a file with both ends
unfoldable pub footer_bytes_at : List ℕ → Result (List ℕ) BaseError
footer_bytes_at bytes =
    if nat_lt (length bytes) 12 || not (starts_with nat_eq bytes magic) then Err (BadBase cause.Magic 0) else
    if not (ends_with nat_eq bytes magic) then Err (BadBase cause.Magic (length bytes - 4)) else
    if nat_lt (length bytes - 12) (footer_len bytes) then Err (BadBase cause.Footer (length bytes - 8)) else
    Ok (take (footer_len bytes) (drop (footer_start bytes) bytes))

-- the footer that begins at this place, if all its columns are plain
abbrev pub plain_or : ℕ → FileMeta → Option ℕ → Result FileMeta BaseError
plain_or start meta None = Ok meta
plain_or start meta (Some i) = Err (BadBase (cause.Unsupported i) start)

-- the footer of so many bytes that begins at this place
abbrev pub meta_or : ℕ → ℕ → Result FileMeta FieldError → Result FileMeta BaseError
meta_or start len (Ok meta) = plain_or start meta (first_unsupported meta.schema)
meta_or start len (Err error) = Err (BadBase cause.Meta (start + (len - left_of error)))

-- what a file's footer says, whatever its columns are
unfoldable pub plain_meta_at : List ℕ → Result FileMeta BaseError
plain_meta_at bytes =
    footer_bytes_at bytes >>= λ footer. meta_or (footer_start bytes) (length footer) (footer_of footer)
