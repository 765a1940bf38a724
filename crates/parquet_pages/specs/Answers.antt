-- What the calls of this crate answer. This project's own.
use Rattle.std.specs.Prelude.{◌≡◌, ℕ, ◌+◌, ◌≤◌, Bool, List, length, drop, Result, Ok, Err}
use Rattle.byte_fields.specs.declared.field_error.FieldError.{FieldError}
use Rattle.byte_fields.specs.Reading.{left_of, Reading}
use Rattle.hudi_base.specs.declared.value.Value.{Value}
use Rattle.parquet_meta.specs.declared.page_header.PageHeader.{PageHeader}
use Rattle.parquet_pages.specs.declared.page_error.PageError.{PageError}
use Rattle.parquet_pages.specs.declared.page_error.PageError.TheVariants.{Memory, BadPage, Encoding}
use Rattle.parquet_pages.specs.declared.read_error.ReadError.{ReadError}
use Rattle.parquet_pages.specs.declared.read_error.ReadError.TheVariants.{Memory as NoMemory, Field}

-- ---- of public calls

-- Levels and how many of the bytes they take, or the offset of the item that can't be read, unless memory has run out.
abbrev pub AnswersLevels : List ℕ → Result (List Bool × ℕ) PageError → Reading (List Bool) → Type 0
AnswersLevels bytes (Ok found) read = (found.1 ≤ length bytes) × (read ≡ Ok (found.0, drop found.1 bytes))
AnswersLevels bytes (Err Memory) read = Unit {0}
AnswersLevels bytes (Err (BadPage offset)) read =
    (error : FieldError) × (read ≡ Err error) × (offset + left_of error ≡ length bytes)
AnswersLevels bytes (Err (Encoding n)) read = ⊥

-- The answer is what reading gives, unless memory has run out.
abbrev pub AnswersPage : Result (List Value × ℕ) PageError → Result (List Value × ℕ) PageError → Type 0
AnswersPage (Ok found) read = read ≡ Ok found
AnswersPage (Err Memory) read = Unit {0}
AnswersPage (Err (BadPage offset)) read = read ≡ Err (BadPage offset)
AnswersPage (Err (Encoding n)) read = read ≡ Err (Encoding n)

-- ---- of private calls

-- a header and how many of the bytes it takes; what can't be read is bad at the first byte
abbrev pub AnswersHeader : List ℕ → Result (PageHeader × ℕ) PageError → Reading PageHeader → Type 0
AnswersHeader bytes (Ok found) read = (found.1 ≤ length bytes) × (read ≡ Ok (found.0, drop found.1 bytes))
AnswersHeader bytes (Err Memory) read = Unit {0}
AnswersHeader bytes (Err (BadPage offset)) read = (offset ≡ 0) × ((error : FieldError) × (read ≡ Err error))
AnswersHeader bytes (Err (Encoding n)) read = ⊥

abbrev pub Fails : {Y : Type 0} → ReadError → Result Y FieldError → Type 0
Fails NoMemory read = Unit {0}
Fails (Field error) read = read ≡ Err error

-- The reader answers what reading gives, unless memory has run out. `view` turns its value into the definition's.
abbrev pub Reads : {X Y : Type 0} → (X → Y) → Result X ReadError → Result Y FieldError → Type 0
Reads view (Ok x) read = read ≡ Ok (view x)
Reads view (Err error) read = Fails error read
