-- What the readers answer. This project's own.
use Rattle.std.specs.Prelude.{◌≡◌, ℕ, ◌+◌, ◌≤◌, List, length, drop, Some, None, Result, Ok, Err}
use Rattle.byte_fields.specs.declared.field_error.FieldError.{FieldError}
use Rattle.byte_fields.specs.Reading.{left_of, Reading}
use Rattle.parquet_meta.specs.declared.read_error.MetaError.{MetaError}
use Rattle.parquet_meta.specs.declared.read_error.MetaError.TheVariants.{Memory, BadMeta, Unsupported}
use Rattle.parquet_meta.specs.declared.page_header.PageHeader.{PageHeader}
use Rattle.parquet_meta.specs.declared.file_meta.FileMeta.{FileMeta}
use Rattle.parquet_meta.specs.Footers.{first_unsupported}

-- in so many bytes the item at this offset can't be read
abbrev pub IsBadAt : {A : Type 0} → ℕ → ℕ → Result A FieldError → Type 0
IsBadAt total offset (Ok x) = ⊥
IsBadAt total offset (Err error) = offset + left_of error ≡ total

-- a page's header and how many of the bytes it takes, with the others left as they are, or the item that can't be read
abbrev pub AnswersHeader : List ℕ → Result (PageHeader × ℕ) MetaError → Reading PageHeader → Type 0
AnswersHeader bytes (Ok answer) read = (answer.1 ≤ length bytes) × (read ≡ Ok (answer.0, drop answer.1 bytes))
AnswersHeader bytes (Err Memory) read = Unit {0}
AnswersHeader bytes (Err (BadMeta offset)) read = IsBadAt (length bytes) offset read
AnswersHeader bytes (Err (Unsupported index)) read = ⊥

-- A footer of plain columns, or the item that can't be read; where all can, the first column that isn't plain.
abbrev pub AnswersFooter : ℕ → Result FileMeta MetaError → Result FileMeta FieldError → Type 0
AnswersFooter total (Ok meta) read = (read ≡ Ok meta) × (first_unsupported meta.schema ≡ None)
AnswersFooter total (Err Memory) read = Unit {0}
AnswersFooter total (Err (BadMeta offset)) read = IsBadAt total offset read
AnswersFooter total (Err (Unsupported index)) read = (meta : FileMeta) × (read ≡ Ok meta)
    × (first_unsupported meta.schema ≡ Some index)
