-- What the readers of this crate answer while they read. This project's own; no clause of a public call speaks of it.
use Rattle.std.specs.Prelude.{◌≡◌, ℕ, ◌≤◌, Result, Ok, Err}
use Rattle.byte_fields.specs.declared.field_error.FieldError.{FieldError}
use Rattle.byte_fields.specs.Reading.{Reading}
use Rattle.thrift_compact.specs.Cursor.{Cursor, error_of, offset_named}
use Rattle.parquet_meta.specs.declared.read_error.MetaError.{MetaError}
use Rattle.parquet_meta.specs.declared.read_error.MetaError.TheVariants.{Memory as NoMemory, BadMeta, Unsupported}
use Rattle.parquet_meta.specs.declared.read_error.ReadError.{ReadError}
use Rattle.parquet_meta.specs.declared.read_error.ReadError.TheVariants.{Memory, Item}
use Rattle.parquet_meta.specs.Results.{IsBadAt}

-- the item that can't be read, in so many bytes, or want of memory
abbrev pub Fails : {Y : Type 0} → ℕ → ReadError → Reading Y → Type 0
Fails total Memory read = Unit {0}
Fails total (Item error) read = (read ≡ Err (error_of total error)) × (offset_named error ≤ total)

-- The call answers what reading gives and goes on behind it, or names the item that can't be read, or is out of memory.
abbrev pub ReadsHere : {X Y : Type 0} → (X → Y) → Cursor → Cursor → Result X ReadError → Reading Y → Type 0
ReadsHere view old new (Ok x) read = (read ≡ Ok (view x, new.rest)) × (new.total ≡ old.total)
ReadsHere view old new (Err error) read = Fails old.total error read

-- the error that callers see
abbrev pub meta_error : ReadError → MetaError
meta_error Memory = NoMemory
meta_error (Item error) = BadMeta (offset_named error)

-- what is read as all of the bytes, whatever its columns
abbrev pub AnswersWhole : {A : Type 0} → ℕ → Result A MetaError → Result A FieldError → Type 0
AnswersWhole total (Ok x) read = read ≡ Ok x
AnswersWhole total (Err NoMemory) read = Unit {0}
AnswersWhole total (Err (BadMeta offset)) read = IsBadAt total offset read
AnswersWhole total (Err (Unsupported index)) read = ⊥
