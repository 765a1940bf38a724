-- Where a reader stands, and what its calls answer. This project's own.
use Rattle.std.specs.Prelude.{◌≡◌, ℕ, ◌-◌, ◌≤◌, List, length, Result, Ok, Err}
use Rattle.byte_fields.specs.declared.field_error.FieldError.{FieldError}
use Rattle.byte_fields.specs.declared.field_error.FieldError.TheVariants.{Short, Bad}
use Rattle.byte_fields.specs.Reading.{Reading}
use Rattle.thrift_compact.specs.declared.thrift_error.ThriftError.{ThriftError}
use Rattle.thrift_compact.specs.declared.thrift_error.ThriftError.TheVariants.{Short as ShortAt, BadThrift}

-- a reader of so many bytes, of which these are left
pub record Cursor : Type 0 where
  pub total : ℕ
  pub rest : List ℕ

-- where it stands: how many bytes it has read
abbrev pub offset_of : Cursor → ℕ
offset_of cursor = cursor.total - length cursor.rest

-- the offset that an error names
abbrev pub offset_named : ThriftError → ℕ
offset_named (ShortAt offset) = offset
offset_named (BadThrift offset) = offset

-- the error of an item, told by how many bytes there are from its first one on
abbrev pub error_of : ℕ → ThriftError → FieldError
error_of total (ShortAt offset) = Short (total - offset)
error_of total (BadThrift offset) = Bad (total - offset)

-- The call answers what reading gives and goes on behind it, or names the item that can't be read and moves nothing.
abbrev pub Reads : {X Y : Type 0} → (X → Y) → Cursor → Cursor → Result X ThriftError → Reading Y → Type 0
Reads view old new (Ok x) read = (read ≡ Ok (view x, new.rest)) × (new.total ≡ old.total)
Reads view old new (Err error) read = (read ≡ Err (error_of old.total error)) × (offset_named error ≤ old.total)
    × (new ≡ old)
