-- What decoding answers, by offsets from the first byte.
use Rattle.std.specs.Prelude.{◌≡◌, ◌≤◌, ℕ, ◌-◌, List, length, take, Result, Ok, Err}
use Rattle.hudi_base.specs.declared.value.Value.{Value}
use Rattle.byte_fields.specs.declared.field_error.FieldError.{FieldError}
use Rattle.byte_fields.specs.declared.field_error.FieldError.TheVariants as field_error
use Rattle.byte_fields.specs.Reading.{Reading}
use Rattle.avro_schema.specs.AvroTypes.{AvroType}
use Rattle.avro_schema.specs.Grammar.{IsReading}
use Rattle.avro_schema.specs.Written.{item_count}
use Rattle.avro_value.specs.declared.errors.ValueError.{ValueError}
use Rattle.avro_value.specs.declared.errors.ValueError.TheVariants.{Memory, Short, BadBytes}

-- the error of an item with so many bytes from its first one on, of so many bytes in all
abbrev pub error_at : ℕ → FieldError → ValueError
error_at total (field_error.Short left) = Short (total - left)
error_at total (field_error.Bad left) = BadBytes (total - left)

-- The answer for so many bytes is what reading gives, unless memory has run out: the value with the number of bytes that
-- it takes, or the first fault.
abbrev pub Decodes : ℕ → Result (Value × ℕ) ValueError → Reading (Value × ℕ) → Type 0
Decodes total (Ok x) read = (left : ℕ) × (rest : List ℕ) × (read ≡ Ok ((x.0, left), rest)) × (x.1 ≡ total - length rest)
Decodes total (Err Memory) read = Unit {0}
Decodes total (Err (Short at)) read = (error : FieldError) × (read ≡ Err error) × (Short at ≡ error_at total error)
Decodes total (Err (BadBytes at)) read = (error : FieldError) × (read ≡ Err error) × (BadBytes at ≡ error_at total error)

-- The first so many bytes are a reading of the value, which is within the limit.
pub record IsFound (type : AvroType) (bytes : List ℕ) (v : Value) (used : ℕ) : Type 0 where
  pub within : used ≤ length bytes
  pub reading : IsReading type v (take used bytes)
  pub few : item_count v ≤ 1000000
