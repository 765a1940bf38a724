-- Rows in JSON: what comes in, and what goes out. The forms are this project's own.
use Rattle.std.specs.Prelude.{◌≡◌, ℕ, ℤ, pos, negsuc, ◌^◌, Bool, nat_lt, if◌then◌else◌, List, [], ◌∷◌, ◌++◌, length, map, Option, Some, None, is_none, option_map, option_and_then, Result, Ok, Err}
use Rattle.std.specs.List.{list_any}
use Rattle.std.specs.Result.{result_ok}
use Rattle.std.specs.Char.{is_ascii_uppercase}
use Rattle.hex.specs.Hex.{decode_of}
use Rattle.serde_json.specs.Data.{Data}
use Rattle.serde_json.specs.Data as json
use Rattle.serde_json.specs.Find.{get, as_bool, as_number, as_i64, as_str}
use Rattle.table_forms.specs.JsonObjects.{least_unknown}
use Rattle.hudi_base.specs.declared.value.Value.{Value}
use Rattle.hudi_base.specs.declared.value.Value as value
use Rattle.payload_merge.specs.declared.row_error.RowError.{RowError}
use Rattle.payload_merge.specs.declared.row_error.RowError.TheVariants.{Memory, Mismatch}
use Rattle.row_values.specs.declared.flat_field.CellType.{CellType}
use Rattle.row_values.specs.declared.flat_field.CellType.TheVariants.{Boolean, Int, Long, Bytes, Text}
use Rattle.row_values.specs.declared.flat_field.FlatField.{FlatField}
use Rattle.row_values.specs.Cells.{value_if_nullable}

-- ---- what comes in

-- a number of 32 bits
abbrev pub int_of : ℤ → Option ℤ
int_of (pos n) = if nat_lt n (2 ^ 31) then Some (pos n) else None
int_of (negsuc n) = if nat_lt n (2 ^ 31) then Some (negsuc n) else None

-- a whole number of 64 bits
abbrev pub whole_number : Data → Option ℤ
whole_number d = option_and_then as_i64 (as_number d)

-- bytes as pairs of hexadecimal digits, with no capital letter
abbrev pub lower_hex_bytes : List ℕ → Option (List ℕ)
lower_hex_bytes text = if list_any is_ascii_uppercase text then None else result_ok (decode_of text)

-- the cell that a JSON value says
unfoldable pub cell_of_json : CellType → Data → Option Value
cell_of_json Boolean d = option_map value.Boolean (as_bool d)
cell_of_json Int d = option_map value.Int (option_and_then int_of (whole_number d))
cell_of_json Long d = option_map value.Long (whole_number d)
cell_of_json Bytes d = option_map value.Bytes (option_and_then lower_hex_bytes (as_str d))
cell_of_json Text d = option_map value.Text (as_str d)

-- of a field that may be null, which JSON's null says
abbrev pub cell_or_null : CellType → Data → Option Value
cell_or_null type json.null = Some value.Null
cell_or_null type d = cell_of_json type d

-- the cell of a field that the member of its name says; one that may be null may be missing, which is null
unfoldable pub member_cell : FlatField → Option Data → Option Value
member_cell field None = if field.nullable then Some value.Null else None
member_cell field (Some d) = if field.nullable then cell_or_null field.cell d else cell_of_json field.cell d

-- the same as the field's value in a record
abbrev pub member_value : Data → FlatField → Option Value
member_value d field = option_map (value_if_nullable field.nullable) (member_cell field (get field.name d))

-- the value, handed on, or the place where it isn't there
abbrev pub with_value : Option Value → ℕ → (Value → Result (List Value) ℕ) → Result (List Value) ℕ
with_value (Some v) place next = next v
with_value None place next = Err place

-- The values of these fields behind those that were found, or the place of the first field whose value isn't there. Where
-- all are there and the object has another member, it is the number of fields.
unfoldable pub values_from : Bool → Data → List FlatField → List Value → Result (List Value) ℕ
values_from only d [] found = if only then Ok found else Err (length found)
values_from only d (field ∷ fields) found = with_value (member_value d field) (length found) (λ v. values_from only d fields (found ++ v ∷ []))

-- the object has no members but those of the fields' names
abbrev pub has_only_fields : List FlatField → Data → Bool
has_only_fields fields d = is_none (least_unknown (map (λ field. field.name) fields) d)

-- the values of a row that JSON says, or the place of the first field that it doesn't fit
abbrev pub values_of_json : List FlatField → Data → Result (List Value) ℕ
values_of_json fields d = values_from (has_only_fields fields d) d fields []

-- The answer for these values. Memory may be wanting at any time, and nothing else comes.
abbrev pub AnswersValues : List FlatField → Data → Result (List Value) RowError → Type 0
AnswersValues fields d (Ok values) = values_of_json fields d ≡ Ok values
AnswersValues fields d (Err (Mismatch place)) = values_of_json fields d ≡ Err place
AnswersValues fields d (Err error) = error ≡ Memory

-- The same as a record.
abbrev pub AnswersValue : List FlatField → Data → Result Value RowError → Type 0
AnswersValue fields d (Ok v) = (values : List Value) × (v ≡ value.Record values) × (values_of_json fields d ≡ Ok values)
AnswersValue fields d (Err (Mismatch place)) = values_of_json fields d ≡ Err place
AnswersValue fields d (Err error) = error ≡ Memory
