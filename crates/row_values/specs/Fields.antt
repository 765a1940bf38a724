-- The fields of flat schemas: cells of five types, some of which may be null. The rule is this project's own.
use Rattle.std.specs.Prelude.{ℕ, Bool, true, false, not, ◌&&◌, List, map, Option, Some, None, option_map, unwrap_or, slice_get}
use Rattle.avro_schema.specs.AvroTypes.{AvroType, null, boolean, int, long, bytes, string, union_of, branch, no_branches}
use Rattle.avro_schema.specs.AvroTypes as avro
use Rattle.row_values.specs.declared.flat_field.CellType.{CellType}
use Rattle.row_values.specs.declared.flat_field.CellType.TheVariants.{Boolean, Int, Long, Bytes, Text}
use Rattle.row_values.specs.declared.flat_field.FlatField.{FlatField}

-- ---- types

abbrev pub cell_type : CellType → AvroType
cell_type Boolean = boolean
cell_type Int = int
cell_type Long = long
cell_type Bytes = bytes
cell_type Text = string

-- a cell's type, or null and that type
abbrev pub type_if_nullable : Bool → AvroType → AvroType
type_if_nullable true type = union_of (branch null (branch type no_branches))
type_if_nullable false type = type

abbrev pub field_type : FlatField → AvroType
field_type field = type_if_nullable field.nullable (cell_type field.cell)

-- a field as Avro has it: its name and its type
abbrev pub typed_field : FlatField → List ℕ × AvroType
typed_field field = (field.name, field_type field)

abbrev pub typed_fields : List FlatField → avro.Fields
typed_fields fields = avro.fields_of (map typed_field fields)

-- ---- places

abbrev pub is_text_cell : CellType → Bool
is_text_cell Text = true
is_text_cell _ = false

abbrev pub is_number_cell : CellType → Bool
is_number_cell Int = true
is_number_cell Long = true
is_number_cell _ = false

-- a string that is never null
abbrev pub is_text_field : FlatField → Bool
is_text_field field = is_text_cell field.cell && not field.nullable

-- a whole number, which may be null
abbrev pub is_rank_field : FlatField → Bool
is_rank_field field = is_number_cell field.cell

-- a field that passes the test stands at the place
abbrev pub has_field : (FlatField → Bool) → ℕ → List FlatField → Bool
has_field test place fields = unwrap_or (option_map test (slice_get fields place)) false

abbrev pub has_ordering : Option ℕ → List FlatField → Bool
has_ordering None fields = true
has_ordering (Some place) fields = has_field is_rank_field place fields

-- the record key and the partition are strings, and the ordering field, if there is one, is a whole number
abbrev pub has_places : ℕ → ℕ → Option ℕ → List FlatField → Bool
has_places key partition ordering fields = has_field is_text_field key fields && has_field is_text_field partition fields && has_ordering ordering fields
