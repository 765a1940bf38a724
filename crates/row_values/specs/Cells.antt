-- Cells: the values of fields, without the unions that fields which may be null have in a record.
use Rattle.std.specs.Prelude.{◌≡◌, ◌⊎◌, ◌≤◌, ℕ, Bool, true, false, List, length, map}
use Rattle.std.specs.List.{AllZip, zip}
use Rattle.hudi_base.specs.declared.value.Value.{Value, Null, Boolean, Int, Long, Bytes, Text, Union, Record}
use Rattle.avro_schema.specs.Fits.{Fits}
use Rattle.row_values.specs.declared.flat_field.CellType.{CellType}
use Rattle.row_values.specs.declared.flat_field.FlatField.{FlatField}
use Rattle.row_values.specs.declared.cell_ref.CellRef.{CellRef}
use Rattle.row_values.specs.declared.cell_ref.CellRef.TheVariants as lent
use Rattle.row_values.specs.Fields.{cell_type}

-- null, where that may be, or a value of the cell's type
abbrev pub IsCellOf : Bool → CellType → Value → Type 0
IsCellOf nullable type cell = ((cell ≡ Null) × (nullable ≡ true)) ⊎ Fits (cell_type type) cell

-- a cell of a field
abbrev pub IsCell : FlatField → Value → Type 0
IsCell field cell = IsCellOf field.nullable field.cell cell

-- one cell for each field
abbrev pub AreCells : List FlatField → List Value → Type 0
AreCells fields cells = AllZip IsCell fields cells

-- ---- values in records

-- the value of a field that may be null: of the first branch of its union, or of the second
abbrev pub union_value : Value → Value
union_value Null = Union 0 Null
union_value cell = Union 1 cell

abbrev pub value_if_nullable : Bool → Value → Value
value_if_nullable true cell = union_value cell
value_if_nullable false cell = cell

-- the value of a field with its cell
abbrev pub value_of : FlatField × Value → Value
value_of p = value_if_nullable p.0.nullable p.1

abbrev pub record_values : List FlatField → List Value → List Value
record_values fields cells = map value_of (zip fields cells)

-- the record of cells
abbrev pub record_of_cells : List FlatField → List Value → Value
record_of_cells fields cells = Record (record_values fields cells)

-- ---- sizes

-- how many bytes a string or bytes have
abbrev pub cell_length : Value → ℕ
cell_length (Bytes content) = length content
cell_length (Text content) = length content
cell_length _ = 0

abbrev pub IsShortCell : Value → Type 0
IsShortCell cell = cell_length cell ≤ 65536

-- ---- lent cells

abbrev pub cell_view : CellRef → Value
cell_view lent.Null = Null
cell_view (lent.Boolean truth) = Boolean truth
cell_view (lent.Int number) = Int number
cell_view (lent.Long number) = Long number
cell_view (lent.Bytes content) = Bytes content.now
cell_view (lent.Text text) = Text text.now

abbrev pub cells_view : List CellRef → List Value
cells_view cells = map cell_view cells
