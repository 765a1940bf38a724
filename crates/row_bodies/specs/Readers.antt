-- What readers give.
use Rattle.std.specs.Prelude.{◌≡◌, Bool, List, Vec, ℕ, Result, Ok, Err}
use Rattle.std.specs.Borrow.{Bor}
use Rattle.std.specs.declared.alloc.Global.{Global}
use Rattle.byte_fields.specs.declared.field_error.FieldError.{FieldError}
use Rattle.byte_fields.specs.Reading.{Reading}
use Rattle.hudi_base.specs.declared.value.Value.{Value}
use Rattle.row_values.specs.declared.cell_ref.CellRef.{CellRef}
use Rattle.row_values.specs.declared.flat_field.FlatField.{FlatField}
use Rattle.row_values.specs.declared.flat_field.CellType.{CellType}
use Rattle.row_values.specs.Cells.{AreCells, IsCellOf, cells_view, record_values, value_if_nullable, cell_view}
use Rattle.row_bodies.specs.declared.errors.ReadError.{ReadError}
use Rattle.row_bodies.specs.declared.errors.ReadError.TheVariants.{Memory, Field}

-- The reader answers what reading gives, unless memory has run out.
abbrev pub Fails : {Y : Type 0} → ReadError → Reading Y → Type 0
Fails Memory read = Unit {0}
Fails (Field error) read = read ≡ Err error

-- A cell, whose value in a record reading gives, with so many items left that may be read.
abbrev pub ReadsCell :
    Bool → CellType → ℕ → Result (CellRef × Bor (List ℕ)) FieldError → Reading (Value × ℕ) → Type 0
ReadsCell nullable type left (Ok x) read =
    IsCellOf nullable type (cell_view x.0) × (read ≡ Ok ((value_if_nullable nullable (cell_view x.0), left), x.1.now))
ReadsCell nullable type left (Err error) read = read ≡ Err error

-- The same of the cells of fields.
abbrev pub ReadsCells :
    List FlatField → ℕ → Result (Vec CellRef Global × Bor (List ℕ)) ReadError → Reading (List Value × ℕ) → Type 0
ReadsCells fields left (Ok x) read =
    AreCells fields (cells_view x.0.items) × (read ≡ Ok ((record_values fields (cells_view x.0.items), left), x.1.now))
ReadsCells fields left (Err error) read = Fails error read
