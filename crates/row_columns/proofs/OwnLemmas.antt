-- The body of a row of the table is read as its cells.
use Rattle.std.proofs.Common.{◌≡◌, ℕ, eqb, List, [], length, Ok, Err, sym, ap, subst, ◌∙◌}
use Rattle.byte_fields.specs.declared.field_error.FieldError.{FieldError}
use Rattle.byte_fields.proofs.ReadingLemmas.{only_if-Ok}
use Rattle.hudi_base.specs.declared.value.Value.{Value}
use Rattle.avro_schema.specs.Reading.{fields_from}
use Rattle.payload_merge.specs.declared.row.Row.{Row}
use Rattle.row_values.specs.declared.flat_field.FlatField.{FlatField}
use Rattle.row_values.specs.declared.row_layout.RowLayout.{RowLayout}
use Rattle.row_values.specs.Fields.{typed_fields}
use Rattle.row_values.specs.Cells.{AreCells, record_values}
use Rattle.row_values.specs.RowCells.{AreCellsOf, IsOwnRow}
use Rattle.row_records.specs.Records.{cells_at}
use Rattle.row_records.proofs.CellLemmas.{cells_again, cells_found, cells_not_found}

again : (layout : RowLayout) (row : Row) (own : List Value) → AreCellsOf layout row own → cells_at layout.fields row.body ≡ Ok own
again layout row own is = ap (cells_at layout.fields) is.body ∙ cells_again layout.fields own is.fit

pub own_read : (layout : RowLayout) (row : Row) (cells : List Value) (k : ℕ) (rest : List ℕ) → IsOwnRow layout row → AreCells layout.fields cells
    → fields_from (typed_fields layout.fields) [] 1000000 row.body ≡ Ok ((record_values layout.fields cells, k), rest) → AreCellsOf layout row cells
own_read layout row cells k rest (own, is) fit read =
    let same = only_if-Ok (eqb (length rest) 0) rest cells own (sym (cells_found layout.fields row.body cells k rest fit read) ∙ again layout row own is) in
    subst (AreCellsOf layout row) (sym same.1) is

pub own_not_refused : (layout : RowLayout) (row : Row) (error : FieldError) → IsOwnRow layout row → fields_from (typed_fields layout.fields) [] 1000000 row.body ≡ Err error → ⊥
own_not_refused layout row error (own, is) read =
    let none = cells_not_found layout.fields row.body error read in
    let some = again layout row own is in
    cc

-- a row has one list of cells
pub one_list : (layout : RowLayout) (row : Row) (cells other : List Value) → AreCellsOf layout row cells → AreCellsOf layout row other → cells ≡ other
one_list layout row cells other is also =
    let one = again layout row cells is in
    let two = again layout row other also in
    cc

-- the same, where fields and bytes were read that are these
pub own_found : (layout : RowLayout) (row : Row) (fields : List FlatField) (body : List ℕ) (cells : List Value) (k : ℕ) (rest : List ℕ) → fields ≡ layout.fields → body ≡ row.body → IsOwnRow layout row
    → AreCells fields cells × (fields_from (typed_fields fields) [] 1000000 body ≡ Ok ((record_values fields cells, k), rest)) → AreCellsOf layout row cells
own_found layout row fields body cells k rest same is own read =
    let here = subst (λ (fs : List FlatField). AreCells fs cells × (fields_from (typed_fields fs) [] 1000000 body ≡ Ok ((record_values fs cells, k), rest))) same read in
    own_read layout row cells k rest own here.0 (subst (λ (bs : List ℕ). fields_from (typed_fields layout.fields) [] 1000000 bs ≡ Ok ((record_values layout.fields cells, k), rest)) is here.1)
