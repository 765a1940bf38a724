use Rattle.std.proofs.Common.{◌≡◌, ℕ, List, [], Err, subst}
use Rattle.avro_schema.specs.Reading.{fields_from}
use Rattle.row_values.specs.declared.flat_field.FlatField.{FlatField}
use Rattle.row_values.specs.Cells.{cells_view}
use Rattle.row_values.specs.Fields.{typed_fields}
use Rattle.row_columns.proofs.OwnLemmas.{own_found, own_not_refused}
use Rattle.row_columns.proofs.own.own_cells.Goals as goal

pub unreachable-requires : goal.unreachable-requires
unreachable-requires c =
    let told = rw c.in-Err-Field.field-0-is at (c.in-Err-Field.ensures 1000000) in
    own_not_refused c.args.layout.now c.args.row.now c.in-Err-Field.field-0-0 c.requires
    (subst (λ (body : List ℕ). fields_from (typed_fields c.args.layout.now.fields) [] 1000000 body ≡ Err c.in-Err-Field.field-0-0) c.as_slice-2.ensures
    (subst (λ (fs : List FlatField). fields_from (typed_fields fs) [] 1000000 c.as_slice-2.result.now ≡ Err c.in-Err-Field.field-0-0) c.as_slice.ensures told))

pub returns-in-Ok : goal.returns-in-Ok
returns-in-Ok c =
    own_found c.args.layout.now c.args.row.now c.as_slice.result.now c.as_slice-2.result.now (cells_view c.in-Ok.cells.items) 1000000 c.in-Ok.field-0-1.now c.as_slice.ensures c.as_slice-2.ensures c.requires
    (c.in-Ok.ensures 1000000)
