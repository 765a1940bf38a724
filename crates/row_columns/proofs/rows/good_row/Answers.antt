use Rattle.std.proofs.Common.{ℕ, Result, sym, ap, subst, ◌∙◌}
use Rattle.payload_merge.specs.declared.row.Row.{Row}
use Rattle.payload_merge.specs.RowCodec.{AnswersContent}
use Rattle.row_values.specs.Cells.{AreCells, cells_view}
use Rattle.row_records.specs.Records.{record_fields}
use Rattle.row_columns.specs.Base.{columns_of}
use Rattle.row_columns.specs.Readers.{timed_row}
use Rattle.row_columns.proofs.BaseLemmas.{base_is_timed, cells_told, good_cells, plain_cells}
use Rattle.row_columns.proofs.rows.good_row.Goals as goal

pub timed_row-requires : goal.timed_row-requires
timed_row-requires c =
    let layout = c.args.layout.now in
    let cells = c.args.cells.now in
    let good = good_cells 0 (columns_of layout) cells c.requires in
    let same = ap cells_view c.deref.ensures.value ∙ c.in_ok-lent.ensures.plain ∙ plain_cells (columns_of layout) cells good in
    subst (AreCells (record_fields layout.fields)) (sym same) (cells_told (record_fields layout.fields) cells good c.in_ok-lent.ensures.held)

pub returns : goal.returns
returns c =
    let layout = c.args.layout.now in
    let cells = c.args.cells.now in
    let good = good_cells 0 (columns_of layout) cells c.requires in
    let same = ap cells_view c.deref.ensures.value ∙ c.in_ok-lent.ensures.plain ∙ plain_cells (columns_of layout) cells good in
    subst (λ (r : Result Row ℕ). AnswersContent r c.timed_row.result)
    (ap (timed_row layout c.args.partition.now) same ∙ sym (base_is_timed layout c.args.partition.now cells c.requires c.in_ok-lent.ensures.held)) c.timed_row.ensures
