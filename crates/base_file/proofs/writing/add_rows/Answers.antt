use Rattle.std.proofs.Common.{◌<◌, [], List, length, sym, subst, arith}
use Rattle.hudi_base.specs.declared.column.Column.{Column}
use Rattle.column_cells.specs.Cells.{AreCellsOf}
use Rattle.base_file.specs.WrittenRows.{meaning}
use Rattle.base_file.proofs.WriteLemmas.{added_more, added_all}
use Rattle.base_file.proofs.writing.add_rows.Goals as goal

pub loop-row-init : goal.loop-row-init
loop-row-init g c = record { table = []; stand = tt; are = c.requires.empty }

pub add-requires : goal.add-requires
add-requires g c = subst (λ (columns : List Column). AreCellsOf columns c.in_ok-cells.cells) (sym c.columns.ensures) c.in_ok-cells.ensures.of_the_columns

pub loop-row-preserved : goal.loop-row-preserved
loop-row-preserved g c =
    let lt : c.loop-row.row-index < length c.args.rows.now = omega arith in
    added_more (meaning (g.K.RowCodec.columns c.args.codec.now) (g.K.RowCodec.base_row c.args.codec.now) (g.K.RowCodec.file_column c.args.codec.now) c.args.file.now)
    c.columns.result.now c.loop-row.row-index c.args.rows.now c.row-item.result c.in_ok-cells.cells c.loop-row.group c.add.new.self c.columns.ensures lt c.row-item.is c.in_ok-cells.ensures c.loop-row.invariant c.in_ok-add.ensures

pub returns : goal.returns
returns g c =
    added_all (meaning (g.K.RowCodec.columns c.args.codec.now) (g.K.RowCodec.base_row c.args.codec.now) (g.K.RowCodec.file_column c.args.codec.now) c.args.file.now)
    c.loop-row.row-index c.args.rows.now c.loop-row.group (omega arith) c.loop-row.invariant
