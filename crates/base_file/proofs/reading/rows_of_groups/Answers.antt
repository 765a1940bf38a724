use Rattle.std.proofs.Common.{◌∙◌, ◌<◌, [], Some, Option, Vec, Global, List, ℕ, length, sym, ap, arith}
use Rattle.std.specs.Option.{option_map}
use Rattle.std.proofs.lemmas.Result.{err_from_is_err_and}
use Rattle.hudi_base.specs.declared.column.Column.{Column}
use Rattle.hudi_base.specs.declared.value.Value.{Value}
use Rattle.payload_merge.specs.declared.row.Row.{Row}
use Rattle.base_cells.specs.Cells.{group_at}
use Rattle.base_cells.specs.Turned.{turned}
use Rattle.base_cells.proofs.PageLemmas.{answers_Err}
use Rattle.base_file.specs.Loops.{rows_of_groups}
use Rattle.base_file.proofs.RowLemmas.{group_next, group_refused, groups_end}
use Rattle.base_file.proofs.reading.rows_of_groups.Goals as goal

pub returns-in_err-cells : goal.returns-in_err-cells
returns-in_err-cells g c =
    let columns = g.K.RowCodec.columns c.args.codec.now in
    let reading = g.K.RowCodec.base_row c.args.codec.now in
    let lt : c.loop-group.group-index < length c.args.groups.now = omega arith in
    let p = err_from_is_err_and c.from_residual.result c.from_residual.ensures.1 in
    rw (p.1, p.2)
    (answers_Err (λ (x : Vec (List Value) Global × ℕ). turned x.1 x.0.items) (λ (rows : Option (Vec Row Global)). option_map (λ rows. rows.items) rows) c.in_err-cells.field-0.0 (group_at c.columns-columns.result.now c.args.bytes.now c.group-item.result)
    (rows_of_groups columns reading c.args.partition.now c.args.bytes.now (Some []) c.args.groups.now)
    (λ error e. group_refused columns reading c.args.partition.now c.args.bytes.now c.loop-group.group-index c.args.groups.now c.group-item.result (option_map (λ (rows : Vec Row Global). rows.items) c.loop-group.rows) error
    (rows_of_groups columns reading c.args.partition.now c.args.bytes.now (Some []) c.args.groups.now) lt c.group-item.is (ap (λ (cs : List Column). group_at cs c.args.bytes.now c.group-item.result) (sym c.columns-columns.ensures) ∙ e) c.loop-group.invariant)
    c.in_err-cells.ensures.rows)

pub loop-group-preserved : goal.loop-group-preserved
loop-group-preserved g c =
    let columns = g.K.RowCodec.columns c.args.codec.now in
    let reading = g.K.RowCodec.base_row c.args.codec.now in
    let lt : c.loop-group.group-index < length c.args.groups.now = omega arith in
    group_next columns reading c.args.partition.now c.args.bytes.now c.loop-group.group-index c.args.groups.now c.group-item.result (option_map (λ (rows : Vec Row Global). rows.items) c.loop-group.rows)
    (option_map (λ (rows : Vec Row Global). rows.items) c.in_ok-rows.rows) (turned c.in_ok-cells.count c.in_ok-cells.cells.items) (rows_of_groups columns reading c.args.partition.now c.args.bytes.now (Some []) c.args.groups.now) lt c.group-item.is
    (ap (λ (cs : List Column). group_at cs c.args.bytes.now c.group-item.result) (sym c.columns-columns.ensures) ∙ c.in_ok-cells.ensures.rows)
    c.in_ok-rows.ensures c.loop-group.invariant

pub returns : goal.returns
returns g c =
    let columns = g.K.RowCodec.columns c.args.codec.now in
    let reading = g.K.RowCodec.base_row c.args.codec.now in
    groups_end columns reading c.args.partition.now c.args.bytes.now c.loop-group.group-index c.args.groups.now (option_map (λ (rows : Vec Row Global). rows.items) c.loop-group.rows)
    (rows_of_groups columns reading c.args.partition.now c.args.bytes.now (Some []) c.args.groups.now) (omega arith) c.loop-group.invariant
