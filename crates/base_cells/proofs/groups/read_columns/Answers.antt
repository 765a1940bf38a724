use Rattle.std.proofs.Common.{◌∙◌, List, ℕ, Vec, Global, refl}
use Rattle.std.proofs.lemmas.Result.{err_from_is_err_and}
use Rattle.hudi_base.specs.declared.value.Value.{Value}
use Rattle.base_cells.specs.Binding.{behind}
use Rattle.base_cells.specs.Cells.{chunks_at, group_at}
use Rattle.base_cells.specs.Turned.{turned}
use Rattle.base_cells.proofs.PageLemmas.{answers_Err}
use Rattle.base_cells.proofs.ChunkLemmas.{group_Err, group_long, group_read}
use Rattle.base_cells.proofs.groups.read_columns.Goals as goal

pub returns-in_err-push_chunks-clause-rows : goal.returns-in_err-push_chunks-clause-rows
returns-in_err-push_chunks-clause-rows c =
    let p = err_from_is_err_and c.from_residual.result c.from_residual.ensures.1 in
    rw (p.1, p.2)
    (answers_Err {X = Unit {0}} (λ done. c.push_chunks.new.cells.items) (λ (x : Vec (List Value) Global × ℕ). turned x.1 x.0.items) c.in_err-push_chunks.field-0.0 (behind c.new-cells.result.items (chunks_at c.args.bytes.now c.as_slice.result.now c.as_slice-2.result.now)) (group_at c.args.columns.now c.args.bytes.now c.args.group.now)
    (λ error e. group_Err c.args.columns.now c.as_slice.result.now c.args.bytes.now c.args.group.now c.as_slice-2.result.now c.new-cells.result.items error c.as_slice.ensures c.as_slice-2.ensures c.new-cells.ensures.items e)
    c.in_err-push_chunks.ensures)

pub returns-clause-rows : goal.returns-clause-rows
returns-clause-rows c =
    group_read c.args.columns.now c.as_slice.result.now c.args.bytes.now c.args.group.now c.as_slice-2.result.now c.new-cells.result.items c.push_chunks.new.cells.items (turned c.rows_of.result c.push_chunks.new.cells.items) c.rows_of.result c.as_slice.ensures c.as_slice-2.ensures c.new-cells.ensures.items c.in_ok-push_chunks.ensures c.rows_of.ensures
    refl

pub returns-clause-long : goal.returns-clause-long
returns-clause-long c =
    group_long c.args.columns.now c.as_slice.result.now c.args.bytes.now c.args.group.now c.as_slice-2.result.now c.new-cells.result.items c.push_chunks.new.cells.items c.rows_of.result c.as_slice.ensures c.as_slice-2.ensures c.new-cells.ensures.items c.in_ok-push_chunks.ensures c.requires c.rows_of.ensures
