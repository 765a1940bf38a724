use Rattle.std.proofs.Common.{◌++◌, ◌∷◌, [], ◌∙◌, sym, get_or, false, arith}
use Rattle.std.proofs.lemmas.Result.{err_from_is_err_and}
use Rattle.parquet_meta.specs.Reading.{with_value}
use Rattle.parquet_pages.specs.Plain.{cell_at, cells_at}
use Rattle.parquet_pages.proofs.LevelsLemmas.{Fails_then}
use Rattle.parquet_pages.proofs.CellsLemmas.{with_none, cells_next, cells_Err, cells_end}
use Rattle.parquet_pages.proofs.plain.cells_at.Goals as goal

pub loop-level-init : goal.loop-level-init
loop-level-init c = rw c.in_ok-cells.ensures (with_none c.args.column.now c.args.levels.now c.args.bytes.now)

pub returns-in_err-rest : goal.returns-in_err-rest
returns-in_err-rest c =
    let p = err_from_is_err_and c.from_residual-in_err-rest.result c.from_residual-in_err-rest.ensures.1 in
    rw (p.1, p.2)
    (Fails_then c.in_err-rest.field-0.0 (with_value (λ cell. c.loop-level.cells ++ cell ∷ []) (cell_at c.args.column.now (get_or c.args.levels.now c.loop-level.level-index false) c.loop-level.rest.now)) (cells_at c.args.column.now c.args.levels.now c.args.bytes.now)
    (λ error e. sym c.loop-level.invariant ∙ cells_Err c.args.column.now c.loop-level.level-index c.loop-level.cells c.args.levels.now c.loop-level.rest.now error c.loop-level-test.true e)
    c.in_err-rest.ensures)

pub loop-level-preserved : goal.loop-level-preserved
loop-level-preserved c =
    sym (cells_next c.args.column.now c.loop-level.level-index c.loop-level.cells c.push_cell.new.cells c.args.levels.now c.loop-level.rest.now c.in_ok-rest.rest.now c.loop-level-test.true c.in_ok-rest.ensures)
    ∙ c.loop-level.invariant

pub returns : goal.returns
returns c =
    sym c.loop-level.invariant ∙ cells_end c.args.column.now c.loop-level.level-index c.loop-level.cells c.args.levels.now c.loop-level.rest.now (omega arith)
