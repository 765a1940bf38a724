use Rattle.std.proofs.Common.{◌≡◌, ◌+◌, ◌-◌, ◌++◌, ◌∷◌, [], ◌∙◌, sym, true, replicate, arith}
use Rattle.std.proofs.lemmas.Result.{err_from_is_err_and}
use Rattle.parquet_meta.specs.Reading.{with_value}
use Rattle.parquet_pages.specs.Plain.{cell_at, cells_at}
use Rattle.parquet_pages.proofs.LevelsLemmas.{Fails_then}
use Rattle.parquet_pages.proofs.CellsLemmas.{with_none, full_next, full_Err, full_end}
use Rattle.parquet_pages.proofs.plain.full_cells_at.Goals as goal

pub loop-cell-init : goal.loop-cell-init
loop-cell-init c =
    let all : c.args.count - 0 ≡ c.args.count = omega arith in
    rw (c.in_ok-cells.ensures, all) (with_none c.args.column.now (replicate c.args.count true) c.args.bytes.now)

pub returns-in_err-rest : goal.returns-in_err-rest
returns-in_err-rest c =
    let p = err_from_is_err_and c.from_residual-in_err-rest.result c.from_residual-in_err-rest.ensures.1 in
    rw (p.1, p.2)
    (Fails_then c.in_err-rest.field-0.0 (with_value (λ cell. c.loop-cell.cells ++ cell ∷ []) (cell_at c.args.column.now true c.loop-cell.rest.now)) (cells_at c.args.column.now (replicate c.args.count true) c.args.bytes.now)
    (λ error e. sym c.loop-cell.invariant ∙ full_Err c.args.column.now (c.args.count - c.loop-cell._cell) (c.args.count - (c.loop-cell._cell + 1)) c.loop-cell.cells c.loop-cell.rest.now error (omega arith) e)
    c.in_err-rest.ensures)

pub loop-cell-preserved : goal.loop-cell-preserved
loop-cell-preserved c =
    sym (full_next c.args.column.now (c.args.count - c.loop-cell._cell) (c.args.count - (c.loop-cell._cell + 1)) c.loop-cell.cells c.push_cell.new.cells c.loop-cell.rest.now c.in_ok-rest.rest.now (omega arith) c.in_ok-rest.ensures)
    ∙ c.loop-cell.invariant

pub returns : goal.returns
returns c =
    sym c.loop-cell.invariant ∙ full_end c.args.column.now (c.args.count - c.loop-cell._cell) c.loop-cell.cells c.loop-cell.rest.now (omega arith)
