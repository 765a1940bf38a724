use Rattle.std.proofs.Common.{length, sym, ap, ◌∙◌, arith}
use Rattle.hudi_base.specs.declared.value.Value.{Value}
use Rattle.parquet_pages.specs.Plain.{value_bytes}
use Rattle.parquet_pages.proofs.CellsLemmas.{value_le}
use Rattle.parquet_pages.proofs.PartsLemmas.{no_parts, parts_next, parts_end}
use Rattle.parquet_pages.proofs.page.cells_of.Goals as goal

pub loop-cell-init : goal.loop-cell-init
loop-cell-init c = c.new-parts.ensures ∙ sym (no_parts c.args.column.now)

pub add-requires : goal.add-requires
add-requires c =
    let le = value_le c.loop-cell.cell-index c.args.cells.now c.cell-item.result c.loop-cell-test.true in
    omega (arith, le, c.requires, ap (λ (v : Value). length (value_bytes v)) c.cell-item.is)

pub loop-cell-preserved : goal.loop-cell-preserved
loop-cell-preserved c =
    parts_next c.args.column.now c.loop-cell.cell-index c.args.cells.now c.cell-item.result c.loop-cell.parts c.add.new.self c.loop-cell-test.true c.cell-item.is c.loop-cell.invariant c.in_ok-add.ensures

pub returns : goal.returns
returns c = parts_end c.args.column.now c.loop-cell.cell-index c.args.cells.now c.loop-cell.parts (omega arith) c.loop-cell.invariant
