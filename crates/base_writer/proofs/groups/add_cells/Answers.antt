use Rattle.std.proofs.Common.{◌∙◌, ◌<◌, length, refl, ap, arith}
use Rattle.std.proofs.lemmas.List.{length-set}
use Rattle.hudi_base.specs.declared.value.Value.{Value}
use Rattle.parquet_pages.specs.Plain.{value_bytes}
use Rattle.base_writer.proofs.PartLemmas.{cell_le, part_next, parts_done}
use Rattle.base_writer.proofs.groups.add_cells.Goals as goal

pub add-requires : goal.add-requires
add-requires c =
    let within : c.loop-i.i < length c.args.cells.now = omega arith in
    omega (arith, cell_le c.args.columns.now c.args.cells.now c.loop-i.i c.index-cells-i.result within c.requires, ap (λ (v : Value). length (value_bytes v)) c.index-cells-i.is)

pub loop-i-preserved : goal.loop-i-preserved
loop-i-preserved c =
    let was = c.loop-i.invariant in
    let in_columns : c.loop-i.i < length c.args.columns.now = omega arith in
    let in_cells : c.loop-i.i < length c.args.cells.now = omega arith in
    let in_pages : c.loop-i.i < length c.args.pages.now.items = omega (arith, was.0) in (
      length-set c.loop-i.pages.items c.loop-i.i c.add.new.self ∙ was.0,
      part_next c.loop-i.i c.args.columns.now c.args.cells.now c.args.pages.now.items c.loop-i.pages.items _ c.index-columns-i.result c.index-cells-i.result c.index_mut.result.now c.add.new.self in_columns in_cells in_pages
          c.index-columns-i.is c.index-cells-i.is c.index_mut.ensures.value c.in_ok-add.ensures refl was.1,
    )

pub returns : goal.returns
returns c = c.loop-i.invariant.1 ∙ parts_done c.loop-i.i c.args.columns.now c.args.cells.now c.args.pages.now.items (omega arith)
