use Rattle.std.proofs.Common.{◌++◌, List, ap, ◌∙◌}
use Rattle.hudi_base.specs.declared.value.Value.{Value}
use Rattle.row_values.specs.declared.cell_ref.CellRef.{CellRef}
use Rattle.row_values.specs.Cells.{cells_view}
use Rattle.row_records.proofs.ContentLemmas.{utf8_text}
use Rattle.row_columns.proofs.cells.base_cells.Goals as goal

pub text_cells-requires : goal.text_cells-requires
text_cells-requires c =
    let own = c.in_ok-own.ensures in utf8_text c.args.layout.now.fields (cells_view c.in_ok-own.own.items) c.args.layout.now.key c.args.row.now.key own.fit own.key

pub returns : goal.returns
returns c = record {
  own = cells_view c.in_ok-own.own.items;
  own_are = c.in_ok-own.ensures;
  cells_are =
      c.in_ok-push_all.ensures
      ∙ ap (λ (lent : List CellRef). c.in_ok-cells.cells ++ cells_view lent) c.deref.ensures.value
      ∙ ap (λ (texts : List Value). texts ++ cells_view c.in_ok-own.own.items) c.in_ok-cells.ensures.cells;
  known = c.in_ok-cells.ensures.known;
}
