use Rattle.std.proofs.Common.{◌≡◌, ◌+◌, [], ◌∷◌, ◌++◌, sym, subst, ap, ◌∙◌, arith}
use Rattle.std.proofs.lemmas.Grind.{common_steps}
use Rattle.std.proofs.lemmas.List.{map-append}
use Rattle.row_values.specs.Cells.{cell_view, cells_view}
use Rattle.row_values.proofs.CellLemmas.{CellsSoFar, cells_more, cells_whole, fit_at, values_length}
use Rattle.row_values.proofs.cell_ref.cells_of.Goals as goal

pub bounds-values-i : goal.bounds-values-i
bounds-values-i c = omega (arith, values_length c.args.fields.now c.args.values.now c.requires)

pub cell_of_field-requires : goal.cell_of_field-requires
cell_of_field-requires c = fit_at c.args.fields.now c.args.values.now c.loop-i.i c.index-fields-i.result c.index-values-i.result c.requires c.loop-i-test.true c.index-fields-i.is c.index-values-i.is

pub loop-i-preserved : goal.loop-i-preserved
loop-i-preserved c =
    let more = cells_more c.args.fields.now c.args.values.now c.loop-i.i (cells_view c.loop-i.cells.items) c.index-fields-i.result c.index-values-i.result (cell_view c.cell_of_field.result)
    (values_length c.args.fields.now c.args.values.now c.requires) c.loop-i-test.true c.index-fields-i.is c.index-values-i.is c.cell_of_field.ensures.cell c.cell_of_field.ensures.view c.loop-i.invariant in
    let pushed : c.push.new.self.items ≡ c.loop-i.cells.items ++ c.cell_of_field.result ∷ [] = grind (arith, common_steps) in
    let split = map-append cell_view c.loop-i.cells.items (c.cell_of_field.result ∷ []) in
    subst (CellsSoFar c.args.fields.now c.args.values.now (c.loop-i.i + 1)) (sym (ap cells_view pushed ∙ split)) more

pub returns : goal.returns
returns c = cells_whole c.args.fields.now c.args.values.now c.loop-i.i (cells_view c.loop-i.cells.items) (values_length c.args.fields.now c.args.values.now c.requires) (omega arith) c.loop-i.invariant
