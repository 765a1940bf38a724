use Rattle.std.proofs.Common.{◌≤◌, length, Some, refl, sym, ap, subst, ◌∙◌, arith}
use Rattle.std.proofs.lemmas.Grind.{common_steps}
use Rattle.std.proofs.lemmas.Int.{ints}
use Rattle.table_forms.specs.NameForms.{IsPartitionPath}
use Rattle.row_values.specs.Cells.{cells_view}
use Rattle.row_values.specs.RowCells.{IsRecordKey}
use Rattle.row_values.proofs.CellLemmas.{short_cells}
use Rattle.row_values.proofs.new_row.row_of_cells.Goals as goal

pub returns : goal.returns
returns c =
    let cells = cells_view c.args.cells.now in
    let key-is = c.in_ok-from_slice.ensures ∙ c.as_bytes.ensures.value in
    let path-is = c.in_ok-from_text.ensures in
    let body-is = c.from_vec.ensures ∙ c.in_ok-body.ensures in
    let short : length c.from_vec.result ≤ 65536 = rw c.from_vec.ensures (omega arith) in (
      record {
        fit = c.requires;
        short = short_cells c.args.layout.now.fields cells c.requires (rw body-is at short);
        body = body-is;
        key = c.in-Some.ensures.0 ∙ ap Some (sym key-is);
        partition = c.in-Some-partition_path.ensures.0 ∙ ap Some (sym path-is);
        rank = grind (arith, ints, common_steps, c.in-Some-rank_in.ensures);
      },
      subst IsRecordKey (sym key-is) c.in-Some.ensures.1,
      subst IsPartitionPath (sym path-is) c.in-Some-partition_path.ensures.1,
      short,
      refl,
      refl,
    )
