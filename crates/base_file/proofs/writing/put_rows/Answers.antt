use Rattle.std.proofs.Common.{◌∙◌, ◌++◌, ◌∷◌, [], List, length, refl, ap}
use Rattle.hudi_base.specs.declared.column.Column.{Column}
use Rattle.parquet_meta.specs.declared.row_group.RowGroup.{RowGroup}
use Rattle.base_cells.specs.Written.{group_pages, group_of}
use Rattle.base_file.specs.WrittenRows.{meaning}
use Rattle.base_file.proofs.WriteLemmas.{are_group, pages_of_added}
use Rattle.base_file.proofs.writing.put_rows.Goals as goal

pub put-requires : goal.put-requires
put-requires g c =
    let m = meaning (g.K.RowCodec.columns c.args.codec.now) (g.K.RowCodec.base_row c.args.codec.now) (g.K.RowCodec.file_column c.args.codec.now) c.args.file.now in
    let added = c.in_ok-add_rows.ensures in (
      added.table,
      pages_of_added m c.columns-2.result.now c.args.rows.now (length c.args.rows.now) c.add_rows.new.group c.columns-2.ensures refl added,
      are_group m c.columns-2.result.now added.table c.args.rows.now c.columns-2.ensures c.requires.few added.stand,
    )

pub returns : goal.returns
returns g c =
    let m = meaning (g.K.RowCodec.columns c.args.codec.now) (g.K.RowCodec.base_row c.args.codec.now) (g.K.RowCodec.file_column c.args.codec.now) c.args.file.now in
    let added = c.in_ok-add_rows.ensures in
    let pages = pages_of_added m c.columns-2.result.now c.args.rows.now (length c.args.rows.now) c.add_rows.new.group c.columns-2.ensures refl added in record {
      table = added.table;
      stand = added.stand;
      pages = c.in_ok-group.ensures.bytes added.table pages ∙ ap (λ (cs : List Column). c.args.bytes.now.items ++ group_pages cs added.table) c.columns-2.ensures;
      group = c.in_ok-push.ensures.items ∙ ap (λ (x : RowGroup). c.args.groups.now.items ++ x ∷ []) (c.in_ok-group.ensures.group added.table pages ∙ ap (λ (cs : List Column). group_of (length c.args.bytes.now.items) cs added.table) c.columns-2.ensures);
    }
