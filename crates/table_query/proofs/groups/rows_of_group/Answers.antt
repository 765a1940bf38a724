use Rattle.std.proofs.Common.{subst, List, Result}
use Rattle.payload_merge.specs.Fold.{RowTable}
use Rattle.payload_merge.specs.declared.row.Write.{Write}
use Rattle.table_query.specs.GroupReading.{Damage, TableReading, group_writes}
use Rattle.table_query.specs.Parts.{Folds, text_at}
use Rattle.table_query.proofs.Ends.{ordered_rows}
use Rattle.table_query.proofs.groups.rows_of_group.Goals as goal

pub returns-in-Ok : goal.returns-in-Ok
returns-in-Ok g c =
    let reading : TableReading = record { rows = g.K.RowCodec.block_rows c.args.codec.now; table = g.K.TableCodec.table_name c.args.codec.now } in
    let found : Result (List Write) Damage = group_writes reading c.args.completed.now.keys (text_at c.args.texts.now) 0 c.args.group.now in
    let P : RowTable → Type 0 = λ old. Folds found old c.fold_group.new.rows in
    ordered_rows found c.fold_group.new.rows c.rows_in_order.result (subst P c.new-rows.ensures c.in-Ok.ensures) c.rows_in_order.ensures
