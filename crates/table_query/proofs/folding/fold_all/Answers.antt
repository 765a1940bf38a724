use Rattle.std.proofs.Common.{◌∙◌, sym, ap}
use Rattle.payload_merge.specs.Fold.{RowTable, table_after}
use Rattle.table_query.proofs.Following.{one_write}
use Rattle.table_query.proofs.folding.fold_all.Goals as goal

pub loop-write-preserved : goal.loop-write-preserved
loop-write-preserved c =
    c.in_ok-fold_in.ensures.ok ∙ ap (λ (table : RowTable). table_after table c.in-Some.write) c.loop-write.invariant ∙ sym (one_write c.loop-write.yielded c.in-Some.write c.args.rows.now)
