use Rattle.std.proofs.Common.{sym, ◌∙◌, ap, ◌++◌, map, append-nil}
use Rattle.payload_merge.proofs.RowsByKey.{row_of_entry, rows_of-table_of}
use Rattle.payload_merge.proofs.rows_by_key.into_rows.Goals as goal

pub returns : goal.returns
returns c =
    sym (append-nil c.loop-partition.rows)
    ∙ ap (λ es. c.loop-partition.rows ++ map row_of_entry es) (sym c.in-None.ensures.steps.0)
    ∙ c.loop-partition.invariant
    ∙ sym (rows_of-table_of c.args.by_key.entries c.into_iter-partition-iterator.ensures.into_iter_gives.5)
