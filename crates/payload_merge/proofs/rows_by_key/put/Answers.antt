use Rattle.std.proofs.Common.{sym, ◌∙◌, w64, rules}
use Rattle.std.proofs.lemmas.Int.{to_z-of_z}
use Rattle.std.proofs.lemmas.Result.{err_from_is_err_and}
use Rattle.payload_merge.specs.Payload.{key_of_row}
use Rattle.payload_merge.specs.declared.row.Write.TheVariants.{Put}
use Rattle.payload_merge.proofs.RowsByKey.{table_after-outranked, table_after-put, get-table_of-none}
use Rattle.payload_merge.proofs.rows_by_key.put.Goals as goal

pub returns-then-stays-clause-ok : goal.returns-then-stays-clause-ok
returns-then-stays-clause-ok c = sym (table_after-outranked c.args.by_key.now.entries (Put c.args.row) _ (to_z-of_z w64 c.args.row.rank (search rules)) (sym c.stays.ensures ∙ c.if-stays.true))

pub returns-clause-ok : goal.returns-clause-ok
returns-clause-ok c = table_after-put c.args.by_key.now.entries c.insert.new.self.entries c.args.row _ (to_z-of_z w64 c.args.row.rank (search rules)) (sym c.stays.ensures ∙ c.if-stays.false) c.in_ok-insert.ensures.updates.0

pub returns-in_err-insert-clause-absent : goal.returns-in_err-insert-clause-absent
returns-in_err-insert-clause-absent c =
    let p = err_from_is_err_and c.from_residual.result c.from_residual.ensures.1 in
    rw p.1 (get-table_of-none c.args.by_key.now.entries (key_of_row c.args.row) c.in_err-insert.ensures.absent)
