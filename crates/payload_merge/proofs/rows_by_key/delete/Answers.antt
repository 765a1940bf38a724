use Rattle.std.proofs.Common.{sym, ◌∙◌, w64}
use Rattle.std.proofs.lemmas.Int.{to_z-of_z}
use Rattle.payload_merge.specs.declared.row.Write.TheVariants.{Del}
use Rattle.payload_merge.proofs.RowsByKey.{table_after-outranked, table_after-delete}
use Rattle.payload_merge.proofs.rows_by_key.delete.Goals as goal

pub returns-then-not-stays : goal.returns-then-not-stays
returns-then-not-stays c = table_after-delete c.args.by_key.now.entries c.remove.new.self.entries c.args.key c.args.rank _ (to_z-of_z w64 c.args.rank c.ranges.rank) (sym c.stays.ensures ∙ c.if-not-stays.true) c.remove.ensures.updates.0

pub returns : goal.returns
returns c = sym (table_after-outranked c.args.by_key.now.entries (Del c.args.key.0 c.args.key.1 c.args.rank) _ (to_z-of_z w64 c.args.rank c.ranges.rank) (sym c.stays.ensures ∙ c.if-not-stays.false))
