use Rattle.std.proofs.Common.{sym}
use Rattle.table_props.proofs.FieldLemmas.{beside_others}
use Rattle.table_props.proofs.flat.branch_beside_null.Goals as goal

pub returns-then-branches-ne2 : goal.returns-then-branches-ne2
returns-then-branches-ne2 c = sym (beside_others c.args.branches.now c.if-branches-ne2.true)
