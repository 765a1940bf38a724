use Rattle.payload_merge.proofs.Tables.{get-table_after_all}
use Rattle.payload_merge.proofs.laws.writes_act_key_by_key.Goals as goal

pub returns : goal.returns
returns c = get-table_after_all
