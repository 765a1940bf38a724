use Rattle.payload_merge.proofs.Tables.{get-table_after_all-among}
use Rattle.payload_merge.proofs.laws.writes_to_some_keys_suffice.Goals as goal

pub returns : goal.returns
returns c = get-table_after_all-among
