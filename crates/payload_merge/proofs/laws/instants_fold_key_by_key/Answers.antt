use Rattle.payload_merge.proofs.Tables.{get-fold}
use Rattle.payload_merge.proofs.laws.instants_fold_key_by_key.Goals as goal

pub returns : goal.returns
returns c = get-fold
