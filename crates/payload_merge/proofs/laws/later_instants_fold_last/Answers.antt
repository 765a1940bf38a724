use Rattle.payload_merge.proofs.InstantFolds.{fold-append}
use Rattle.payload_merge.proofs.laws.later_instants_fold_last.Goals as goal

pub returns : goal.returns
returns c = fold-append
