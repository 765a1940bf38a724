use Rattle.payload_merge.proofs.Contents.{table_of_contents-append}
use Rattle.payload_merge.proofs.laws.later_contents_fold_last.Goals as goal

pub returns : goal.returns
returns c = table_of_contents-append
