use Rattle.payload_merge.proofs.Contents.{data_contents_fold}
use Rattle.payload_merge.proofs.laws.data_contents_fold_as_their_rows.Goals as goal

pub returns : goal.returns
returns c = data_contents_fold
