use Rattle.upsert_writer.proofs.WholeBatches.{all_go_there}
use Rattle.upsert_writer.proofs.laws.batches_are_written_whole.Goals as goal

pub returns : goal.returns
returns c = λ t group batch all. all_go_there t 0 group batch all
