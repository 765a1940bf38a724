use Rattle.payload_merge.proofs.Contents.{base_of_table}
use Rattle.payload_merge.proofs.laws.base_of_a_table_makes_it.Goals as goal

pub returns : goal.returns
returns c = base_of_table
