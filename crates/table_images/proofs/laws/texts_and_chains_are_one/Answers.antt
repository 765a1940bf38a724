use Rattle.table_images.proofs.OneChain.{one_chain}
use Rattle.table_images.proofs.Texts.{blocks_of_log}
use Rattle.table_images.proofs.laws.texts_and_chains_are_one.Goals as goal

pub returns : goal.returns
returns c = record { texts = blocks_of_log; chains = one_chain }
