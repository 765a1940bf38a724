use Rattle.std.proofs.Common.{◌∙◌}
use Rattle.block_contents.proofs.DeleteLemmas.{deletes_again}
use Rattle.block_contents.proofs.deletes.delete_block.Goals as goal

pub returns-clause-reads_back : goal.returns-clause-reads_back
returns-clause-reads_back c partition placed =
    deletes_again partition c.args.dels.now c.from_vec.result (c.from_vec.ensures ∙ c.in_ok-out.ensures.bytes) c.requires.counted c.requires.deletes c.in_ok-out.ensures.ranked placed
