use Rattle.std.proofs.Common.{arith}
use Rattle.log_block.proofs.Blocks.{whole_written, bad_offset}
use Rattle.log_block.proofs.reading.read_block.Goals as goal

pub returns-clause-whole : goal.returns-clause-whole
returns-clause-whole c = whole_written c.args.bytes.now c.block_at.result (λ i. omega (arith, c.type_inv.bytes i)) c.block_at.ensures

pub returns-clause-bad : goal.returns-clause-bad
returns-clause-bad c = bad_offset c.args.bytes.now c.block_at.result (λ i. omega (arith, c.type_inv.bytes i)) c.block_at.ensures
