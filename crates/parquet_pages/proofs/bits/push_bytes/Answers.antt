use Rattle.std.proofs.Common.{arith}
use Rattle.parquet_pages.proofs.BitsLemmas.{bytes_step, bytes_end}
use Rattle.parquet_pages.proofs.bits.push_bytes.Goals as goal

pub loop-byte-preserved : goal.loop-byte-preserved
loop-byte-preserved c =
    (c.in_ok-push_byte.ensures.few, bytes_step c.args.most c.loop-byte.byte-index c.args.bytes.now c.loop-byte.bits.items _ _ (omega arith) c.in_ok-push_byte.ensures.added c.loop-byte.invariant.1)

pub returns : goal.returns
returns c =
    bytes_end c.args.most c.loop-byte.byte-index c.args.bytes.now c.loop-byte.bits.items _ (omega arith) c.loop-byte.invariant.0 c.loop-byte.invariant.1
