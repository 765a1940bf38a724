use Rattle.std.proofs.Common.{arith, vec_len}
use Rattle.parquet_pages.proofs.BitsLemmas.{times_added}
use Rattle.parquet_pages.proofs.bits.push_times.Goals as goal

pub returns : goal.returns
returns c =
    times_added c.args.most c.len-len.result (vec_len c.args.bits.now) c.min-added.result c.args.times c.args.bit c.args.bits.now.items _ c.requires (omega arith) (omega arith) c.min-added.ensures c.in_ok-resize.ensures.items
