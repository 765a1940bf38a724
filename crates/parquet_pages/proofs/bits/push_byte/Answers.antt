use Rattle.std.proofs.Common.{refl, arith}
use Rattle.parquet_pages.proofs.BitsLemmas.{byte_added}
use Rattle.parquet_pages.proofs.bits.push_byte.Goals as goal

pub returns-clause-added : goal.returns-clause-added
returns-clause-added c =
    byte_added c.args.most c.min.result c.len.result c.args.bits.now.items _ c.byte_bits-eight.result _ c.requires (omega arith) c.min.ensures refl c.byte_bits-eight.ensures c.in_ok-extend_from_slice.ensures.items
