use Rattle.std.proofs.Common.{arith}
use Rattle.parquet_pages.proofs.CellsLemmas.{content_length}
use Rattle.parquet_pages.proofs.plain.booleans_at.Goals as goal

pub bits_of-requires : goal.bits_of-requires
bits_of-requires c =
    let le = content_length c.div_ceil.result c.args.bytes.now c.in_ok-content.content.now c.in_ok-content.rest.now c.in_ok-content.ensures in
    omega (arith, le, c.div_ceil.ensures)
