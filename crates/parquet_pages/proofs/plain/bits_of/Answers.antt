use Rattle.std.proofs.Common.{◌*◌, ◌++◌, ◌∙◌, ap, length, take, Bool, List, arith}
use Rattle.parquet_pages.specs.Levels.{bits_of}
use Rattle.parquet_pages.proofs.BitsLemmas.{take_all}
use Rattle.parquet_pages.proofs.CellsLemmas.{length-bits_of}
use Rattle.parquet_pages.proofs.plain.bits_of.Goals as goal

pub returns : goal.returns
returns c =
    c.in_ok-push_bytes.ensures
    ∙ ap (λ (old : List Bool). take (8 * length c.args.bytes.now) (old ++ bits_of c.args.bytes.now)) c.new-bits.ensures.items
    ∙ take_all (8 * length c.args.bytes.now) (bits_of c.args.bytes.now) (omega (arith, length-bits_of c.args.bytes.now))
