use Rattle.std.proofs.Common.{arith, ap}
use Rattle.thrift_compact.specs.Cursor.{Cursor}
use Rattle.parquet_meta.proofs.GrammarLemmas.{header_answer}
use Rattle.parquet_meta.proofs.page_header.read_page_header.Goals as goal

pub returns-in-Ok : goal.returns-in-Ok
returns-in-Ok c =
    let read = c.in-Ok.ensures in
    let start = c.new-reader.ensures in
    header_answer c.args.bytes.now c.new-reader.result.rest c.read_struct.new.reader.rest c.in-Ok.header c.offset.result (ap (λ (k : Cursor). k.rest) start) read.0 (omega (arith, read.1, ap (λ (k : Cursor). k.total) start, c.offset.ensures.offset))
