use Rattle.std.proofs.Common.{◌≡◌, ◌∙◌, sym}
use Rattle.upsert_writer.specs.BatchWrites.{partition_of}
use Rattle.upsert_writer.proofs.Runs.{same_more, same_text}
use Rattle.upsert_writer.proofs.slots.run_length.Goals as goal

pub loop-i-preserved : goal.loop-i-preserved
loop-i-preserved c =
    let same : c.as_slice.result.now ≡ c.as_slice-in-loop-i.result.now = same_text c.as_slice.result.now c.as_slice-in-loop-i.result.now (sym c.ne.ensures ∙ c.if-ne.false) in
    let here : partition_of c.index-writes-i.result ≡ c.args.partition.now = sym c.partition_of.ensures ∙ sym c.as_slice.ensures.bytes ∙ same ∙ c.as_slice-in-loop-i.ensures.bytes in
    same_more c.args.partition.now c.args.writes.now c.loop-i.i c.index-writes-i.result c.loop-i-test.true c.index-writes-i.is here c.loop-i.invariant
