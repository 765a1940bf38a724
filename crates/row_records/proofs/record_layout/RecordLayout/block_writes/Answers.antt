use Rattle.payload_merge.specs.Contents.{DataPlace}
use Rattle.row_records.proofs.PlaceLemmas.{block_ok, block_err}
use Rattle.row_records.proofs.record_layout.RecordLayout.block_writes.Goals as goal

pub returns-in-Ok : goal.returns-in-Ok
returns-in-Ok c =
    let place : DataPlace = record { instant = c.args.t; partition = c.args.partition.now; file_id = c.args.file_id.now } in
    block_ok c.args.self.now.own place c.args.content.now c.new-place.result c.in-Ok.writes c.new-place.ensures.t c.new-place.ensures.partition c.new-place.ensures.file_id c.in-Ok.ensures

pub returns-in-Err : goal.returns-in-Err
returns-in-Err c =
    let place : DataPlace = record { instant = c.args.t; partition = c.args.partition.now; file_id = c.args.file_id.now } in
    rw c.of_content.ensures
    (block_err c.args.self.now.own place c.args.content.now c.new-place.result c.in-Err.error c.new-place.ensures.t c.new-place.ensures.partition c.new-place.ensures.file_id c.in-Err.ensures)
