use Rattle.std.proofs.Common.{◌≡◌, ℕ, List, Result, Ok, ap, ◌∙◌}
use Rattle.payload_merge.specs.declared.row.Write.{Write}
use Rattle.payload_merge.specs.Contents.{DataPlace}
use Rattle.row_values.specs.RowCells.{IsOwnRow}
use Rattle.row_records.specs.Records.{rows_in}
use Rattle.row_records.proofs.LawLemmas.{own_rows}
use Rattle.codec_tool.proofs.PutLemmas.{of_puts}
use Rattle.codec_tool.proofs.blocks.rows_of.Goals as goal

pub returns : goal.returns
returns c =
    let layout = c.args.codec.now.records.own in
    let place : DataPlace = record { instant = c.args.place.now.time; partition = c.args.place.now.partition; file_id = c.args.place.now.file } in
    let read = c.in_ok-writes.ensures ∙ ap (λ (writes : List Write). let r : Result (List Write) ℕ = Ok writes in r) c.in_ok-rows.ensures in
    of_puts (IsOwnRow layout) (rows_in layout place c.args.content.now) c.in_ok-rows.rows.items (own_rows layout place c.args.content.now) read
