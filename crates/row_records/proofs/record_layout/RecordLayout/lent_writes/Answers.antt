use Rattle.std.proofs.Common.{◌≡◌, List, ℕ, map, Ok, IsOk, refl, sym, subst}
use Rattle.payload_merge.specs.Contents.{DataPlace, data_writes}
use Rattle.payload_merge.specs.RowRefs.{write_in}
use Rattle.row_records.specs.Records.{CanBeLent, rows_in}
use Rattle.row_records.proofs.PlaceLemmas.{lent_ok, not_lent}
use Rattle.row_records.proofs.record_layout.RecordLayout.lent_writes.Goals as goal

pub returns-in-Ok : goal.returns-in-Ok
returns-in-Ok c =
    let layout = c.args.self.now.own in
    let place : DataPlace = record { instant = c.args.t; partition = c.args.partition.now; file_id = c.args.file_id.now } in
    let told = lent_ok layout place c.args.content.now c.new-place.result (map (write_in c.new-place.result.partition.now) c.in-Ok.writes.items) c.new-place.ensures.t c.new-place.ensures.partition c.new-place.ensures.file_id c.in-Ok.ensures in
    subst (λ (partition : List ℕ). CanBeLent layout place c.args.content.now × (data_writes (rows_in layout) place c.args.content.now ≡ Ok (map (write_in partition) c.in-Ok.writes.items))) c.new-place.ensures.partition told

pub returns-in_ok-block_writes-in-Err-Field : goal.returns-in_ok-block_writes-in-Err-Field
returns-in_ok-block_writes-in-Err-Field c =
    let layout = c.args.self.now.own in
    let place : DataPlace = record { instant = c.args.t; partition = c.args.partition.now; file_id = c.args.file_id.now } in (
      not_lent layout place c.args.content.now c.new-place.result c.in-Err-Field.field-0-0 c.new-place.ensures.t c.new-place.ensures.partition c.new-place.ensures.file_id
          (rw c.in-Err-Field.field-0-is at c.in-Err-Field.ensures),
      subst IsOk (sym c.in_ok-block_writes-in-Err-Field.ensures) refl,
    )
