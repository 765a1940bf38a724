use Rattle.std.proofs.Common.{true, false, length, IsOk, refl, sym, ap, subst, ◌∙◌}
use Rattle.payload_merge.specs.Contents.{DataPlace}
use Rattle.block_contents.specs.Contents.{with_offset}
use Rattle.row_records.proofs.ContentLemmas.{rows_read}
use Rattle.row_records.proofs.record_layout.RecordLayout.data_block.Goals as goal

pub returns-clause-reads_back : goal.returns-clause-reads_back
returns-clause-reads_back c partition placed =
    let place : DataPlace = record { instant = c.args.t; partition = partition; file_id = c.args.file_id.now } in
    let same = c.from_vec.ensures ∙ c.in_ok-content.ensures.bytes in
    ap (with_offset (length c.from_vec.result)) (rows_read c.args.self.now.own place c.requires.short_id false c.args.rows.now c.from_vec.result same c.requires.counted c.in_ok-content.ensures.known c.requires.own placed)

pub returns-clause-can_be_lent : goal.returns-clause-can_be_lent
returns-clause-can_be_lent c partition placed =
    let place : DataPlace = record { instant = c.args.t; partition = partition; file_id = c.args.file_id.now } in
    let same = c.from_vec.ensures ∙ c.in_ok-content.ensures.bytes in
    subst IsOk (sym (rows_read c.args.self.now.own place c.requires.short_id true c.args.rows.now c.from_vec.result same c.requires.counted c.in_ok-content.ensures.known c.requires.own placed)) refl
