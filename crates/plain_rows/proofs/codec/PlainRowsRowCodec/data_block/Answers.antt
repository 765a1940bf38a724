use Rattle.std.proofs.Common.{◌≡◌, List, ℕ, Ok, ◌∙◌, subst, sym, refl}
use Rattle.std.specs.Prelude.{Result, IsOk}
use Rattle.payload_merge.specs.Contents.{DataPlace}
use Rattle.payload_merge.specs.declared.row.Row.{Row}
use Rattle.plain_rows.specs.Contents.{rows_in}
use Rattle.plain_rows.proofs.ReadBack.{content_again}
use Rattle.plain_rows.proofs.codec.PlainRowsRowCodec.data_block.Goals as goal

pub returns-clause-reads_back : goal.returns-clause-reads_back
returns-clause-reads_back c partition placed =
    let place : DataPlace = record { instant = c.args._t; partition = partition; file_id = c.args._file_id.now } in
    content_again place c.args.rows.now c.from_vec.result (c.from_vec.ensures ∙ c.in_ok-content.ensures.bytes) c.requires.counted c.requires.own c.in_ok-content.ensures.range placed

pub returns-clause-can_be_lent : goal.returns-clause-can_be_lent
returns-clause-can_be_lent c partition placed =
    let place : DataPlace = record { instant = c.args._t; partition = partition; file_id = c.args._file_id.now } in
    let read : rows_in place c.from_vec.result ≡ Ok c.args.rows.now =
    content_again place c.args.rows.now c.from_vec.result (c.from_vec.ensures ∙ c.in_ok-content.ensures.bytes) c.requires.counted c.requires.own c.in_ok-content.ensures.range placed in
    subst (λ (r : Result (List Row) ℕ). IsOk r) (sym read) refl
