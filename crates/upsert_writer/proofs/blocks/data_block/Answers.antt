use Rattle.std.proofs.Common.{◌≡◌, ◌∙◌, ℕ, List, Result, Ok, length, refl, ap, arith}
use Rattle.std.proofs.lemmas.List.Elements.{All-same}
use Rattle.payload_merge.specs.declared.row.Row.{Row}
use Rattle.table_jobs.specs.Places.{place_in}
use Rattle.upsert_writer.specs.TargetWrites.{rows_among}
use Rattle.upsert_writer.proofs.KindBlocks.{puts_read, rows_at, rows_few, rows_own}
use Rattle.upsert_writer.proofs.blocks.data_block.Goals as goal

pub data_content-requires-clause-own : goal.data_content-requires-clause-own
data_content-requires-clause-own g c =
    let Own : Row → Type 0 = g.K.RowCodec.own_row c.args.codec.now in
    let rows : c.deref.result.now ≡ rows_among c.args.own = c.deref.ensures.value ∙ c.in_ok-rows.ensures in
    All-same Own c.deref.result.now (rows_among c.args.own) rows (rows_own Own c.args.t c.args.group.now.partition c.args.own c.requires.puts)

pub data_content-requires-clause-placed : goal.data_content-requires-clause-placed
data_content-requires-clause-placed g c =
    let Own : Row → Type 0 = g.K.RowCodec.own_row c.args.codec.now in
    let Lies : Row → Type 0 = λ row. (row.commit ≡ c.args.t) × (row.partition ≡ c.args.group.now.partition) in
    let rows : c.deref.result.now ≡ rows_among c.args.own = c.deref.ensures.value ∙ c.in_ok-rows.ensures in
    All-same Lies c.deref.result.now (rows_among c.args.own) rows (rows_at Own c.args.t c.args.group.now.partition c.args.own c.requires.puts)

pub data_content-requires-clause-counted : goal.data_content-requires-clause-counted
data_content-requires-clause-counted g c =
    let rows : c.deref.result.now ≡ rows_among c.args.own = c.deref.ensures.value ∙ c.in_ok-rows.ensures in
    omega (arith, ap length rows, rows_few c.args.own, c.requires.counted)

pub returns-clause-holds : goal.returns-clause-holds
returns-clause-holds g c =
    let Own : Row → Type 0 = g.K.RowCodec.own_row c.args.codec.now in
    let rows : c.deref.result.now ≡ rows_among c.args.own = c.deref.ensures.value ∙ c.in_ok-rows.ensures in
    let found : Result (List Row) ℕ = g.K.RowCodec.block_rows c.args.codec.now (place_in (g.K.TableCodec.table_name c.args.codec.now) c.args.t c.args.group.now) c.in_ok-data_content.field-0 in (
      refl,
      c.in_ok-copy.ensures ∙ c.schema_text.ensures.text,
      puts_read Own c.args.t c.args.group.now.partition c.args.own found c.requires.puts (c.in_ok-data_content.ensures ∙ ap Ok rows),
    )
