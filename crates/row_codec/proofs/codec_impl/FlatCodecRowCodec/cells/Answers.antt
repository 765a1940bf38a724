use Rattle.row_columns.specs.Base.{columns_of}
use Rattle.row_columns.proofs.BaseLemmas.{base_again, base_good, of_columns}
use Rattle.row_codec.proofs.codec_impl.FlatCodecRowCodec.cells.Goals as goal

pub returns-clause-of_the_columns : goal.returns-clause-of_the_columns
returns-clause-of_the_columns c =
    let layout = c.args.self.now.records.own in
    of_columns (columns_of layout) c.in_ok-base_cells.field-0 (base_good layout c.args.row.now c.args.file_id.now c.in_ok-base_cells.field-0 c.in_ok-base_cells.ensures c.requires.short_id)

pub returns-clause-reads_back : goal.returns-clause-reads_back
returns-clause-reads_back c = base_again c.args.self.now.records.own c.args.row.now c.args.file_id.now c.in_ok-base_cells.field-0 c.in_ok-base_cells.ensures c.requires.short_id
