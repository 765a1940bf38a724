use Rattle.row_codec.proofs.NewRows.{answered}
use Rattle.row_codec.proofs.table_impl.FlatCodecTableCodec.new_row.Goals as goal

pub returns : goal.returns
returns c = answered c.args.self.now.records.own c.args.value.now c.row_of.result c.row_of.ensures
