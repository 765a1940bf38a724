use Rattle.std.proofs.lemmas.Str.{IsUtf8-from_is_utf8}
use Rattle.row_codec.proofs.table_impl.FlatCodecTableCodec.schema_text.Goals as goal

pub returns-clause-utf8 : goal.returns-clause-utf8
returns-clause-utf8 c = IsUtf8-from_is_utf8 c.args.self.now.text c.args.self.now.utf8
