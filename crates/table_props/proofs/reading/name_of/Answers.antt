use Rattle.table_props.proofs.NameLemmas.{IsUtf8-table_name}
use Rattle.table_props.proofs.reading.name_of.Goals as goal

pub from_slice-requires : goal.from_slice-requires
from_slice-requires c = IsUtf8-table_name c.args.name.now c.requires
