use Rattle.std.proofs.Common.{sym, ◌∙◌, ap}
use Rattle.std.specs.FinMap as table
use Rattle.payload_merge.proofs.RowsByKey.{len-table_of}
use Rattle.payload_merge.proofs.row_map.RowMap.len.Goals as goal

pub returns : goal.returns
returns c = c.len.ensures.len ∙ sym (len-table_of c.self.inside.by_key.entries c.len.ensures.ordered) ∙ ap table.len c.self.view_is
