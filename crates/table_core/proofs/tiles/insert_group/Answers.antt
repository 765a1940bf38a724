use Rattle.std.proofs.Common.{◌∙◌, sym}
use Rattle.hudi_base.specs.InstantTime.{first_time}
use Rattle.key_index.proofs.GroupOrder.{has-among, inserted-among}
use Rattle.table_core.proofs.TileLemmas.{is_record}
use Rattle.table_core.proofs.tiles.insert_group.Goals as goal

pub returns : goal.returns
returns c = λ other.
    sym (has-among c.insert.new.self.keys other)
    ∙ c.in_ok-insert.ensures.updates.0 other
    ∙ inserted-among c.args.groups.now.keys _ _ other
    (is_record c.in_ok-copy.field-0 c.args.partition.now c.args.range.lo c.args.range.hi first_time c.in_ok-copy.ensures)
