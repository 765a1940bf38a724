use Rattle.std.proofs.Common.{◌∙◌, sym}
use Rattle.key_index.proofs.GroupOrder.{has-among, inserted-among}
use Rattle.key_index.proofs.group_lists.insert_copy.Goals as goal

pub returns : goal.returns
returns c = λ other.
    sym (has-among c.insert.new.self.keys other)
    ∙ c.in_ok-insert.ensures.updates.0 other
    ∙ inserted-among c.args.set.now.keys c.in_ok-copied.copied c.args.group.now other c.in_ok-copied.ensures
