use Rattle.std.proofs.Common.{◌∙◌}
use Rattle.key_index.proofs.GroupOrder.{has-among}
use Rattle.key_index.proofs.group_lists.is_among.Goals as goal

pub returns : goal.returns
returns c = c.contains.ensures ∙ has-among c.args.groups.now.keys c.args.group.now
