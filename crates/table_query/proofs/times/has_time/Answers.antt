use Rattle.std.proofs.Common.{◌∙◌}
use Rattle.table_query.proofs.TimeSets.{has-among}
use Rattle.table_query.proofs.times.has_time.Goals as goal

pub returns : goal.returns
returns c = c.contains.ensures ∙ has-among c.args.times.now.keys c.args.t
