use Rattle.std.proofs.Common.{◌∙◌, sym}
use Rattle.table_query.proofs.TimeSets.{has-among, inserted-among}
use Rattle.table_query.proofs.times.insert_time.Goals as goal

pub returns : goal.returns
returns c = λ other.
    sym (has-among c.insert.new.self.keys other)
    ∙ c.in_ok-insert.ensures.updates.0 other
    ∙ inserted-among c.args.times.now.keys c.args.t other
