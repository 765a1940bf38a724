use Rattle.base_file.proofs.KeyLemmas.{table_of_more}
use Rattle.base_file.proofs.key_set.add_key.Goals as goal

pub returns-in-Ok : goal.returns-in-Ok
returns-in-Ok c keys is = table_of_more keys c.args.key.now c.args.table.now c.insert.new.self _ is c.in-Ok.ensures.updates
