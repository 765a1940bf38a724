use Rattle.row_values.proofs.ToldLemmas.{told_places}
use Rattle.script_run.proofs.solo.codec_of.Goals as goal

pub new-requires : goal.new-requires
new-requires c = told_places c.args.props.now c.requires

pub returns-in-Ok : goal.returns-in-Ok
returns-in-Ok c = c.in-Ok.ensures.table
