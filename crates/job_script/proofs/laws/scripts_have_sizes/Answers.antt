use Rattle.job_script.proofs.SizeParts.{sized}
use Rattle.job_script.proofs.laws.scripts_have_sizes.Goals as goal

pub returns : goal.returns
returns c = sized
