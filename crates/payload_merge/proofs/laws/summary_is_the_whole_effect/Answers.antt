use Rattle.payload_merge.proofs.Summaries.{whole_effect}
use Rattle.payload_merge.proofs.laws.summary_is_the_whole_effect.Goals as goal

pub returns : goal.returns
returns c = whole_effect
