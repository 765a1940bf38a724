use Rattle.payload_merge.proofs.Summaries.{summary_of_one, summary_of_both}
use Rattle.payload_merge.proofs.laws.summaries_join.Goals as goal

pub returns : goal.returns
returns c = record { one = summary_of_one; both = summary_of_both }
