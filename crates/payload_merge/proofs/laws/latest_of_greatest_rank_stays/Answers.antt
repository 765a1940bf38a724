use Rattle.payload_merge.proofs.PayloadRule.{latest_of_greatest_rank_stays}
use Rattle.payload_merge.proofs.laws.latest_of_greatest_rank_stays.Goals as goal

pub returns : goal.returns
returns c = latest_of_greatest_rank_stays
