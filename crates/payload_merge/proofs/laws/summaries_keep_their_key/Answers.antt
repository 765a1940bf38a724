use Rattle.payload_merge.proofs.Summaries.{IsOfKey-one, IsOfKey-onto, pairs_of_key}
use Rattle.payload_merge.proofs.laws.summaries_keep_their_key.Goals as goal

pub returns : goal.returns
returns c = record { one = IsOfKey-one; pairs = pairs_of_key; onto = IsOfKey-onto }
