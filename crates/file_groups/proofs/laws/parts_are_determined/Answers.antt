use Rattle.file_groups.proofs.OneAnswer.{views_determined, chains_determined}
use Rattle.file_groups.proofs.Newest.{newest_is}
use Rattle.file_groups.proofs.laws.parts_are_determined.Goals as goal

pub returns : goal.returns
returns c = record { views = views_determined; chains = chains_determined; newest = newest_is }
