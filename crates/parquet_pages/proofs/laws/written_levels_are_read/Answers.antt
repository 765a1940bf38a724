use Rattle.parquet_pages.proofs.AgainLemmas.{levels_again}
use Rattle.parquet_pages.proofs.laws.written_levels_are_read.Goals as goal

pub returns : goal.returns
returns c = levels_again
