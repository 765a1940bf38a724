use Rattle.parquet_pages.proofs.SizeLemmas.{levels_short, pages_short}
use Rattle.parquet_pages.proofs.laws.written_sizes.Goals as goal

pub returns : goal.returns
returns c = record { levels = levels_short; pages = pages_short }
