use Rattle.parquet_pages.proofs.WholeAgainLemmas.{page_again}
use Rattle.parquet_pages.proofs.laws.written_pages_are_read.Goals as goal

pub returns : goal.returns
returns c = page_again
