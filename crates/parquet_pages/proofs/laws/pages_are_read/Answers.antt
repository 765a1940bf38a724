use Rattle.parquet_pages.proofs.FormLemmas.{bytes_fit}
use Rattle.parquet_pages.proofs.PageFormLemmas.{page_back}
use Rattle.parquet_pages.proofs.PageTookLemmas.{page_took}
use Rattle.parquet_pages.proofs.laws.pages_are_read.Goals as goal

pub returns : goal.returns
returns c = record { found = λ column bytes cells n fits e. page_took column bytes cells n (bytes_fit bytes fits) e; again = page_back }
