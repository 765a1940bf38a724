use Rattle.parquet_meta.proofs.HeaderLemmas.{page_header_again}
use Rattle.parquet_meta.proofs.laws.written_headers_are_read.Goals as goal

pub returns : goal.returns
returns c = page_header_again
