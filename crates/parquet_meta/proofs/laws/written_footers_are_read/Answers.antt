use Rattle.parquet_meta.proofs.FooterLemmas.{footer_again}
use Rattle.parquet_meta.proofs.FitLemmas.{file_meta_fits}
use Rattle.parquet_meta.proofs.laws.written_footers_are_read.Goals as goal

pub returns : goal.returns
returns c = λ m fits typed. footer_again m (file_meta_fits m fits typed)
