use Rattle.parquet_pages.proofs.FormLemmas.{bytes_fit}
use Rattle.base_laws.proofs.FileBack.{file_back}
use Rattle.base_laws.proofs.FileFound.{file_found}
use Rattle.base_laws.proofs.bases_are_read.Goals as goal

pub returns : goal.returns
returns c = record {
  found = λ columns reading partition bytes rows fits e. file_found columns reading partition bytes rows (bytes_fit bytes fits) e;
  again = file_back;
}
