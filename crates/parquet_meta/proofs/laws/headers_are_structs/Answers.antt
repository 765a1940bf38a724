use Rattle.parquet_meta.proofs.GrammarLemmas.{page_header_known}
use Rattle.parquet_meta.proofs.laws.headers_are_structs.Goals as goal

pub returns : goal.returns
returns c = record {
  found = λ h bytes rest e. page_header_known.takes.took bytes rest h e;
  again = λ h header rest is. page_header_known.takes.again header rest h is;
}
