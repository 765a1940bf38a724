use Rattle.parquet_meta.proofs.GrammarLemmas.{footer_took, footer_back}
use Rattle.parquet_meta.proofs.laws.footers_are_structs.Goals as goal

pub returns : goal.returns
returns c = record { found = footer_took; again = footer_back }
