use Rattle.parquet_pages.proofs.FormLemmas.{bytes_fit, levels_took, levels_back}
use Rattle.parquet_pages.proofs.laws.levels_are_runs.Goals as goal

pub returns : goal.returns
returns c = record { found = λ count bytes rest levels fits e. levels_took count bytes rest levels (bytes_fit bytes fits) e; again = levels_back }
