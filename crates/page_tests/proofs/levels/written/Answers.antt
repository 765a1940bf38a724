use Rattle.std.proofs.Common.{[], ◌∷◌, true, false, arith}
use Rattle.parquet_pages.proofs.SizeLemmas.{levels_short}
use Rattle.page_tests.proofs.levels.written.Goals as goal

pub levels_write-requires : goal.levels_write-requires
levels_write-requires c = omega (arith, levels_short (true ∷ true ∷ false ∷ true ∷ []))
