use Rattle.std.proofs.Common.{◌∙◌, ap, length, Bool, List, arith}
use Rattle.parquet_pages.specs.Levels.{levels_body}
use Rattle.parquet_pages.specs.Parts.{Parts}
use Rattle.parquet_pages.proofs.PartsLemmas.{level_part}
use Rattle.parquet_pages.proofs.page_cells.PageCells.level_bytes.Goals as goal

pub put_levels-requires : goal.put_levels-requires
put_levels-requires c =
    let le = level_part c.args.column.now c.args.self.now c.if-column.true in
    omega (arith, le, c.requires, ap (λ (levels : List Bool). length (levels_body levels)) (c.deref.ensures.value ∙ ap (λ (parts : Parts). parts.levels) c.self.view_is))
