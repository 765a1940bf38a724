-- Rows and columns of cells.
use Rattle.std.specs.Prelude.{ℕ, List, map, slice_index_or}
use Rattle.std.specs.List.{range_with_len}
use Rattle.hudi_base.specs.declared.value.Value.{Value}
use Rattle.hudi_base.specs.declared.value.Value.TheVariants.{Null}

-- the cell at an index of each list
abbrev pub cells_at : List (List Value) → ℕ → List Value
cells_at lists i = map (λ cells. slice_index_or cells i Null) lists

-- Rows of columns that have n cells each, and columns of rows that have n cells each.
unfoldable pub turned : ℕ → List (List Value) → List (List Value)
turned n lists = map (cells_at lists) (range_with_len 0 n)
