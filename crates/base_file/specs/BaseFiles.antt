-- Which rows a base file has: those for which the cells of its rows stand, where no key comes twice. What cells mean is a
-- codec's matter, so the definitions are handed its columns and its reading of cells.
use Rattle.std.specs.Prelude.{ℕ, Bool, true, not, ◌&&◌, if◌then◌else◌, List, [], ◌∷◌, ◌++◌, map, Option, Some, None, Result, Ok, Err}
use Rattle.std.specs.Result.{result_ok}
use Rattle.std.specs.Option.{option_and_then, option_map}
use Rattle.std.specs.List.{list_any}
use Rattle.std.specs.Str.{bytes_eq}
use Rattle.hudi_base.specs.declared.column.Column.{Column}
use Rattle.hudi_base.specs.declared.value.Value.{Value}
use Rattle.payload_merge.specs.declared.row.Row.{Row}
use Rattle.payload_merge.specs.Contents.{BaseReading, CellsReading}
use Rattle.base_cells.specs.declared.base_error.BaseError.{BaseError}
use Rattle.base_cells.specs.declared.base_error.BaseError.TheVariants.{BadBase}
use Rattle.base_cells.specs.declared.base_error.BaseCause.TheVariants as cause
use Rattle.base_cells.specs.Binding.{◌>>=◌}
use Rattle.base_cells.specs.Ends.{footer_start}
use Rattle.base_cells.specs.Columns.{meta_at}
use Rattle.base_cells.specs.Cells.{groups_at}

-- ---- rows of a partition

-- rows behind others, where all of them are there
abbrev pub rows_behind : List Row → Option (List Row) → Option (List Row)
rows_behind before found = option_map (λ rows. before ++ rows) found

-- the rows for which rows of cells stand, unless one of these stands for none
unfoldable pub rows_of_cells : CellsReading → List ℕ → List (List Value) → Option (List Row)
rows_of_cells reading partition [] = Some []
rows_of_cells reading partition (cells ∷ more) =
    option_and_then (λ row. rows_behind (row ∷ []) (rows_of_cells reading partition more)) (result_ok (reading partition cells))

-- whether the key is among these
abbrev pub is_among : List (List ℕ) → List ℕ → Bool
is_among keys key = list_any (λ other. bytes_eq other key) keys

-- none of the keys is one of those before it
unfoldable pub keys_differ : List (List ℕ) → List (List ℕ) → Bool
keys_differ before [] = true
keys_differ before (key ∷ keys) = not (is_among before key) && keys_differ (before ++ key ∷ []) keys

-- the record key of a row
abbrev pub row_key : Row → List ℕ
row_key row = row.key

-- the rows of a file, if each is one and no key comes twice
abbrev pub rows_or : ℕ → Option (List Row) → Result (List Row) BaseError
rows_or place None = Err (BadBase cause.Row place)
rows_or place (Some rows) = if keys_differ [] (map row_key rows) then Ok rows else Err (BadBase cause.Row place)

-- ---- base files

-- The rows of a base file of a partition, or why the bytes are none and where.
unfoldable pub base_at : List Column → CellsReading → List ℕ → List ℕ → Result (List Row) BaseError
base_at columns reading partition bytes =
    meta_at columns bytes >>= λ meta.
    groups_at columns bytes meta.groups >>= λ cells.
    rows_or (footer_start bytes) (rows_of_cells reading partition cells)

-- the rows of a base file, or none where the bytes are no base file
abbrev pub base_reading : List Column → CellsReading → BaseReading
base_reading columns reading partition bytes = result_ok (base_at columns reading partition bytes)
