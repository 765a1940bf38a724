-- When a footer tells of a file of certain columns: its schema has just these as leaves of the root, and each row group has
-- a chunk of each, of as many values as the group has rows. Versions, sizes, encodings and `file_offset` aren't looked at.
use Rattle.std.specs.Prelude.{ℕ, ℤ, pos, Bool, true, false, ◌&&◌, if◌then◌else◌, List, [], ◌∷◌, length, Option, is_some, Result, Ok, Err, sum_by}
use Rattle.std.specs.List.{list_all}
use Rattle.std.specs.Option.{option_map_or}
use Rattle.std.specs.Ordering.{int_eq}
use Rattle.std.specs.Str.{bytes_eq}
use Rattle.byte_fields.specs.Prefixed.{nonnegative}
use Rattle.hudi_base.specs.declared.column.Column.{Column}
use Rattle.parquet_meta.specs.declared.element.Element.{Element}
use Rattle.parquet_meta.specs.declared.chunk.Chunk.{Chunk}
use Rattle.parquet_meta.specs.declared.row_group.RowGroup.{RowGroup}
use Rattle.parquet_meta.specs.declared.file_meta.FileMeta.{FileMeta}
use Rattle.base_cells.specs.declared.base_error.BaseError.{BaseError}
use Rattle.base_cells.specs.declared.base_error.BaseError.TheVariants.{BadBase}
use Rattle.base_cells.specs.declared.base_error.BaseCause.TheVariants as cause
use Rattle.base_cells.specs.Binding.{◌>>=◌}
use Rattle.base_cells.specs.Ends.{footer_start, plain_meta_at}

-- the number is there, and it is this one
abbrev pub is_told : ℤ → Option ℤ → Bool
is_told known told = option_map_or (int_eq known) told false

-- the number that `repetition_type` has: 0 required, 1 optional
abbrev pub repetition_of : Column → ℤ
repetition_of column = if column.optional then pos 1 else pos 0

-- the leaf is the column
abbrev pub is_leaf_of : Column → Element → Bool
is_leaf_of column element =
    is_told column.physical element.physical && is_told (repetition_of column) element.repetition
    && bytes_eq element.name column.name

abbrev pub are_leaves : List Column → List Element → Bool
are_leaves [] [] = true
are_leaves [] (element ∷ elements) = false
are_leaves (column ∷ columns) [] = false
are_leaves (column ∷ columns) (element ∷ elements) = is_leaf_of column element && are_leaves columns elements

-- a root with just these columns as its leaves
abbrev pub is_schema : List Column → List Element → Bool
is_schema columns [] = false
is_schema columns (root ∷ elements) =
    is_told (pos (length columns)) root.children && are_leaves columns elements

-- the path of a leaf of the root is its name alone
abbrev pub is_path : List ℕ → List (List ℕ) → Bool
is_path name [] = false
is_path name (first ∷ []) = bytes_eq first name
is_path name (first ∷ second ∷ more) = false

-- a chunk of the column, of so many values
abbrev pub is_chunk_of : ℤ → Column → Chunk → Bool
is_chunk_of rows column chunk =
    int_eq chunk.physical column.physical && is_path column.name chunk.path && int_eq chunk.num_values rows

abbrev pub are_chunks : ℤ → List Column → List Chunk → Bool
are_chunks rows [] [] = true
are_chunks rows [] (chunk ∷ chunks) = false
are_chunks rows (column ∷ columns) [] = false
are_chunks rows (column ∷ columns) (chunk ∷ chunks) =
    is_chunk_of rows column chunk && are_chunks rows columns chunks

-- the number, or 0 where it is negative
abbrev pub number_or_0 : ℤ → ℕ
number_or_0 n = option_map_or (λ n. n) (nonnegative n) 0

-- a row group of these columns
abbrev pub is_group_of : List Column → RowGroup → Bool
is_group_of columns group =
    is_some (nonnegative group.num_rows) && are_chunks group.num_rows columns group.columns

-- how many rows a row group has
abbrev pub rows_of : RowGroup → ℕ
rows_of group = number_or_0 group.num_rows

-- a file of these columns, whose row groups have all its rows
abbrev pub is_meta_of : List Column → FileMeta → Bool
is_meta_of columns meta =
    is_schema columns meta.schema && list_all (is_group_of columns) meta.groups
    && int_eq meta.num_rows (pos (sum_by rows_of meta.groups))

-- the footer of a file of these columns
unfoldable pub meta_at : List Column → List ℕ → Result FileMeta BaseError
meta_at columns bytes =
    plain_meta_at bytes >>= λ meta.
    if is_meta_of columns meta then Ok meta else Err (BadBase cause.Columns (footer_start bytes))
