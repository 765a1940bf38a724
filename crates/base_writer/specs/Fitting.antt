-- What a file of cells is written of. This project's own.
use Rattle.std.specs.Prelude.{◌≤◌, ◌<◌, ◌^◌, ℕ, pos, List, [], ◌∷◌, ◌++◌, length, map}
use Rattle.std.specs.List.{AllByRecursion}
use Rattle.hudi_base.specs.declared.column.Column.{Column}
use Rattle.hudi_base.specs.declared.value.Value.{Value}
use Rattle.column_cells.specs.Cells.{AreCellsOf}
use Rattle.parquet_pages.specs.Pages.{FitsPage}
use Rattle.byteorder.specs.Endian.{little_bytes}
use Rattle.parquet_meta.specs.declared.element.Element.{Element}
use Rattle.parquet_meta.specs.declared.row_group.RowGroup.{RowGroup}
use Rattle.parquet_meta.specs.declared.file_meta.FileMeta.{FileMeta}
use Rattle.parquet_meta.specs.Written.{FitsFileMeta, file_meta_bytes}
use Rattle.base_cells.specs.Ends.{magic}
use Rattle.base_cells.specs.Written.{group_len, leaf_of, root_of}

-- the rows of one row group: each has a cell for each column, and there are no more than a row group may have
pub record AreGroupOf (columns : List Column) (rows : List (List Value)) : Type 0 where
  pub each : AllByRecursion (AreCellsOf columns) rows
  pub few : length rows ≤ group_len

-- each column's cells fit a page; for private clauses
abbrev pub FitColumns : List Column → List (List Value) → Type 0
FitColumns [] cells = Unit {0}
FitColumns (column ∷ columns) [] = Unit {0}
FitColumns (column ∷ columns) (cells ∷ more) = FitsPage column cells × FitColumns columns more

-- ---- the end of a file

-- a root of so many leaves, and columns as leaves
abbrev pub schema_with : ℕ → List Column → List Element
schema_with count columns = root_of count ∷ map leaf_of columns

-- the footer of a file of so many rows, in these row groups
abbrev pub meta_with : List Column → ℕ → List RowGroup → FileMeta
meta_with columns rows groups = record {
  version = pos 1;
  schema = schema_with (length columns) columns;
  num_rows = pos rows;
  groups = groups;
}

-- the footer has a written form, whose length four bytes can tell
pub record HasForm (meta : FileMeta) : Type 0 where
  pub fits : FitsFileMeta meta
  pub short : length (file_meta_bytes meta) < 2 ^ 32

-- what stands behind the pages: the footer, its length and the last four bytes
abbrev pub end_bytes : List Column → ℕ → List RowGroup → List ℕ
end_bytes columns rows groups =
    file_meta_bytes (meta_with columns rows groups)
    ++ little_bytes 4 (length (file_meta_bytes (meta_with columns rows groups))) ++ magic
