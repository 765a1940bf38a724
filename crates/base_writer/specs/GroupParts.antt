-- What is kept of the rows of a row group while they come one after another. This project's own.
use Rattle.std.specs.Prelude.{◌≡◌, ◌<◌, ◌^◌, ℕ, ◌+◌, List, [], ◌∷◌, ◌++◌, length}
use Rattle.hudi_base.specs.declared.column.Column.{Column}
use Rattle.hudi_base.specs.declared.value.Value.{Value}
use Rattle.parquet_meta.specs.declared.chunk.Chunk.{Chunk}
use Rattle.parquet_pages.specs.Parts.{Parts, parts_of, part_with, parts_body, parts_page}
use Rattle.base_cells.specs.Turned.{cells_at}
use Rattle.base_cells.specs.Written.{chunk_with}

-- the parts of the pages of rows, from the column at a place on
abbrev pub parts_from : ℕ → List Column → List (List Value) → List Parts
parts_from i [] rows = []
parts_from i (column ∷ columns) rows = parts_of column (cells_at rows i) ∷ parts_from (i + 1) columns rows

abbrev pub group_parts : List Column → List (List Value) → List Parts
group_parts columns rows = parts_from 0 columns rows

-- the parts are those of so many rows
pub record ArePagesOf (columns : List Column) (rows : List (List Value)) (count : ℕ) (parts : List Parts) : Type 0 where
  pub are : parts ≡ group_parts columns rows
  pub counted : count ≡ length rows

-- ---- for private clauses

-- the parts with the cells of one row more
abbrev pub parts_with : List Column → List Value → List Parts → List Parts
parts_with [] cells parts = parts
parts_with (column ∷ columns) [] parts = parts
parts_with (column ∷ columns) (cell ∷ cells) [] = []
parts_with (column ∷ columns) (cell ∷ cells) (first ∷ more) = part_with column cell first ∷ parts_with columns cells more

-- each column's page is short
abbrev pub FitParts : List Column → List Parts → Type 0
FitParts [] parts = Unit {0}
FitParts (column ∷ columns) [] = Unit {0}
FitParts (column ∷ columns) (first ∷ more) = (length (parts_body column first) < 2 ^ 31) × FitParts columns more

-- the pages of so many rows, and their chunks
abbrev pub parts_pages : List Column → ℕ → List Parts → List ℕ
parts_pages [] count parts = []
parts_pages (column ∷ columns) count [] = []
parts_pages (column ∷ columns) count (first ∷ more) = parts_page column count first ++ parts_pages columns count more

abbrev pub parts_chunks : ℕ → List Column → ℕ → List Parts → List Chunk
parts_chunks at [] count parts = []
parts_chunks at (column ∷ columns) count [] = []
parts_chunks at (column ∷ columns) count (first ∷ more) =
    chunk_with at column count (length (parts_page column count first))
    ∷ parts_chunks (at + length (parts_page column count first)) columns count more
