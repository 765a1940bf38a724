-- Which bytes are a base file of which rows, apart from how they are read: two ends, a footer of the codec's columns, pages
-- of cells, and rows for which the cells stand.
use Rattle.std.specs.Prelude.{◌≡◌, ◌<◌, ◌^◌, ℕ, pos, true, List, [], ◌∷◌, ◌++◌, length, drop, map, None, Ok}
use Rattle.std.specs.List.{AllZip, flat_map}
use Rattle.hudi_base.specs.declared.column.Column.{Column}
use Rattle.hudi_base.specs.declared.value.Value.{Value}
use Rattle.parquet_meta.specs.declared.chunk.Chunk.{Chunk}
use Rattle.parquet_meta.specs.declared.row_group.RowGroup.{RowGroup}
use Rattle.parquet_meta.specs.declared.file_meta.FileMeta.{FileMeta}
use Rattle.parquet_meta.specs.Footers.{first_unsupported}
use Rattle.parquet_meta.specs.Structs.{IsFooter}
use Rattle.parquet_pages.specs.Forms.{IsPage}
use Rattle.payload_merge.specs.Contents.{CellsReading}
use Rattle.payload_merge.specs.declared.row.Row.{Row}
use Rattle.base_cells.specs.Columns.{is_meta_of, rows_of}
use Rattle.base_cells.specs.Turned.{turned}
use Rattle.base_cells.specs.Written.{with_ends}
use Rattle.base_file.specs.BaseFiles.{keys_differ, row_key}

-- ---- pages and chunks

-- the bytes begin with pages of these cells of a column, one page after another
abbrev pub ArePages : Column → List (List Value) → List ℕ → Type 0
ArePages column [] bytes = Unit {0}
ArePages column (cells ∷ more) bytes =
    (page rest : List ℕ) × (bytes ≡ page ++ rest) × IsPage column cells page × ArePages column more rest

-- the cells of all pages
abbrev pub all_cells : List (List Value) → List Value
all_cells pages = flat_map (λ cells. cells) pages

-- a chunk of a file: as many cells as it counts, in pages from its first one on, none of them compressed
pub record IsChunk (column : Column) (bytes : List ℕ) (chunk : Chunk) (cells : List Value) : Type 0 where
  pub plain : chunk.codec ≡ pos 0
  pub count : chunk.num_values ≡ pos (length cells)
  pub offset : ℕ
  pub told : chunk.data_offset ≡ pos offset
  pub within : offset < length bytes
  pub pages : List (List Value)
  pub are_pages : ArePages column pages (drop offset bytes)
  pub all : all_cells pages ≡ cells

-- one chunk a column
abbrev pub AreChunks : List ℕ → List Column → List Chunk → List (List Value) → Type 0
AreChunks bytes [] [] [] = Unit {0}
AreChunks bytes (column ∷ columns) (chunk ∷ chunks) (cells ∷ lists) =
    IsChunk column bytes chunk cells × AreChunks bytes columns chunks lists
AreChunks bytes _ _ _ = ⊥

-- ---- row groups

-- the rows of a row group: the first has the first cell of each column
pub record IsRowGroup (columns : List Column) (bytes : List ℕ) (group : RowGroup) (rows : List (List Value)) : Type 0 where
  pub lists : List (List Value)
  pub chunks : AreChunks bytes columns group.columns lists
  pub rows_are : rows ≡ turned (rows_of group) lists

-- the rows of all of them
abbrev pub AreRowGroups : List Column → List ℕ → List RowGroup → List (List Value) → Type 0
AreRowGroups columns bytes [] rows = rows ≡ []
AreRowGroups columns bytes (group ∷ groups) rows =
    (first later : List (List Value)) × (rows ≡ first ++ later) × IsRowGroup columns bytes group first
    × AreRowGroups columns bytes groups later

-- ---- the file

-- the cells stand for the row
abbrev pub StandFor : CellsReading → List ℕ → List Value → Row → Type 0
StandFor reading partition cells row = reading partition cells ≡ Ok row

-- A base file of these rows of a partition, no two of which have one key.
pub record IsBaseFile (columns : List Column) (reading : CellsReading) (partition bytes : List ℕ) (rows : List Row)
    : Type 0 where
  pub pages : List ℕ
  pub footer : List ℕ
  pub ends : bytes ≡ with_ends pages footer
  pub short : length footer < 2 ^ 32
  pub meta : FileMeta
  pub is_footer : IsFooter meta footer
  pub supported : first_unsupported meta.schema ≡ None
  pub of_the_columns : is_meta_of columns meta ≡ true
  pub cells : List (List Value)
  pub groups : AreRowGroups columns bytes meta.groups cells
  pub stand : AllZip (StandFor reading partition) cells rows
  pub differ : keys_differ [] (map row_key rows) ≡ true
