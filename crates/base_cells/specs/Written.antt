-- The one written form of a file of rows of cells: row groups of 10,000 rows except the last, one page for each column of a
-- group, and sizes that count the pages' headers.
use Rattle.std.specs.Prelude.{ℕ, zero, suc, ◌+◌, pos, false, codes, List, [], ◌∷◌, ◌++◌, length, take, drop, map, Some, None}
use Rattle.byteorder.specs.Endian.{little_bytes}
use Rattle.hudi_base.specs.declared.column.Column.{Column}
use Rattle.hudi_base.specs.declared.value.Value.{Value}
use Rattle.parquet_meta.specs.declared.element.Element.{Element}
use Rattle.parquet_meta.specs.declared.chunk.Chunk.{Chunk}
use Rattle.parquet_meta.specs.declared.row_group.RowGroup.{RowGroup}
use Rattle.parquet_meta.specs.declared.file_meta.FileMeta.{FileMeta}
use Rattle.parquet_meta.specs.Written.{file_meta_bytes}
use Rattle.parquet_pages.specs.Pages.{page_bytes}
use Rattle.base_cells.specs.Ends.{magic}
use Rattle.base_cells.specs.Columns.{repetition_of}
use Rattle.base_cells.specs.Turned.{turned}

-- ---- pages: for each group and each column one

-- the pages of columns of cells
abbrev pub pages_of : List Column → List (List Value) → List ℕ
pages_of [] cells = []
pages_of (column ∷ columns) [] = []
pages_of (column ∷ columns) (cells ∷ more) = page_bytes column cells ++ pages_of columns more

-- the pages of a row group
abbrev pub group_pages : List Column → List (List Value) → List ℕ
group_pages columns rows = pages_of columns (turned (length columns) rows)

-- the pages of row groups
abbrev pub groups_pages : List Column → List (List (List Value)) → List ℕ
groups_pages columns [] = []
groups_pages columns (rows ∷ groups) = group_pages columns rows ++ groups_pages columns groups

-- ---- what the footer says of them

-- a chunk of so many cells, whose one page begins at a place and has so many bytes
abbrev pub chunk_with : ℕ → Column → ℕ → ℕ → Chunk
chunk_with at column count size = record {
  file_offset = pos at;
  physical = column.physical;
  encodings = pos 0 ∷ pos 3 ∷ [];
  path = column.name ∷ [];
  codec = pos 0;
  num_values = pos count;
  uncompressed = pos size;
  compressed = pos size;
  data_offset = pos at;
}

-- the chunk of these cells, whose page begins at a place
abbrev pub chunk_of : ℕ → Column → List Value → Chunk
chunk_of at column cells = chunk_with at column (length cells) (length (page_bytes column cells))

abbrev pub chunks_of : ℕ → List Column → List (List Value) → List Chunk
chunks_of at [] cells = []
chunks_of at (column ∷ columns) [] = []
chunks_of at (column ∷ columns) (cells ∷ more) =
    chunk_of at column cells ∷ chunks_of (at + length (page_bytes column cells)) columns more

-- the row group whose pages begin at a place
abbrev pub group_of : ℕ → List Column → List (List Value) → RowGroup
group_of at columns rows = record {
  columns = chunks_of at columns (turned (length columns) rows);
  total_size = pos (length (group_pages columns rows));
  num_rows = pos (length rows);
}

abbrev pub groups_of : ℕ → List Column → List (List (List Value)) → List RowGroup
groups_of at columns [] = []
groups_of at columns (rows ∷ groups) =
    group_of at columns rows ∷ groups_of (at + length (group_pages columns rows)) columns groups

-- a column as a leaf, and the root of so many
abbrev pub leaf_of : Column → Element
leaf_of column = record {
  physical = Some column.physical;
  repetition = Some (repetition_of column);
  name = column.name;
  children = None;
  utf8 = column.utf8;
}

abbrev pub root_of : ℕ → Element
root_of count = record {
  physical = None;
  repetition = None;
  name = codes "schema";
  children = Some (pos count);
  utf8 = false;
}

-- ---- the file

-- how many rows a row group has, except the last
abbrev pub group_len : ℕ
group_len = 10000

-- Rows in groups. Each group has a row at least, so as many steps as there are rows are enough.
unfoldable pub grouped : ℕ → List (List Value) → List (List (List Value))
grouped zero rows = []
grouped (suc steps) [] = []
grouped (suc steps) (row ∷ rows) = take group_len (row ∷ rows) ∷ grouped steps (drop group_len (row ∷ rows))

abbrev pub groups_in : List (List Value) → List (List (List Value))
groups_in rows = grouped (length rows) rows

unfoldable pub meta_of : List Column → List (List Value) → FileMeta
meta_of columns rows = record {
  version = pos 1;
  schema = root_of (length columns) ∷ map leaf_of columns;
  num_rows = pos (length rows);
  groups = groups_of 4 columns (groups_in rows);
}

-- both ends with the footer
abbrev pub with_ends : List ℕ → List ℕ → List ℕ
with_ends pages footer = magic ++ pages ++ footer ++ little_bytes 4 (length footer) ++ magic

-- the file of rows of cells
unfoldable pub file_bytes : List Column → List (List Value) → List ℕ
file_bytes columns rows = with_ends (groups_pages columns (groups_in rows)) (file_meta_bytes (meta_of columns rows))
