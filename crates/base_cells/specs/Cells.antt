-- The cells of a file: pages follow each other from a chunk's first one until the chunk has all its values.
use Rattle.std.specs.Prelude.{ℕ, ℤ, zero, suc, ◌+◌, ◌-◌, pos, not, nat_lt, nat_le, if◌then◌else◌, List, [], ◌∷◌, length, drop, Option, Some, None, Result, Ok, Err}
use Rattle.std.specs.Ordering.{int_eq}
use Rattle.byte_fields.specs.Prefixed.{nonnegative}
use Rattle.hudi_base.specs.declared.column.Column.{Column}
use Rattle.hudi_base.specs.declared.value.Value.{Value}
use Rattle.parquet_meta.specs.declared.chunk.Chunk.{Chunk}
use Rattle.parquet_meta.specs.declared.row_group.RowGroup.{RowGroup}
use Rattle.parquet_pages.specs.declared.page_error.PageError.{PageError}
use Rattle.parquet_pages.specs.declared.page_error.PageError.TheVariants.{Memory, BadPage, Encoding}
use Rattle.parquet_pages.specs.Pages.{page_at}
use Rattle.base_cells.specs.declared.base_error.BaseError.{BaseError}
use Rattle.base_cells.specs.declared.base_error.BaseCause.{BaseCause}
use Rattle.base_cells.specs.declared.base_error.BaseError.TheVariants.{BadBase}
use Rattle.base_cells.specs.declared.base_error.BaseCause.TheVariants as cause
use Rattle.base_cells.specs.Binding.{◌>>=◌, behind}
use Rattle.base_cells.specs.Columns.{number_or_0, rows_of}
use Rattle.base_cells.specs.Turned.{turned}

-- the page that begins at this place, of at most so many cells
abbrev pub page_or : ℕ → ℕ → Result (List Value × ℕ) PageError → Result (List Value × ℕ) BaseError
page_or at left (Ok page) = if nat_le (length page.0) left then Ok page else Err (BadBase cause.Page at)
page_or at left (Err Memory) = Err (BadBase cause.Page at)
page_or at left (Err (BadPage offset)) = Err (BadBase cause.Page at)
page_or at left (Err (Encoding n)) = Err (BadBase (cause.Encoding n) at)

-- why a page of too many cells is refused, given its encoding that isn't known
abbrev pub cause_of_many : Option ℤ → BaseCause
cause_of_many (Some n) = cause.Encoding n
cause_of_many None = cause.Page

-- So many cells in pages from a place on. Each page takes a byte at least, so one step more than there are bytes is enough.
unfoldable pub pages_at : ℕ → Column → ℕ → ℕ → List ℕ → Result (List Value) BaseError
pages_at steps column zero at bytes = Ok []
pages_at zero column (suc left) at bytes = Err (BadBase cause.Page at)
pages_at (suc steps) column (suc left) at bytes =
    page_or at (suc left) (page_at column (drop at bytes)) >>= λ page.
    behind page.0 (pages_at steps column (suc left - length page.0) (at + page.1) bytes)

-- the cells of a chunk whose first page begins at a place of the file
abbrev pub cells_from : Column → List ℕ → ℕ → Option ℕ → Result (List Value) BaseError
cells_from column bytes count None = Err (BadBase cause.Page 0)
cells_from column bytes count (Some at) =
    if nat_lt at (length bytes) then pages_at (suc (length bytes)) column count at bytes
    else Err (BadBase cause.Page at)

-- the cells of a chunk, which isn't compressed
unfoldable pub chunk_at : Column → List ℕ → Chunk → Result (List Value) BaseError
chunk_at column bytes chunk =
    if not (int_eq chunk.codec (pos 0)) then Err (BadBase (cause.Compressed chunk.codec) (number_or_0 chunk.data_offset)) else
    cells_from column bytes (number_or_0 chunk.num_values) (nonnegative chunk.data_offset)

-- the cells of each column's chunk
unfoldable pub chunks_at : List ℕ → List Column → List Chunk → Result (List (List Value)) BaseError
chunks_at bytes [] chunks = Ok []
chunks_at bytes (column ∷ columns) [] = Ok []
chunks_at bytes (column ∷ columns) (chunk ∷ chunks) =
    chunk_at column bytes chunk >>= λ cells. behind (cells ∷ []) (chunks_at bytes columns chunks)

-- the rows of a row group, each with its cells
unfoldable pub group_at : List Column → List ℕ → RowGroup → Result (List (List Value)) BaseError
group_at columns bytes group =
    chunks_at bytes columns group.columns >>= λ cells. Ok (turned (rows_of group) cells)

-- the rows of row groups, one group after another
unfoldable pub groups_at : List Column → List ℕ → List RowGroup → Result (List (List Value)) BaseError
groups_at columns bytes [] = Ok []
groups_at columns bytes (group ∷ groups) =
    group_at columns bytes group >>= λ rows. behind rows (groups_at columns bytes groups)
