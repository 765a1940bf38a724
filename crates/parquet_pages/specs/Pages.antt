-- Data pages without compression: "Data Pages" of the Parquet format. A page is a header and a body; a body is levels, if
-- the column is optional, and values.
use Rattle.std.specs.Prelude.{◌≡◌, ◌<◌, ◌^◌, ℕ, ◌+◌, ◌-◌, ℤ, pos, Bool, true, false, not, nat_le, ◌&&◌, if◌then◌else◌, List, [], ◌∷◌, ◌++◌, length, take, map, replicate, Option, Some, None, option_and_then, Result, Ok, Err, FitsSigned, IsUtf8}
use Rattle.std.specs.List.{list_all}
use Rattle.std.specs.Int.{w32, w64}
use Rattle.std.specs.Ordering.{int_eq}
use Rattle.byte_fields.specs.Reading.{Reading, ◌>>=◌}
use Rattle.byte_fields.specs.Prefixed.{nonnegative}
use Rattle.column_cells.specs.Cells.{is_cell, is_number}
use Rattle.hudi_base.specs.declared.column.Column.{Column}
use Rattle.hudi_base.specs.declared.value.Value.{Value}
use Rattle.hudi_base.specs.declared.value.Value.TheVariants as value
use Rattle.parquet_meta.specs.declared.page_header.PageHeader.{PageHeader}
use Rattle.parquet_meta.specs.PageHeaders.{page_header_at}
use Rattle.parquet_meta.specs.Written.{page_header_bytes}
use Rattle.parquet_pages.specs.declared.page_error.PageError.{PageError}
use Rattle.parquet_pages.specs.declared.page_error.PageError.TheVariants.{BadPage, Encoding}
use Rattle.parquet_pages.specs.Levels.{levels_bytes, levels_at}
use Rattle.parquet_pages.specs.Plain.{values_bytes, values_at}

-- ---- written

-- whether the cell isn't null
abbrev pub has_value : Value → Bool
has_value value.Null = false
has_value _ = true

abbrev pub body_bytes : Column → List Value → List ℕ
body_bytes column cells =
    (if column.optional then levels_bytes (map has_value cells) else []) ++ values_bytes column cells

-- a header of so many cells in so many bytes: a data page (0), PLAIN values (0), RLE levels (3)
abbrev pub header_of : ℕ → ℕ → PageHeader
header_of size count = record {
  kind = pos 0;
  uncompressed = pos size;
  compressed = pos size;
  values = pos count;
  encoding = pos 0;
  def_encoding = pos 3;
  rep_encoding = pos 3;
}

abbrev pub page_bytes : Column → List Value → List ℕ
page_bytes column cells =
    page_header_bytes (header_of (length (body_bytes column cells)) (length cells)) ++ body_bytes column cells

-- In a law the numbers of cells have to be said to be of their types, and texts to be UTF-8, as the types of the code say.
abbrev pub IsTyped : Value → Type 0
IsTyped (value.Int n) = FitsSigned w32 n
IsTyped (value.Long n) = FitsSigned w64 n
IsTyped (value.Text text) = IsUtf8 text
IsTyped _ = Unit {0}

-- what can be written: cells of the column, in a page of fewer than 2^31 bytes, whose header counts them
pub record FitsPage (column : Column) (cells : List Value) : Type 0 where
  pub each : list_all (is_cell column) cells ≡ true
  pub count : length cells < 2 ^ 31
  pub size : length (page_bytes column cells) < 2 ^ 31

-- ---- read

-- the cells of a body, with what is behind them
unfoldable pub body_at : Column → ℕ → List ℕ → Reading (List Value)
body_at column count bytes =
    if column.optional then (levels_at count bytes >>= λ levels. values_at column levels.0 levels.1)
    else values_at column (replicate count true) bytes

-- what was read, if nothing is left
abbrev pub whole : {A : Type 0} → Reading A → Option A
whole (Ok (x, [])) = Some x
whole (Ok (x, byte ∷ bytes)) = None
whole (Err error) = None

-- The size of a page's body: a data page's both sizes, which are equal, unless it passes the end.
abbrev pub body_size : PageHeader → ℕ → Option ℕ
body_size h available =
    if is_number 0 h.kind && int_eq h.uncompressed h.compressed then option_and_then
    (λ size. if nat_le size available then Some size else None) (nonnegative h.compressed)
    else None

-- the cells behind a header, and how many bytes the body takes
unfoldable pub page_cells : Column → PageHeader → List ℕ → Option (List Value × ℕ)
page_cells column h bytes =
    option_and_then (λ size. option_and_then (λ count. option_and_then (λ cells. Some (cells, size))
    (whole (body_at column count (take size bytes)))) (nonnegative h.values)) (body_size h (length bytes))

-- the encoding that isn't known: of the values first, then of the levels
abbrev pub strange_encoding : Column → PageHeader → Option ℤ
strange_encoding column h =
    if not (is_number 0 h.encoding) then Some h.encoding else
    if column.optional && not (is_number 3 h.def_encoding) then Some h.def_encoding else None

-- the cells behind a header of so many bytes, and how many bytes the page takes
abbrev pub cells_or : ℕ → Option (List Value × ℕ) → Result (List Value × ℕ) PageError
cells_or header (Some found) = Ok (found.0, header + found.1)
cells_or header None = Err (BadPage header)

abbrev pub behind_header : Column → ℕ → PageHeader → List ℕ → Option ℤ → Result (List Value × ℕ) PageError
behind_header column header h bytes (Some encoding) = Err (Encoding encoding)
behind_header column header h bytes None = cells_or header (page_cells column h bytes)

abbrev pub page_behind : Column → ℕ → Reading PageHeader → Result (List Value × ℕ) PageError
page_behind column total (Err error) = Err (BadPage 0)
page_behind column total (Ok found) =
    behind_header column (total - length found.1) found.0 found.1 (strange_encoding column found.0)

-- the cells of the page at the beginning of the bytes, and how many bytes it takes
abbrev pub page_at : Column → List ℕ → Result (List Value × ℕ) PageError
page_at column bytes = page_behind column (length bytes) (page_header_at bytes)
