-- Which bytes are definition levels and which are a page of which cells, apart from how they are read.
use Rattle.std.specs.Prelude.{◌≡◌, ◌≢◌, ◌≤◌, ◌<◌, ◌^◌, ◌⊎◌, ℕ, ◌+◌, ◌*◌, Bool, ◌==◌, List, [], ◌∷◌, ◌++◌, length, map, replicate, true, pos, MatchBool}
use Rattle.std.specs.List.{flat_map, list_all, AllByRecursion}
use Rattle.byteorder.specs.Endian.{little_bytes}
use Rattle.byte_fields.specs.Prefixed.{with_length}
use Rattle.thrift_compact.specs.Grammar.{IsSize}
use Rattle.column_cells.specs.Cells.{is_cell, is_number}
use Rattle.hudi_base.specs.declared.column.Column.{Column}
use Rattle.hudi_base.specs.declared.value.Value.{Value}
use Rattle.hudi_base.specs.declared.value.Value.TheVariants as value
use Rattle.parquet_meta.specs.declared.page_header.PageHeader.{PageHeader}
use Rattle.parquet_meta.specs.Structs.{AreItems, IsHeader}
use Rattle.parquet_pages.specs.Levels.{bits_of}
use Rattle.parquet_pages.specs.Plain.{value_bytes, bytes_for, truths_of}
use Rattle.parquet_pages.specs.Pages.{has_value, IsTyped}

-- a header that is twice a length, and a level that is repeated so often
abbrev pub IsRepeated : List Bool → List ℕ → Type 0
IsRepeated levels bytes =
    (n byte : ℕ) × (header : List ℕ) × (bytes ≡ header ++ byte ∷ []) × IsSize 64 (2 * n) header
    × (n ≢ 0) × (byte ≤ 1) × (levels ≡ replicate n (byte == 1))

-- a header that is one more than twice a number, and the bits of so many bytes
abbrev pub IsPacked : List Bool → List ℕ → Type 0
IsPacked levels bytes =
    (header content : List ℕ) × (bytes ≡ header ++ content) × IsSize 64 (2 * length content + 1) header
    × (levels ≡ bits_of content)

abbrev pub IsRun : List Bool → List ℕ → Type 0
IsRun levels bytes = IsRepeated levels bytes ⊎ IsPacked levels bytes

-- runs one after another, and the levels of all of them
abbrev pub AreRuns : List Bool → List ℕ → Type 0
AreRuns levels bytes = (runs : List (List Bool)) × AreItems IsRun runs bytes × (flat_map (λ run. run) runs ≡ levels)

-- These are the first levels of runs behind their length; those past them are ignored.
abbrev pub IsLevels : List Bool → List ℕ → Type 0
IsLevels levels bytes =
    (content : List ℕ) × (past : List Bool) × (bytes ≡ with_length (little_bytes 4) content)
    × (length content < 2 ^ 32) × AreRuns (levels ++ past) content

-- ---- pages

-- a byte array is shorter than 2^32 bytes
abbrev pub IsShortValue : Value → Type 0
IsShortValue (value.Bytes content) = length content < 2 ^ 32
IsShortValue (value.Text text) = length text < 2 ^ 32
IsShortValue _ = Unit {0}

-- cells of the column
pub record AreCells (column : Column) (cells : List Value) : Type 0 where
  pub each : list_all (is_cell column) cells ≡ true
  pub typed : AllByRecursion IsTyped cells
  pub short : AllByRecursion IsShortValue cells

-- the first bits of as few bytes as they need
pub record AreBits (bits : List Bool) (bytes : List ℕ) : Type 0 where
  pub past : List Bool
  pub first : bits_of bytes ≡ bits ++ past
  pub needed : length bytes ≡ bytes_for (length bits)

-- the values of the cells that aren't null: bits in a boolean column, else one after another
abbrev pub AreValues : Column → List Value → List ℕ → Type 0
AreValues column cells bytes =
    MatchBool (is_number 0 column.physical) (AreBits (truths_of cells) bytes) (bytes ≡ flat_map value_bytes cells)

-- levels, which tell the cells that aren't null, and then the values
pub record AreNullable (column : Column) (cells : List Value) (bytes : List ℕ) : Type 0 where
  pub levels : List ℕ
  pub values : List ℕ
  pub parts : bytes ≡ levels ++ values
  pub tell : IsLevels (map has_value cells) levels
  pub are : AreValues column cells values

abbrev pub IsBody : Column → List Value → List ℕ → Type 0
IsBody column cells bytes =
    MatchBool column.optional (AreNullable column cells bytes) (AreValues column cells bytes)

-- the header of a data page of so many bytes and cells, without compression
pub record IsDataPage (column : Column) (size count : ℕ) (h : PageHeader) : Type 0 where
  pub kind : h.kind ≡ pos 0
  pub uncompressed : h.uncompressed ≡ pos size
  pub compressed : h.compressed ≡ pos size
  pub values : h.values ≡ pos count
  pub plain : h.encoding ≡ pos 0
  pub rle : column.optional ≡ true → h.def_encoding ≡ pos 3

pub record IsPage (column : Column) (cells : List Value) (bytes : List ℕ) : Type 0 where
  pub header : List ℕ
  pub body : List ℕ
  pub told : PageHeader
  pub parts : bytes ≡ header ++ body
  pub is_header : IsHeader told header
  pub is_data_page : IsDataPage column (length body) (length cells) told
  pub are_cells : AreCells column cells
  pub is_body : IsBody column cells body
