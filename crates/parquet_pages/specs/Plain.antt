-- The values of a page: "Plain" of the Parquet format's encodings. A null has no value.
use Rattle.std.specs.Prelude.{ℕ, zero, suc, ◌+◌, ◌*◌, ◌/◌, Bool, true, false, if◌then◌else◌, List, [], ◌∷◌, length, take, drop, count_by, Option, Some, None, Ok, Err}
use Rattle.std.specs.List.{flat_map, filter_map}
use Rattle.std.specs.Int.{w32, w64, cast_unsigned}
use Rattle.byteorder.specs.Endian.{little_number, little_bytes}
use Rattle.byte_fields.specs.declared.field_error.FieldError.TheVariants.{Bad}
use Rattle.byte_fields.specs.Reading.{Reading, ◌>>=◌}
use Rattle.byte_fields.specs.Numbers.{number_at, signed_at}
use Rattle.byte_fields.specs.Prefixed.{with_length, bytes_at, prefixed_at, text_at}
use Rattle.column_cells.specs.Cells.{is_number}
use Rattle.hudi_base.specs.declared.column.Column.{Column}
use Rattle.hudi_base.specs.declared.value.Value.{Value}
use Rattle.hudi_base.specs.declared.value.Value.TheVariants as value
use Rattle.parquet_meta.specs.Reading.{with_value}
use Rattle.parquet_pages.specs.Levels.{level_byte, bits_of}

-- ---- written

-- a value that isn't a boolean: a number of four or of eight bytes, or bytes behind their length
abbrev pub value_bytes : Value → List ℕ
value_bytes (value.Int n) = little_bytes 4 (cast_unsigned w32 n)
value_bytes (value.Long n) = little_bytes 8 (cast_unsigned w64 n)
value_bytes (value.Bytes content) = with_length (little_bytes 4) content
value_bytes (value.Text text) = with_length (little_bytes 4) text
value_bytes _ = []

-- the number whose bits these are, least first
abbrev pub bits_number : List Bool → ℕ
bits_number [] = 0
bits_number (bit ∷ bits) = level_byte bit + 2 * bits_number bits

-- so many bytes of eight bits each, where bits that aren't there are 0
unfoldable pub bit_bytes : ℕ → List Bool → List ℕ
bit_bytes zero bits = []
bit_bytes (suc n) bits = bits_number (take 8 bits) ∷ bit_bytes n (drop 8 bits)

-- how many bytes so many bits need
abbrev pub bytes_for : ℕ → ℕ
bytes_for n = (n + 7) / 8

-- the booleans among the cells
abbrev pub truth_of : Value → Option Bool
truth_of (value.Boolean truth) = Some truth
truth_of _ = None

abbrev pub truths_of : List Value → List Bool
truths_of cells = filter_map truth_of cells

-- the values of cells of a column
unfoldable pub values_bytes : Column → List Value → List ℕ
values_bytes column cells =
    if is_number 0 column.physical then bit_bytes (bytes_for (length (truths_of cells))) (truths_of cells)
    else flat_map value_bytes cells

-- ---- read, given for each cell whether it has a value

-- a text or bytes
unfoldable pub array_at : Bool → List ℕ → Reading Value
array_at utf8 bytes =
    if utf8 then with_value value.Text (text_at (number_at little_number 4) bytes)
    else with_value value.Bytes (prefixed_at (number_at little_number 4) bytes)

-- a value that isn't a boolean
unfoldable pub value_at : Column → List ℕ → Reading Value
value_at column bytes =
    if is_number 1 column.physical then with_value value.Int (signed_at little_number w32 4 bytes) else
    if is_number 2 column.physical then with_value value.Long (signed_at little_number w64 8 bytes) else
    if is_number 6 column.physical then array_at column.utf8 bytes else Err (Bad (length bytes))

-- a cell
abbrev pub cell_at : Column → Bool → List ℕ → Reading Value
cell_at column true bytes = value_at column bytes
cell_at column false bytes = Ok (value.Null, bytes)

-- one cell after another
unfoldable pub cells_at : Column → List Bool → List ℕ → Reading (List Value)
cells_at column [] bytes = Ok ([], bytes)
cells_at column (level ∷ levels) bytes =
    cell_at column level bytes >>= λ cell. cells_at column levels cell.1 >>= λ more. Ok (cell.0 ∷ more.0, more.1)

-- cells whose values are these bits
unfoldable pub boolean_cells : List Bool → List Bool → List Value
boolean_cells [] bits = []
boolean_cells (false ∷ levels) bits = value.Null ∷ boolean_cells levels bits
boolean_cells (true ∷ levels) [] = []
boolean_cells (true ∷ levels) (bit ∷ bits) = value.Boolean bit ∷ boolean_cells levels bits

-- booleans, eight in a byte
unfoldable pub booleans_at : List Bool → List ℕ → Reading (List Value)
booleans_at levels bytes =
    bytes_at (bytes_for (count_by (λ level. level) levels)) bytes >>= λ content.
    Ok (boolean_cells levels (bits_of content.0), content.1)

-- cells of a column
unfoldable pub values_at : Column → List Bool → List ℕ → Reading (List Value)
values_at column levels bytes =
    if is_number 0 column.physical then booleans_at levels bytes else cells_at column levels bytes
