-- Which values are cells of a column: "Types" and "Nulls" of the Parquet format, for the four physical types that this
-- project writes. The limit of a cell's length is this project's own.
use Rattle.std.specs.Prelude.{ℕ, ℤ, pos, negsuc, ◌==◌, nat_le, Bool, true, false, not, ◌&&◌, ◌||◌, IsTrue, List, [], ◌∷◌, length}
use Rattle.hudi_base.specs.declared.column.Column.{Column}
use Rattle.hudi_base.specs.declared.value.Value.{Value}
use Rattle.hudi_base.specs.declared.value.Value.TheVariants as value

-- the number is this one
abbrev pub is_number : ℕ → ℤ → Bool
is_number known (pos n) = n == known
is_number known (negsuc n) = false

-- a column of one of the four physical types: 0 boolean, 1 and 2 numbers of 32 and 64 bits, 6 byte array
abbrev pub has_known_type : Column → Bool
has_known_type column =
    is_number 0 column.physical || is_number 1 column.physical
    || is_number 2 column.physical || is_number 6 column.physical

-- a cell of the column, by its physical type, where a byte array is text or bytes; an optional column may have null
abbrev pub is_cell : Column → Value → Bool
is_cell column value.Null = column.optional
is_cell column (value.Boolean truth) = is_number 0 column.physical
is_cell column (value.Int n) = is_number 1 column.physical
is_cell column (value.Long n) = is_number 2 column.physical
is_cell column (value.Bytes content) = is_number 6 column.physical && not column.utf8
is_cell column (value.Text text) = is_number 6 column.physical && column.utf8
is_cell column _ = false

-- neither bytes nor text of more than 65,536 bytes
abbrev pub is_short : Value → Bool
is_short (value.Bytes content) = nat_le (length content) 65536
is_short (value.Text text) = nat_le (length text) 65536
is_short _ = true

-- one cell for each column, of that column and short
abbrev pub AreCellsOf : List Column → List Value → Type 0
AreCellsOf [] [] = Unit {0}
AreCellsOf [] (cell ∷ cells) = ⊥
AreCellsOf (column ∷ columns) [] = ⊥
AreCellsOf (column ∷ columns) (cell ∷ cells) =
    IsTrue (is_cell column cell) × IsTrue (is_short cell) × AreCellsOf columns cells
