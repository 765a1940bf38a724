-- The cells of base files. This project's own.
use Rattle.std.specs.Prelude.{ℕ, ◌^◌, ◌&&◌, nat_le, nat_lt, Bool, true, false, if◌then◌else◌, ℤ, pos, negsuc, List, [], ◌∷◌, codes, Option, Some, None, option_and_then, Result, Ok, Err}
use Rattle.hudi_base.specs.InstantTime.{first_time, last_time}
use Rattle.hudi_base.specs.declared.column.Column.{Column}
use Rattle.hudi_base.specs.declared.value.Value.{Value}
use Rattle.hudi_base.specs.declared.value.Value.TheVariants as value
use Rattle.payload_merge.specs.Contents.{CellsReading}
use Rattle.payload_merge.specs.declared.row.Row.{Row}
use Rattle.plain_rows.specs.OwnRows.{is_sized_text, most_body_bytes, most_key_bytes}

-- ---- columns

-- a column of numbers of 64 bits
abbrev pub number_column : List ℕ → Column
number_column name = record { name = name; physical = pos 2; optional = false; utf8 = false }

-- a column of byte arrays, which may be texts
abbrev pub bytes_column : List ℕ → Bool → Column
bytes_column name utf8 = record { name = name; physical = pos 6; optional = false; utf8 = utf8 }

-- the file id, the instant, the place, the key, the rank and the body
abbrev pub the_columns : List Column
the_columns =
    bytes_column (codes "file") true ∷ number_column (codes "commit") ∷ number_column (codes "place")
    ∷ bytes_column (codes "key") false ∷ number_column (codes "rank") ∷ bytes_column (codes "body") false ∷ []

-- ---- cells

-- the number that isn't below 0 in a cell of 64 bits
abbrev pub count_of : Value → Option ℕ
count_of (value.Long (pos n)) = Some n
count_of (value.Long (negsuc n)) = None
count_of _ = None

abbrev pub time_in : ℕ → Option ℕ
time_in n = if nat_le first_time n && nat_le n last_time then Some n else None

unfoldable pub time_of : Value → Option ℕ
time_of cell = option_and_then time_in (count_of cell)

abbrev pub place_in : ℕ → Option ℕ
place_in n = if nat_lt n (2 ^ 32) then Some n else None

unfoldable pub place_of : Value → Option ℕ
place_of cell = option_and_then place_in (count_of cell)

unfoldable pub rank_of : Value → Option ℤ
rank_of (value.Long rank) = Some rank
rank_of _ = None

-- a text in a cell of bytes, of at least and at most so many
unfoldable pub sized_of : ℕ → ℕ → Value → Option (List ℕ)
sized_of least most (value.Bytes bytes) =
    if is_sized_text least most bytes then Some bytes else None
sized_of least most _ = None

-- the row that cells say, or the place of the first that says nothing
unfoldable pub row_of_cells : List ℕ → Option ℕ → Option ℕ → Option (List ℕ) → Option ℤ → Option (List ℕ) → Result Row ℕ
row_of_cells partition None _ _ _ _ = Err 1
row_of_cells partition (Some commit) None _ _ _ = Err 2
row_of_cells partition (Some commit) (Some seq) None _ _ = Err 3
row_of_cells partition (Some commit) (Some seq) (Some key) None _ = Err 4
row_of_cells partition (Some commit) (Some seq) (Some key) (Some rank) None = Err 5
row_of_cells partition (Some commit) (Some seq) (Some key) (Some rank) (Some body) =
    Ok (record { partition = partition; key = key; rank = rank; commit = commit; seq = seq; body = body })

-- The row of a partition for which six cells stand. The file's id is no part of it. Where they aren't six, the first is
-- bad.
unfoldable pub row_in : CellsReading
row_in partition (file ∷ commit ∷ seq ∷ key ∷ rank ∷ body ∷ []) =
    row_of_cells partition (time_of commit) (place_of seq) (sized_of 1 most_key_bytes key) (rank_of rank)
    (sized_of 0 most_body_bytes body)
row_in partition _ = Err 0
