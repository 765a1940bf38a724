-- How the map in memory stands for a table: from each key to what its row has beside it, so that no key is held
-- twice. Only private clauses and the view of `RowMap` cite this.
use Rattle.std.specs.Prelude.{List, map, ℤ, int_lt, Bool, false, Option, Some, None}
use Rattle.std.specs.FinMap.{from_entries}
use Rattle.payload_merge.specs.declared.row.Row.{Row}
use Rattle.payload_merge.specs.declared.rows_by_key.KeylessRow.{KeylessRow}
use Rattle.payload_merge.specs.Payload.{Key}
use Rattle.payload_merge.specs.Fold.{RowTable}

-- the row of a key, from what it has beside the key
abbrev pub with_key : Key → KeylessRow → Row
with_key key keyless = record { partition = key.0; key = key.1; rank = keyless.rank; commit = keyless.commit; seq = keyless.seq; body = keyless.body }

-- an entry of the map as an entry of the table
abbrev pub table_entry : Key × KeylessRow → Key × Row
table_entry e = (e.0, with_key e.0 e.1)

-- the table that entries stand for
abbrev pub table_of : List (Key × KeylessRow) → RowTable
table_of entries = from_entries (map table_entry entries)

-- what a row has beside its key
abbrev pub without_key : Row → KeylessRow
without_key row = record { rank = row.rank; commit = row.commit; seq = row.seq; body = row.body }

-- whether the row at a key, if any, has a greater rank than this
abbrev pub is_outranked_by : Option KeylessRow → ℤ → Bool
is_outranked_by None rank = false
is_outranked_by (Some keyless) rank = int_lt rank keyless.rank
