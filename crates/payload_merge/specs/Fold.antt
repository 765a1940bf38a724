-- What many writes make of a table: a finite map from keys to rows, as a merge-on-read table has it once the
-- blocks of its log are merged in the order of their instants.
use Rattle.std.specs.Prelude.{◌≡◌, ℕ, ◌+◌, nat_le, List, [], ◌∷◌, Option, Some, None, flat_map, if◌then◌else◌}
use Rattle.std.specs.FinMap.{FinMap, empty, get, insert, remove, values}
use Rattle.payload_merge.specs.declared.row.Row.{Row}
use Rattle.payload_merge.specs.declared.row.Write.{Write}
use Rattle.payload_merge.specs.declared.row.Write.TheVariants.{Put, Del}
use Rattle.payload_merge.specs.Payload.{Key, key_cmp, key_of, key_of_row, row_after}

-- the row of one key after writes to it, the first first
abbrev pub row_after_all : Option Row → List Write → Option Row
row_after_all present [] = present
row_after_all present (write ∷ writes) = row_after_all (row_after present write) writes

-- the present row of each key
abbrev pub RowTable : Type 0
RowTable = FinMap key_cmp Row

-- a table in which this key has this row, or none, and every other key what it had
abbrev pub with_row : RowTable → Key → Option Row → RowTable
with_row table key (Some row) = insert table key row
with_row table key None = remove table key

-- a table after one write
abbrev pub table_after : RowTable → Write → RowTable
table_after table write = with_row table (key_of write) (row_after (get table (key_of write)) write)

-- a table after writes, the first first
abbrev pub table_after_all : RowTable → List Write → RowTable
table_after_all table [] = table
table_after_all table (write ∷ writes) = table_after_all (table_after table write) writes

-- an instant, in milliseconds, and its writes in the order of their places; the row of each put carries the instant
-- and its place
pub record InstantWrites : Type 0 where
  pub instant : ℕ
  pub writes : List Write

-- a write as an instant makes it: a put's row carries the instant and its place in the batch
abbrev pub write_at : ℕ → ℕ → Write → Write
write_at instant place (Put row) = Put (record row { commit = instant; seq = place })
write_at instant place (Del partition key rank) = Del partition key rank

-- the same of writes at this place and those that follow
abbrev pub writes_from : ℕ → ℕ → List Write → List Write
writes_from instant place [] = []
writes_from instant place (write ∷ writes) = write_at instant place write ∷ writes_from instant (place + 1) writes

-- what an instant writes where it takes a whole batch, whose places are counted from 0
abbrev pub batch_at : ℕ → List Write → InstantWrites
batch_at instant writes = record { instant = instant; writes = writes_from instant 0 writes }

-- the writes of one instant
abbrev pub writes_of : InstantWrites → List Write
writes_of each = each.writes

-- an instant among others that are in the order of time: before the first that isn't earlier
abbrev pub insert_by_instant : InstantWrites → List InstantWrites → List InstantWrites
insert_by_instant each [] = each ∷ []
insert_by_instant each (first ∷ rest) =
    if nat_le each.instant first.instant then each ∷ first ∷ rest else first ∷ insert_by_instant each rest

-- instants in the order of time; those of one time stay in the order in which they came
abbrev pub in_time_order : List InstantWrites → List InstantWrites
in_time_order [] = []
in_time_order (each ∷ instants) = insert_by_instant each (in_time_order instants)

-- the writes of all instants, in the order in which they take effect
abbrev pub writes_in_order : List InstantWrites → List Write
writes_in_order instants = flat_map writes_of (in_time_order instants)

-- the table that instants make of an empty one
abbrev pub fold : List InstantWrites → RowTable
fold instants = table_after_all empty (writes_in_order instants)

-- the rows of a table, in the order of their keys
abbrev pub rows_of : RowTable → List Row
rows_of table = values table

-- each row stands at its own key
abbrev pub IsKeyed : RowTable → Type 0
IsKeyed table = (key : Key) (row : Row) → get table key ≡ Some row → key_of_row row ≡ key
