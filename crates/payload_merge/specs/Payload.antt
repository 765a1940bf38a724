-- The payload rule: what one write makes of the present row of its key. It is Hudi's payload that goes by an
-- ordering field, here the rank, and at equal ranks takes the latest write.
use Rattle.std.specs.Prelude.{ℕ, ℤ, int_lt, Bool, true, false, List, Option, Some, None}
use Rattle.std.specs.declared.cmp.Ordering.{Ordering}
use Rattle.std.specs.Ordering.{nat_cmp, ordering_then}
use Rattle.std.specs.Cmp.Lexicographic.{slice_cmp}
use Rattle.payload_merge.specs.declared.row.Row.{Row}
use Rattle.payload_merge.specs.declared.row.Write.{Write}
use Rattle.payload_merge.specs.declared.row.Write.TheVariants.{Put, Del}

-- what names a row in a table: its partition, and its record key in there
abbrev pub Key : Type 0
Key = List ℕ × List ℕ

-- by partition and then by record key, each by its bytes
abbrev pub key_cmp : Key → Key → Ordering
key_cmp a b = ordering_then (slice_cmp nat_cmp a.0 b.0) (slice_cmp nat_cmp a.1 b.1)

-- the key of a row
abbrev pub key_of_row : Row → Key
key_of_row row = (row.partition, row.key)

-- the key that a write is about
abbrev pub key_of : Write → Key
key_of (Put row) = key_of_row row
key_of (Del partition key rank) = (partition, key)

-- the rank of a write, the greater of which wins
abbrev pub rank_of : Write → ℤ
rank_of (Put row) = row.rank
rank_of (Del partition key rank) = rank

-- which of a present row and a write is left, given whether the row's rank is the greater
abbrev pub winner : Bool → Row → Write → Option Row
winner true present write = Some present
winner false present (Put row) = Some row
winner false present (Del partition key rank) = None

-- the row of a key after a write to it
abbrev pub row_after : Option Row → Write → Option Row
row_after None (Put row) = Some row
row_after None (Del partition key rank) = None
row_after (Some present) write = winner (int_lt (rank_of write) present.rank) present write
