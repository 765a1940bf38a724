-- Borrowed rows and writes, as those of a partition, and what writes leave.
use Rattle.std.specs.Prelude.{◌≡◌, ℕ, ℤ, List, map}
use Rattle.std.specs.FinMap.{empty}
use Rattle.payload_merge.specs.declared.row.Row.{Row}
use Rattle.payload_merge.specs.declared.row.Write.{Write}
use Rattle.payload_merge.specs.declared.row.Write.TheVariants as write
use Rattle.payload_merge.specs.declared.row_refs.RowRef.{RowRef}
use Rattle.payload_merge.specs.declared.row_refs.WriteRef.{WriteRef}
use Rattle.payload_merge.specs.declared.row_refs.WriteRef.TheVariants.{Put, Del}
use Rattle.payload_merge.specs.Fold.{table_after_all, rows_of}

-- a borrowed row as a row of this partition
abbrev pub row_in : List ℕ → RowRef → Row
row_in partition row_ref = record {
  partition = partition;
  key = row_ref.key.now;
  rank = row_ref.rank;
  commit = row_ref.commit;
  seq = row_ref.seq;
  body = row_ref.body.now;
}

-- a borrowed write as a write to this partition
abbrev pub write_in : List ℕ → WriteRef → Write
write_in partition (Put row_ref) = write.Put (row_in partition row_ref)
write_in partition (Del key rank) = write.Del partition key.now rank

-- the record key that a borrowed write is about
abbrev pub key_of_ref : WriteRef → List ℕ
key_of_ref (Put row_ref) = row_ref.key.now
key_of_ref (Del key rank) = key.now

-- its rank
abbrev pub rank_of_ref : WriteRef → ℤ
rank_of_ref (Put row_ref) = row_ref.rank
rank_of_ref (Del key rank) = rank

-- the first, one after another where there was no row, leave the second in the order of their keys, whatever the
-- partition
abbrev pub LeaveRows : List WriteRef → List RowRef → Type 0
LeaveRows writes rows = (partition : List ℕ) →
    map (row_in partition) rows ≡ rows_of (table_after_all empty (map (write_in partition) writes))
