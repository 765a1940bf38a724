use Rattle.std.proofs.Common.{◌≡◌, ◌++◌, All, take}
use Rattle.std.specs.List.{flat_map}
use Rattle.row_records.specs.Records.{row_bytes}
use Rattle.row_records.specs.Readers.{IsWritten}
use Rattle.row_records.proofs.writing.put_rows.Given as goal

-- the rows so far
abbrev pub invariant-loop-row : goal.invariant-loop-row
invariant-loop-row l = record {
  bytes : l.out.items ≡ l.fn.out.items ++ flat_map (row_bytes l.file_id) (take l.row-index l.rows);
  known : All (IsWritten l.file_id) (take l.row-index l.rows);
}
