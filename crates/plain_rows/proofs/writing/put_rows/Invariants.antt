use Rattle.std.proofs.Common.{◌≡◌, ◌++◌, All, take}
use Rattle.std.specs.List.{flat_map}
use Rattle.plain_rows.specs.Contents.{row_bytes}
use Rattle.plain_rows.specs.Readers.{IsInRange}
use Rattle.plain_rows.proofs.writing.put_rows.Given as goal

-- the rows so far
abbrev pub invariant-loop-row : goal.invariant-loop-row
invariant-loop-row l = record {
  bytes : l.out.items ≡ l.fn.out.items ++ flat_map (row_bytes l.told) (take l.row-index l.rows);
  range : All IsInRange (take l.row-index l.rows);
}
