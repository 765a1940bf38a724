use Rattle.std.proofs.Common.{◌≡◌, drop}
use Rattle.plain_rows.specs.Contents.{are_in_order}
use Rattle.plain_rows.proofs.writing.are_in_order.Given as goal

-- the rows that are left stand in order where all do
abbrev pub invariant-loop-row : goal.invariant-loop-row
invariant-loop-row l = record {
  place : l.place ≡ l.row-index;
  same : are_in_order l.place (drop l.row-index l.rows) ≡ are_in_order 0 l.rows;
}
