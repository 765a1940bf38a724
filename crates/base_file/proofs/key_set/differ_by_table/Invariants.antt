use Rattle.std.proofs.Common.{◌≡◌, [], take, drop, map}
use Rattle.base_file.specs.BaseFiles.{keys_differ, row_key}
use Rattle.base_file.specs.KeyTables.{IsTableOf}
use Rattle.base_file.proofs.key_set.differ_by_table.Given as goal

abbrev pub invariant-loop-row : goal.invariant-loop-row
invariant-loop-row l =
    IsTableOf (map row_key (take l.row-index l.rows)) l.table
    × (keys_differ [] (map row_key l.rows) ≡ keys_differ (map row_key (take l.row-index l.rows)) (map row_key (drop l.row-index l.rows)))
