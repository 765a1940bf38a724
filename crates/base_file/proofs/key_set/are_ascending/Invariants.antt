use Rattle.std.proofs.Common.{◌≡◌, [], take, drop, map, option_map}
use Rattle.base_file.specs.BaseFiles.{keys_differ, row_key}
use Rattle.base_file.specs.KeyTables.{AreUpTo}
use Rattle.base_file.proofs.key_set.are_ascending.Given as goal

abbrev pub invariant-loop-row : goal.invariant-loop-row
invariant-loop-row l =
    AreUpTo (map row_key (take l.row-index l.rows)) (option_map (λ last. last.now) l.last)
    × (keys_differ [] (map row_key l.rows) ≡ keys_differ (map row_key (take l.row-index l.rows)) (map row_key (drop l.row-index l.rows)))
