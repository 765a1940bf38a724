use Rattle.std.proofs.Common.{◌≡◌, take}
use Rattle.hudi_base.specs.declared.file_group.GroupRef.{GroupRef}
use Rattle.key_index.specs.Tiling.{is_among}
use Rattle.table_core.specs.TileTables.{is_tile_asked}
use Rattle.table_core.proofs.tiles.groups_of.Given as goal

abbrev pub invariant-loop-asked : goal.invariant-loop-asked
invariant-loop-asked l = (group : GroupRef) → is_among l.groups.keys group ≡ is_tile_asked l.buckets (take l.asked-index l.slots) group
