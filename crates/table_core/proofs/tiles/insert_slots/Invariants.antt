use Rattle.std.proofs.Common.{◌≡◌, take}
use Rattle.std.specs.Prelude.{◌||◌}
use Rattle.hudi_base.specs.declared.file_group.GroupRef.{GroupRef}
use Rattle.key_index.specs.Tiling.{is_among}
use Rattle.table_core.specs.TileTables.{is_tile_of}
use Rattle.table_core.proofs.tiles.insert_slots.Given as goal

abbrev pub invariant-loop-slot : goal.invariant-loop-slot
invariant-loop-slot l =
    (group : GroupRef) → is_among l.groups.keys group ≡ (is_among l.fn.groups.keys group || is_tile_of l.buckets l.partition (take l.slot-index l.slots) group)
