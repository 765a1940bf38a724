use Rattle.std.proofs.Common.{◌∙◌, ap}
use Rattle.std.specs.Prelude.{◌||◌}
use Rattle.key_index.specs.Tiling.{is_among}
use Rattle.table_core.specs.TileTables.{is_tile}
use Rattle.table_core.proofs.TileLemmas.{on_ok, one_tile, or-flip}
use Rattle.table_core.proofs.tiles.insert_slot.Goals as goal

pub returns : goal.returns
returns c = on_ok (λ has group.
    has group
    ∙ ap (λ b. b || is_among c.args.groups.now.keys group) (one_tile c.args.partition.now c.args.buckets.now c.args.slot _ group (c.range_of.ensures c.args.partition.now))
    ∙ or-flip (is_tile c.args.buckets.now c.args.partition.now c.args.slot group) (is_among c.args.groups.now.keys group))
    c.insert_group.result c.insert_group.ensures
