use Rattle.std.proofs.Common.{◌≡◌, ◌-◌, ◌++◌, length, take}
use Rattle.std.specs.List.{flat_map}
use Rattle.thrift_compact.specs.Writing.{after_field, with_items}
use Rattle.parquet_meta.proofs.writing.put_list.Given as goal

-- the items so far are behind the head, and the list wants the rest
abbrev pub invariant-loop-item : goal.invariant-loop-item
invariant-loop-item g l =
    (l.writer.bytes ≡ l.initial.writer.bytes ++ flat_map g.T.PutItem.item_bytes (take l.item-index l.items))
    × (l.writer.levels ≡ with_items g.T.PutItem.KIND (length l.items - l.item-index) (after_field l.id l.fn.writer.levels))
