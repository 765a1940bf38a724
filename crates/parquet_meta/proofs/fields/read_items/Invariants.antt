use Rattle.std.proofs.Common.{◌≡◌, ◌-◌, ◌++◌}
use Rattle.parquet_meta.specs.Reading.{items_at, with_value}
use Rattle.parquet_meta.proofs.fields.read_items.Given as goal

-- the items so far and those that the rest gives are all of them
abbrev pub invariant-loop-item : goal.invariant-loop-item
invariant-loop-item g l =
    (with_value (λ x. l.items ++ x) (items_at g.T.Item.item_at (l.count - l._item) l.reader.rest) ≡ items_at g.T.Item.item_at l.count l.fn.reader.rest)
    × (l.reader.total ≡ l.fn.reader.total)
