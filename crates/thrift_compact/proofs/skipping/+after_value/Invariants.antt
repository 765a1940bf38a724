use Rattle.std.proofs.Common.{◌≡◌, ◌+◌, ◌*◌, ◌-◌, length}
use Rattle.thrift_compact.specs.declared.skipping.Container.TheVariants.{Fields}
use Rattle.thrift_compact.specs.Values.{passing, fields_at, times_at, item_at, pair_at, container_at, value_at}
use Rattle.thrift_compact.proofs.skipping.+after_value.Given as goal

-- a container at so many levels, then what walks over its values, then a pair, an item, a value
abbrev pub decreases-after_container : goal.decreases-after_container
decreases-after_container l = 5 * l.levels + 4

abbrev pub decreases-after_items : goal.decreases-after_items
decreases-after_items l = 5 * l.levels + 3

abbrev pub decreases-after_pairs : goal.decreases-after_pairs
decreases-after_pairs l = 5 * l.levels + 3

abbrev pub decreases-after_fields : goal.decreases-after_fields
decreases-after_fields l = 5 * l.levels + 3

abbrev pub decreases-after_pair : goal.decreases-after_pair
decreases-after_pair l = 5 * l.levels + 2

abbrev pub decreases-after_item : goal.decreases-after_item
decreases-after_item l = 5 * l.levels + 1

abbrev pub decreases-after_value : goal.decreases-after_value
decreases-after_value l = 5 * l.levels

-- the rest of the fields gives what all of them give
abbrev pub invariant-after_fields-loop-after : goal.invariant-after_fields-loop-after
invariant-after_fields-loop-after l = fields_at (passing (value_at l.levels)) (length l.rest) l.last tt l.rest ≡ container_at (value_at l.levels) Fields l.bytes

abbrev pub decreases-after_fields-loop-after : goal.decreases-after_fields-loop-after
decreases-after_fields-loop-after l = length l.rest

-- the rest of the items gives what all of them give
abbrev pub invariant-after_items-loop-item : goal.invariant-after_items-loop-item
invariant-after_items-loop-item l = times_at (l.size - l._item) (item_at (value_at l.levels) l.kind) l.rest ≡ times_at l.size (item_at (value_at l.levels) l.kind) l.bytes

abbrev pub invariant-after_pairs-loop-pair : goal.invariant-after_pairs-loop-pair
invariant-after_pairs-loop-pair l = times_at (l.size - l._pair) (pair_at (value_at l.levels) l.key l.value) l.rest ≡ times_at l.size (pair_at (value_at l.levels) l.key l.value) l.bytes
