use Rattle.std.proofs.Common.{◌≡◌, ◌-◌, ◌+◌, [], map, drop}
use Rattle.avro_schema.specs.AvroTypes.{type_of, field_of, fields_of}
use Rattle.avro_schema.specs.Reading.{items_from, blocks_from, value_at, entry_at, fields_from}
use Rattle.avro_value.proofs.reading.+decode.Given as goal

abbrev pub invariant-add_items-loop : goal.invariant-add_items-loop
invariant-add_items-loop l =
    items_from (value_at (type_of l.item)) (l.count - l.counter) l.found l.place.left l.place.bytes.now
    ≡ items_from (value_at (type_of l.item)) l.count l.fn.found l.fn.place.left l.fn.place.bytes.now

abbrev pub invariant-add_entries-loop : goal.invariant-add_entries-loop
invariant-add_entries-loop l =
    items_from (entry_at (value_at (type_of l.schema))) (l.count - l.counter) l.found l.place.left l.place.bytes.now
    ≡ items_from (entry_at (value_at (type_of l.schema))) l.count l.fn.found l.fn.place.left l.fn.place.bytes.now

abbrev pub invariant-array_items-loop : goal.invariant-array_items-loop
invariant-array_items-loop l =
    blocks_from (value_at (type_of l.item)) (l.fn.place.left + 1 - l.counter) l.found l.place.left l.place.bytes.now
    ≡ blocks_from (value_at (type_of l.item)) (l.fn.place.left + 1) [] l.fn.place.left l.fn.place.bytes.now

abbrev pub invariant-map_entries-loop : goal.invariant-map_entries-loop
invariant-map_entries-loop l =
    blocks_from (entry_at (value_at (type_of l.schema))) (l.fn.place.left + 1 - l.counter) l.found l.place.left l.place.bytes.now
    ≡ blocks_from (entry_at (value_at (type_of l.schema))) (l.fn.place.left + 1) [] l.fn.place.left l.fn.place.bytes.now

abbrev pub invariant-field_values-loop-field : goal.invariant-field_values-loop-field
invariant-field_values-loop-field l =
    fields_from (fields_of (map field_of (drop l.field-index l.fields))) l.found l.place.left l.place.bytes.now
    ≡ fields_from (fields_of (map field_of l.fields)) [] l.fn.place.left l.fn.place.bytes.now
