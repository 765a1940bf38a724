use Rattle.std.proofs.Common.{◌+◌, ◌∙◌, sym, ap, arith, Ok, Err}
use Rattle.std.proofs.lemmas.Result.{err_from_is_err_and}
use Rattle.avro_schema.specs.AvroTypes.{type_of}
use Rattle.avro_schema.specs.Reading.{value_at, entry_at, blocks_at, made}
use Rattle.hudi_base.specs.declared.value.Value.{Union}
use Rattle.avro_value.specs.Places.{head_view}
use Rattle.avro_value.proofs.Branches.{branch_at_is, type_of_Array, type_of_Map}
use Rattle.avro_value.proofs.Loops.{Fails_then, items_go_on, items_fail, items_done, blocks_done, blocks_go_on, blocks_fail, heads_fail, blocks_over, fields_go_on, fields_fail, fields_done}
use Rattle.avro_value.proofs.reading.+decode.Goals as goal

pub add_items-returns-in_err-value : goal.add_items-returns-in_err-value
add_items-returns-in_err-value t c =
    let p = err_from_is_err_and c.from_residual.result c.from_residual.ensures.1 in
    rw (p.1, p.2) (items_fail (value_at (type_of c.args.item.now)) c.args.count c.loop.counter c.loop.found c.loop.place.left c.loop.place.bytes.now _ c.in_err-value.field-0.0 c.loop-test.true c.in_err-value.ensures c.loop.invariant)

pub add_items-loop-preserved : goal.add_items-loop-preserved
add_items-loop-preserved t c =
    rw c.in_ok-push.ensures.ok (items_go_on (value_at (type_of c.args.item.now)) c.args.count c.loop.counter c.loop.found c.loop.place.left c.loop.place.bytes.now _ c.in_ok-value.value c.in_ok-value.after.left c.in_ok-value.after.bytes.now c.loop-test.true c.in_ok-value.ensures c.loop.invariant)

pub add_items-returns : goal.add_items-returns
add_items-returns t c = items_done (value_at (type_of c.args.item.now)) c.args.count c.loop.counter c.loop.found c.loop.place.left c.loop.place.bytes.now _ c.loop-test.false c.loop.invariant

pub add_entries-returns-in_err-entry : goal.add_entries-returns-in_err-entry
add_entries-returns-in_err-entry t c =
    let p = err_from_is_err_and c.from_residual.result c.from_residual.ensures.1 in
    rw (p.1, p.2) (items_fail (entry_at (value_at (type_of c.args.schema.now))) c.args.count c.loop.counter c.loop.found c.loop.place.left c.loop.place.bytes.now _ c.in_err-entry.field-0.0 c.loop-test.true c.in_err-entry.ensures c.loop.invariant)

pub add_entries-loop-preserved : goal.add_entries-loop-preserved
add_entries-loop-preserved t c =
    rw c.in_ok-push.ensures.ok (items_go_on (entry_at (value_at (type_of c.args.schema.now))) c.args.count c.loop.counter c.loop.found c.loop.place.left c.loop.place.bytes.now _ c.in_ok-entry.entry c.in_ok-entry.after.left c.in_ok-entry.after.bytes.now c.loop-test.true c.in_ok-entry.ensures c.loop.invariant)

pub add_entries-returns : goal.add_entries-returns
add_entries-returns t c = items_done (entry_at (value_at (type_of c.args.schema.now))) c.args.count c.loop.counter c.loop.found c.loop.place.left c.loop.place.bytes.now _ c.loop-test.false c.loop.invariant

pub array_items-returns-in_err-head : goal.array_items-returns-in_err-head
unfolding blocks_at
array_items-returns-in_err-head t c =
    let p = err_from_is_err_and c.from_residual.result c.from_residual.ensures.1 in
    rw (p.1, p.2) (heads_fail (value_at (type_of c.args.item.now)) (c.args.place.left + 1) c.loop.counter c.loop.found c.loop.place.left c.loop.place.bytes.now _ c.in_err-head.field-0.0 c.loop-test.true c.in_err-head.ensures.head c.loop.invariant)

pub array_items-returns-then-head-eq0 : goal.array_items-returns-then-head-eq0
unfolding blocks_at
array_items-returns-then-head-eq0 t c =
    blocks_done (value_at (type_of c.args.item.now)) (c.args.place.left + 1) c.loop.counter c.loop.found c.loop.place.left c.loop.place.bytes.now _ (head_view c.in_ok-head.head) c.in_ok-head.bytes.now c.loop-test.true c.in_ok-head.ensures.head c.if-head-eq0.true c.loop.invariant

pub array_items-returns-in_err-place : goal.array_items-returns-in_err-place
unfolding blocks_at
array_items-returns-in_err-place t c =
    let p = err_from_is_err_and c.from_residual-in_err-place.result c.from_residual-in_err-place.ensures.1 in
    rw (p.1, p.2) (blocks_fail (value_at (type_of c.args.item.now)) (c.args.place.left + 1) c.loop.counter c.loop.found c.loop.place.left c.loop.place.bytes.now _ (head_view c.in_ok-head.head) c.in_ok-head.bytes.now c.in_err-place.field-0.0 c.loop-test.true c.in_ok-head.ensures.head c.if-head-eq0.false c.in_err-place.ensures c.loop.invariant)

pub array_items-loop-preserved : goal.array_items-loop-preserved
array_items-loop-preserved t c =
    blocks_go_on (value_at (type_of c.args.item.now)) (c.args.place.left + 1) c.loop.counter c.loop.found c.loop.place.left c.loop.place.bytes.now _ (head_view c.in_ok-head.head) c.in_ok-head.bytes.now c.add_block.new.found c.in_ok-place.place.left c.in_ok-place.place.bytes.now c.loop-test.true c.in_ok-head.ensures.head c.if-head-eq0.false c.in_ok-place.ensures c.loop.invariant

pub array_items-returns : goal.array_items-returns
unfolding blocks_at
array_items-returns t c =
    blocks_over (value_at (type_of c.args.item.now)) (c.args.place.left + 1) c.loop.counter c.loop.found c.loop.place.left c.loop.place.bytes.now _ c.loop-test.false c.loop.invariant ∙ ap Err (sym c.bad.ensures)

pub map_entries-returns-in_err-head : goal.map_entries-returns-in_err-head
unfolding blocks_at
map_entries-returns-in_err-head t c =
    let p = err_from_is_err_and c.from_residual.result c.from_residual.ensures.1 in
    rw (p.1, p.2) (heads_fail (entry_at (value_at (type_of c.args.schema.now))) (c.args.place.left + 1) c.loop.counter c.loop.found c.loop.place.left c.loop.place.bytes.now _ c.in_err-head.field-0.0 c.loop-test.true c.in_err-head.ensures.head c.loop.invariant)

pub map_entries-returns-then-head-eq0 : goal.map_entries-returns-then-head-eq0
unfolding blocks_at
map_entries-returns-then-head-eq0 t c =
    blocks_done (entry_at (value_at (type_of c.args.schema.now))) (c.args.place.left + 1) c.loop.counter c.loop.found c.loop.place.left c.loop.place.bytes.now _ (head_view c.in_ok-head.head) c.in_ok-head.bytes.now c.loop-test.true c.in_ok-head.ensures.head c.if-head-eq0.true c.loop.invariant

pub map_entries-returns-in_err-place : goal.map_entries-returns-in_err-place
unfolding blocks_at
map_entries-returns-in_err-place t c =
    let p = err_from_is_err_and c.from_residual-in_err-place.result c.from_residual-in_err-place.ensures.1 in
    rw (p.1, p.2) (blocks_fail (entry_at (value_at (type_of c.args.schema.now))) (c.args.place.left + 1) c.loop.counter c.loop.found c.loop.place.left c.loop.place.bytes.now _ (head_view c.in_ok-head.head) c.in_ok-head.bytes.now c.in_err-place.field-0.0 c.loop-test.true c.in_ok-head.ensures.head c.if-head-eq0.false c.in_err-place.ensures c.loop.invariant)

pub map_entries-loop-preserved : goal.map_entries-loop-preserved
map_entries-loop-preserved t c =
    blocks_go_on (entry_at (value_at (type_of c.args.schema.now))) (c.args.place.left + 1) c.loop.counter c.loop.found c.loop.place.left c.loop.place.bytes.now _ (head_view c.in_ok-head.head) c.in_ok-head.bytes.now c.add_entry_block.new.found c.in_ok-place.place.left c.in_ok-place.place.bytes.now c.loop-test.true c.in_ok-head.ensures.head c.if-head-eq0.false c.in_ok-place.ensures c.loop.invariant

pub map_entries-returns : goal.map_entries-returns
unfolding blocks_at
map_entries-returns t c =
    blocks_over (entry_at (value_at (type_of c.args.schema.now))) (c.args.place.left + 1) c.loop.counter c.loop.found c.loop.place.left c.loop.place.bytes.now _ c.loop-test.false c.loop.invariant ∙ ap Err (sym c.bad.ensures)

pub field_values-returns-in_err-value : goal.field_values-returns-in_err-value
field_values-returns-in_err-value t c =
    let p = err_from_is_err_and c.from_residual.result c.from_residual.ensures.1 in
    rw (p.1, p.2) (fields_fail c.args.fields.now c.loop-field.field-index c.loop-field.found c.loop-field.place.left c.loop-field.place.bytes.now _ c.field-item.result c.in_err-value.field-0.0 c.loop-field-test.true c.field-item.is c.in_err-value.ensures c.loop-field.invariant)

pub field_values-loop-field-preserved : goal.field_values-loop-field-preserved
field_values-loop-field-preserved t c =
    rw c.in_ok-push.ensures.ok (fields_go_on c.args.fields.now c.loop-field.field-index c.loop-field.found c.loop-field.place.left c.loop-field.place.bytes.now _ c.field-item.result c.in_ok-value.value c.in_ok-value.after.left c.in_ok-value.after.bytes.now c.loop-field-test.true c.field-item.is c.in_ok-value.ensures c.loop-field.invariant)

pub field_values-returns : goal.field_values-returns
field_values-returns t c = fields_done c.args.fields.now c.loop-field.field-index c.loop-field.found c.loop-field.place.left c.loop-field.place.bytes.now _ (omega arith) c.loop-field.invariant

pub branch_value-returns-in_err-inner : goal.branch_value-returns-in_err-inner
branch_value-returns-in_err-inner t c =
    let p = err_from_is_err_and c.from_residual.result c.from_residual.ensures.1 in
    let branch = branch_at_is c.args.branches.now c.args.index c.index-branches-index.result c.args.place.left c.args.place.bytes.now c.requires c.index-branches-index.is in
    rw (p.1, p.2, branch) (Fails_then c.in_err-inner.field-0.0 (value_at (type_of c.index-branches-index.result) c.args.place.left c.args.place.bytes.now) (λ found. Ok ((Union c.args.index found.0.0, found.0.1), found.1)) c.in_err-inner.ensures)

pub branch_value-returns : goal.branch_value-returns
branch_value-returns t c =
    let branch = branch_at_is c.args.branches.now c.args.index c.index-branches-index.result c.args.place.left c.args.place.bytes.now c.requires c.index-branches-index.is in
    rw c.in_ok-new.ensures (ap (made (Union c.args.index)) (branch ∙ c.in_ok-inner.ensures))

pub value_at-returns-in-Array : goal.value_at-returns-in-Array
value_at-returns-in-Array t c = rw (c.in-Array.is, type_of_Array c.in-Array.item, ← c.get.ensures) c.array_value.ensures

pub value_at-returns-in-Map : goal.value_at-returns-in-Map
value_at-returns-in-Map t c = rw (c.in-Map.is, type_of_Map c.in-Map.value, ← c.get-in-Map.ensures) c.map_value.ensures
