use Rattle.std.proofs.Common.{ℕ, List, [], ◌∷◌, ◌++◌, map, sym, ap, ◌∙◌, arith}
use Rattle.std.proofs.lemmas.List.{map_push}
use Rattle.std.proofs.lemmas.Result.{err_from_is_err_and}
use Rattle.serde_json.specs.View.{items_view}
use Rattle.avro_schema.specs.AvroTypes.{AvroType, type_of, field_of}
use Rattle.avro_schema.specs.Heads.{union, record_head}
use Rattle.avro_schema.specs.SchemaTexts.{head_within, type_within}
use Rattle.avro_schema.proofs.Loops.{branches_go_on, branches_fail, branches_done, fields_go_on, fields_fail, fields_done, union_made, union_fails, record_made, record_fails, within_step}
use Rattle.avro_schema.proofs.parse.+inside.Goals as goal

pub branches_of-returns-in_err-schema : goal.branches_of-returns-in_err-schema
branches_of-returns-in_err-schema t c =
    let p = err_from_is_err_and c.from_residual.result c.from_residual.ensures.1 in
    rw (p.1, p.2) (branches_fail (head_within c.args.levels) (type_within c.args.levels) c.loop-value.found c.args.values.now c.loop-value.value-index _ c.value-item.result c.in_err-schema.field-0.0 c.loop-value-test.true c.value-item.is c.loop-value.invariant c.in_err-schema.ensures)

pub branches_of-loop-value-preserved : goal.branches_of-loop-value-preserved
branches_of-loop-value-preserved t c =
    rw c.in_ok-push.ensures.ok (branches_go_on (head_within c.args.levels) (type_within c.args.levels) c.loop-value.found c.args.values.now c.loop-value.value-index _ c.value-item.result c.in_ok-schema.schema c.loop-value-test.true c.value-item.is c.loop-value.invariant c.in_ok-schema.ensures)

pub branches_of-returns : goal.branches_of-returns
branches_of-returns t c =
    branches_done (head_within c.args.levels) (type_within c.args.levels) c.loop-value.found c.args.values.now c.loop-value.value-index _ (omega arith) c.loop-value.invariant

pub fields_of-returns-in_err-name : goal.fields_of-returns-in_err-name
fields_of-returns-in_err-name t c =
    let p = err_from_is_err_and c.from_residual.result c.from_residual.ensures.1 in
    rw (p.1, p.2) (fields_fail (head_within c.args.levels) (type_within c.args.levels) c.loop-value.found c.args.values.now c.loop-value.value-index _ c.loop-value.names c.value-item.result c.in_err-name.field-0.0 c.loop-value.invariant.names c.loop-value-test.true c.value-item.is c.loop-value.invariant.read c.in_err-name.ensures)

pub fields_of-loop-value-preserved : goal.fields_of-loop-value-preserved
fields_of-loop-value-preserved t c =
    let next : List ℕ × AvroType = (c.in_ok-name.name.now, type_of c.in_ok-name.schema) in record {
      read = rw c.in_ok-push_field.ensures.fields (fields_go_on (head_within c.args.levels) (type_within c.args.levels) c.loop-value.found c.args.values.now c.loop-value.value-index _ c.loop-value.names c.value-item.result next c.loop-value.invariant.names c.loop-value-test.true c.value-item.is c.loop-value.invariant.read c.in_ok-name.ensures);
      names = c.in_ok-push_field.ensures.names ∙ ap (λ (ns : List (List ℕ)). ns ++ next.0 ∷ []) c.loop-value.invariant.names ∙ sym (map_push (λ (f : List ℕ × AvroType). f.0) (map field_of c.loop-value.found) next) ∙ ap (map (λ (f : List ℕ × AvroType). f.0)) (sym c.in_ok-push_field.ensures.fields);
    }

pub fields_of-returns : goal.fields_of-returns
fields_of-returns t c =
    fields_done (head_within c.args.levels) (type_within c.args.levels) c.loop-value.found c.args.values.now c.loop-value.value-index _ (omega arith) c.loop-value.invariant.read

pub union_inside-returns-in_err-branches_of : goal.union_inside-returns-in_err-branches_of
union_inside-returns-in_err-branches_of t c =
    let p = err_from_is_err_and c.from_residual.result c.from_residual.ensures.1 in
    rw (p.1, p.2) (union_fails (head_within c.args.levels) (type_within c.args.levels) c.args.values.now c.in_err-branches_of.field-0.0 c.in_err-branches_of.ensures)

pub union_inside-returns : goal.union_inside-returns
union_inside-returns t c =
    union_made (head_within c.args.levels) (type_within c.args.levels) c.args.values.now c.in_ok-branches_of.field-0 c.in_ok-branches_of.ensures

pub record_inside-returns-in_err-fields : goal.record_inside-returns-in_err-fields
record_inside-returns-in_err-fields t c =
    let p = err_from_is_err_and c.from_residual.result c.from_residual.ensures.1 in
    rw (p.1, p.2) (record_fails (head_within c.args.levels) (type_within c.args.levels) c.args.name.now c.args.values.now c.in_err-fields.field-0.0 c.in_err-fields.ensures)

pub record_inside-returns : goal.record_inside-returns
record_inside-returns t c =
    rw c.in_ok-from_text.ensures (record_made (head_within c.args.levels) (type_within c.args.levels) c.args.name.now c.args.values.now c.in_ok-fields.fields c.in_ok-fields.ensures)

pub type_within-returns-in-Union : goal.type_within-returns-in-Union
type_within-returns-in-Union t c =
    let step = within_step c.args.levels (union (items_view c.in-Union.values.now)) c.if-levels-eq0.false in
    rw (c.in-Union.is, step) c.union_inside.ensures

pub type_within-returns-in-Record : goal.type_within-returns-in-Record
type_within-returns-in-Record t c =
    let step = within_step c.args.levels (record_head c.in-Record.name.now (items_view c.in-Record.values.now)) c.if-levels-eq0.false in
    rw (c.in-Record.is, step) c.record_inside.ensures
