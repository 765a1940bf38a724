use Rattle.std.proofs.Common.{◌+◌, sym, subst, take, ◌∙◌}
use Rattle.std.specs.List.{AllZip}
use Rattle.avro_schema.specs.Fits.{Fits}
use Rattle.serde_json.specs.View.{view}
use Rattle.row_values.specs.Fields.{field_type}
use Rattle.row_values.specs.JsonRows.{values_of_json}
use Rattle.row_values.proofs.CellLemmas as cell
use Rattle.row_values.proofs.JsonLemmas.{Left, answers_mismatch, values_more, values_stop, values_end, values_other}
use Rattle.row_values.proofs.json_input.values_of_json.Goals as goal

pub returns-in-None-clause-values : goal.returns-in-None-clause-values
returns-in-None-clause-values c =
    let d = view c.args.json.now in
    let total = values_of_json c.args.fields.now d in
    answers_mismatch c.args.fields.now d c.mismatch.result c.len.result _ c.mismatch.ensures
    (values_stop c.in_ok-only.only d c.args.fields.now c.loop-field.field-index c.loop-field.found total c.field-item.result c.loop-field-test.true c.field-item.is (sym c.in_ok-value.ensures.value ∙ c.in-None.is) c.loop-field.invariant.left)
    c.len.ensures

pub loop-field-preserved : goal.loop-field-preserved
loop-field-preserved c =
    let d = view c.args.json.now in
    let total = values_of_json c.args.fields.now d in
    let told = sym c.in_ok-value.ensures.value ∙ c.in-Some.is in
    let left = values_more c.in_ok-only.only d c.args.fields.now c.loop-field.field-index c.loop-field.found total c.field-item.result c.in-Some.value c.loop-field-test.true c.field-item.is told c.loop-field.invariant.left in
    let fits = cell.values_more c.args.fields.now c.loop-field.found c.loop-field.field-index c.field-item.result c.in-Some.value c.loop-field-test.true c.field-item.is (rw c.in-Some.is at c.in_ok-value.ensures.fits) c.loop-field.invariant.fits in
    record {
      left = subst (λ found. Left c.in_ok-only.only d c.args.fields.now (c.loop-field.field-index + 1) found total) (sym c.in_ok-push-in-Some.ensures.ok) left;
      fits = subst (λ found. AllZip (λ f v. Fits (field_type f) v) (take (c.loop-field.field-index + 1) c.args.fields.now) found) (sym c.in_ok-push-in-Some.ensures.ok) fits;
    }

pub returns-then-not-only-clause-values : goal.returns-then-not-only-clause-values
returns-then-not-only-clause-values c =
    let d = view c.args.json.now in
    let total = values_of_json c.args.fields.now d in
    answers_mismatch c.args.fields.now d c.mismatch-then-not-only.result c.len-then-not-only.result _ c.mismatch-then-not-only.ensures
    (values_other c.in_ok-only.only d c.args.fields.now c.loop-field.field-index c.loop-field.found total c.loop-field-test.false c.if-not-only.true c.loop-field.invariant.left)
    c.len-then-not-only.ensures

pub returns-clause-values : goal.returns-clause-values
returns-clause-values c =
    let d = view c.args.json.now in
    values_end c.in_ok-only.only d c.args.fields.now c.loop-field.field-index c.loop-field.found (values_of_json c.args.fields.now d) c.loop-field-test.false c.if-not-only.false c.loop-field.invariant.left
