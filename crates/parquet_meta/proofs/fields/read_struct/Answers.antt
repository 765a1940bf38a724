use Rattle.std.proofs.Common.{◌≡◌, ◌≤◌, ◌<◌, arith, rules, length, ◌-◌, sym, subst, ◌∙◌}
use Rattle.std.proofs.lemmas.Result.{err_from_is_err_and}
use Rattle.std.proofs.lemmas.Int.{to_z-of_z}
use mir.Val.{SFits}
use mir.Syntax.{w16}
use Rattle.thrift_compact.proofs.FieldsLemmas.{fields_at-stop, fields_at-head_Err, fields_at-value_Err, fields_at-next, field_at-shorter, field_at-stop}
use Rattle.thrift_compact.specs.Within.{Within}
use Rattle.thrift_compact.specs.Heads.{field_at}
use Rattle.parquet_meta.specs.declared.read_error.ReadError.TheVariants.{Item}
use Rattle.parquet_meta.specs.Reading.{whole_at}
use Rattle.parquet_meta.proofs.ReadingLemmas.{passes_on, whole_at-Err, whole_at-stop}
use Rattle.parquet_meta.proofs.fields.read_struct.Goals as goal

pub returns-in_err-field : goal.returns-in_err-field
returns-in_err-field g c =
    let p = err_from_is_err_and c.from_residual.result c.from_residual.ensures.1 in
    rw (p.1, p.2)
    (passes_on c.loop-fields.reader.total c.args.reader.now.total (Item c.in_err-field.field-0.0) (field_at _ c.loop-fields.reader.rest) (whole_at g.F.Fields.take g.F.Fields.nothing g.F.Fields.whole c.args.reader.now.rest) c.loop-fields.invariant.1
    (λ error e. whole_at-Err g.F.Fields.take g.F.Fields.nothing g.F.Fields.whole c.args.reader.now.rest error (sym c.loop-fields.invariant.0 ∙ fields_at-head_Err g.F.Fields.take _ c.loop-fields.fields c.loop-fields.reader.rest error e))
    (c.in_err-field.ensures.0, c.in_err-field.ensures.1))

pub returns-in-None : goal.returns-in-None
returns-in-None g c =
    let head = rw c.in-None.is at c.in_ok-field.ensures.0 in
    let at_start : c.loop-fields.reader.total ≡ c.args.reader.now.total = c.loop-fields.invariant.1 in
    rw c.whole_or_bad.ensures
    (whole_at-stop g.F.Fields.take g.F.Fields.nothing g.F.Fields.whole c.loop-fields.fields c.args.reader.now c.field.new.self c.offset-offset.result
    (sym c.loop-fields.invariant.0 ∙ fields_at-stop g.F.Fields.take _ c.loop-fields.fields c.loop-fields.reader.rest c.field.new.self.rest head)
    (c.in_ok-field.ensures.1 ∙ at_start)
    (omega (arith, c.offset-offset.ensures.offset, at_start))
    (omega (arith, c.offset-offset.ensures.offset, c.offset-offset.ensures.within, at_start, field_at-stop _ _ _ head)))

pub returns-in_err-fields-in-Some : goal.returns-in_err-fields-in-Some
returns-in_err-fields-in-Some g c =
    let p = err_from_is_err_and c.from_residual-in_err-fields-in-Some.result c.from_residual-in_err-fields-in-Some.ensures.1 in
    let head = rw c.in-Some.is at c.in_ok-field.ensures.0 in
    let left : c.field.new.self.total - c.offset-offset.result ≡ length c.loop-fields.reader.rest = omega (arith, c.offset-offset.ensures.offset, c.offset-offset.ensures.within, c.in_ok-field.ensures.1) in
    let fits : SFits w16 c.in-Some.id = search rules in
    let failed = rw (to_z-of_z w16 c.in-Some.id fits, left) at c.in_err-fields-in-Some.ensures in
    rw (p.1, p.2)
    (passes_on c.field.new.self.total c.args.reader.now.total c.in_err-fields-in-Some.field-0.0 (g.F.Fields.take c.loop-fields.fields c.in-Some.id c.in-Some.kind (length c.loop-fields.reader.rest) c.field.new.self.rest) (whole_at g.F.Fields.take g.F.Fields.nothing g.F.Fields.whole c.args.reader.now.rest) (c.in_ok-field.ensures.1 ∙ c.loop-fields.invariant.1)
    (λ error e. whole_at-Err g.F.Fields.take g.F.Fields.nothing g.F.Fields.whole c.args.reader.now.rest error (sym c.loop-fields.invariant.0 ∙ fields_at-value_Err g.F.Fields.take _ c.loop-fields.fields c.loop-fields.reader.rest c.field.new.self.rest c.in-Some.id c.in-Some.kind error head e))
    failed)

pub loop-fields-smaller : goal.loop-fields-smaller
loop-fields-smaller g c =
    let head = rw c.in-Some.is at c.in_ok-field.ensures.0 in
    let less : length c.field.new.self.rest < length c.loop-fields.reader.rest = field_at-shorter _ _ _ _ head in
    let left : length c.field.new.self.rest ≤ c.field.new.self.total - c.offset-offset.result = omega (arith, c.offset-offset.ensures.offset, c.offset-offset.ensures.within, c.in_ok-field.ensures.1) in
    let h = subst (Within (c.field.new.self.total - c.offset-offset.result) (length c.field.new.self.rest)) c.in_ok-fields-in-Some.ensures.0 (g.met.F.Fields.stays _ _ c.in-Some.kind (c.field.new.self.total - c.offset-offset.result) c.field.new.self.rest left) in
    omega (arith, h)

pub loop-fields-preserved : goal.loop-fields-preserved
loop-fields-preserved g c =
    let head = rw c.in-Some.is at c.in_ok-field.ensures.0 in
    let left : c.field.new.self.total - c.offset-offset.result ≡ length c.loop-fields.reader.rest = omega (arith, c.offset-offset.ensures.offset, c.offset-offset.ensures.within, c.in_ok-field.ensures.1) in
    let fits : SFits w16 c.in-Some.id = search rules in
    let taken = rw (to_z-of_z w16 c.in-Some.id fits, left) at c.in_ok-fields-in-Some.ensures.0 in (
      rw (to_z-of_z w16 c.in-Some.id fits) (sym (fields_at-next g.F.Fields.take g.met.F.Fields.stays _ c.loop-fields.fields c.loop-fields.reader.rest c.field.new.self.rest c.in-Some.id c.in-Some.kind c.in_ok-fields-in-Some.fields c.with_field.new.reader.rest head taken) ∙ c.loop-fields.invariant.0),
      c.in_ok-fields-in-Some.ensures.1 ∙ c.in_ok-field.ensures.1 ∙ c.loop-fields.invariant.1,
    )
