use Rattle.std.proofs.Common.{◌≡◌, rules, ap, ◌∙◌, ◌∷◌, [], pos}
use Rattle.std.proofs.lemmas.Int.{to_z-of_z}
use mir.Val.{SFits}
use mir.Syntax.{w32}
use Rattle.parquet_meta.specs.Written.{i32_field}
use Rattle.parquet_meta.specs.Writers.{with_field}
use Rattle.parquet_meta.proofs.WritingLemmas.{OnOk-then, struct_field}
use Rattle.parquet_meta.proofs.page_header.put_data_page.Goals as goal

pub returns : goal.returns
returns c =
    let e1 : c.field_i32.new.self ≡ with_field (i32_field (pos 1) c.args.header.now.values) c.field_struct.new.self = (let fits : SFits w32 c.args.header.now.values = search rules in rw (to_z-of_z w32 c.args.header.now.values fits) at c.in_ok-field_i32.ensures.ok) in
    let e2 : c.field_i32-2.new.self ≡ with_field (i32_field (pos 2) c.args.header.now.encoding) c.field_i32.new.self = (let fits : SFits w32 c.args.header.now.encoding = search rules in rw (to_z-of_z w32 c.args.header.now.encoding fits) at c.in_ok-field_i32-2.ensures.ok) in
    let e3 : c.field_i32-3.new.self ≡ with_field (i32_field (pos 3) c.args.header.now.def_encoding) c.field_i32-2.new.self = (let fits : SFits w32 c.args.header.now.def_encoding = search rules in rw (to_z-of_z w32 c.args.header.now.def_encoding fits) at c.in_ok-field_i32-3.ensures.ok) in
    let e4 : c.field_i32-4.new.self ≡ with_field (i32_field (pos 4) c.args.header.now.rep_encoding) c.field_i32-3.new.self = (let fits : SFits w32 c.args.header.now.rep_encoding = search rules in rw (to_z-of_z w32 c.args.header.now.rep_encoding fits) at c.in_ok-field_i32-4.ensures.ok) in
    OnOk-then c.stop.result _ _ c.stop.ensures.ok (λ e. e ∙ struct_field (pos 5) ((i32_field (pos 1) c.args.header.now.values) ∷ (i32_field (pos 2) c.args.header.now.encoding) ∷ (i32_field (pos 3) c.args.header.now.def_encoding) ∷ (i32_field (pos 4) c.args.header.now.rep_encoding) ∷ []) c.args.writer.now c.field_i32-4.new.self (e4 ∙ ap (with_field (i32_field (pos 4) c.args.header.now.rep_encoding)) (e3 ∙ ap (with_field (i32_field (pos 3) c.args.header.now.def_encoding)) (e2 ∙ ap (with_field (i32_field (pos 2) c.args.header.now.encoding)) (e1 ∙ ap (with_field (i32_field (pos 1) c.args.header.now.values)) c.in_ok-field_struct.ensures.ok)))))
