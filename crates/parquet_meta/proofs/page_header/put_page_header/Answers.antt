use Rattle.std.proofs.Common.{◌≡◌, rules, ap, ◌∙◌, ◌∷◌, [], pos}
use Rattle.std.proofs.lemmas.Int.{to_z-of_z}
use mir.Val.{SFits}
use mir.Syntax.{w32}
use Rattle.parquet_meta.specs.Written.{i32_field, data_page_bytes}
use Rattle.parquet_meta.specs.Writers.{with_field}
use Rattle.parquet_meta.proofs.WritingLemmas.{OnOk-then, outer_struct}
use Rattle.parquet_meta.proofs.page_header.put_page_header.Goals as goal

pub returns : goal.returns
returns c =
    let e1 : c.field_i32.new.self ≡ with_field (i32_field (pos 1) c.args.header.now.kind) c.args.writer.now = (let fits : SFits w32 c.args.header.now.kind = search rules in rw (to_z-of_z w32 c.args.header.now.kind fits) at c.in_ok-field_i32.ensures.ok) in
    let e2 : c.field_i32-2.new.self ≡ with_field (i32_field (pos 2) c.args.header.now.uncompressed) c.field_i32.new.self = (let fits : SFits w32 c.args.header.now.uncompressed = search rules in rw (to_z-of_z w32 c.args.header.now.uncompressed fits) at c.in_ok-field_i32-2.ensures.ok) in
    let e3 : c.field_i32-3.new.self ≡ with_field (i32_field (pos 3) c.args.header.now.compressed) c.field_i32-2.new.self = (let fits : SFits w32 c.args.header.now.compressed = search rules in rw (to_z-of_z w32 c.args.header.now.compressed fits) at c.in_ok-field_i32-3.ensures.ok) in
    let e4 : c.put_data_page.new.writer ≡ with_field (record { id = pos 5; kind = 12; value = data_page_bytes c.args.header.now }) c.field_i32-3.new.self = c.in_ok-put_data_page.ensures in
    OnOk-then c.stop.result _ _ c.stop.ensures.ok (λ e. e ∙ outer_struct ((i32_field (pos 1) c.args.header.now.kind) ∷ (i32_field (pos 2) c.args.header.now.uncompressed) ∷ (i32_field (pos 3) c.args.header.now.compressed) ∷ (record { id = pos 5; kind = 12; value = data_page_bytes c.args.header.now }) ∷ []) c.put_data_page.new.writer (e4 ∙ ap (with_field (record { id = pos 5; kind = 12; value = data_page_bytes c.args.header.now })) (e3 ∙ ap (with_field (i32_field (pos 3) c.args.header.now.compressed)) (e2 ∙ ap (with_field (i32_field (pos 2) c.args.header.now.uncompressed)) (e1 ∙ ap (with_field (i32_field (pos 1) c.args.header.now.kind)) c.requires)))))
