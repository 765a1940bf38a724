use Rattle.std.proofs.Common.{◌≡◌, rules, ap, ◌∙◌, ◌∷◌, [], pos}
use Rattle.std.proofs.lemmas.Int.{to_z-of_z}
use mir.Val.{SFits}
use mir.Syntax.{w32, w64}
use Rattle.std.specs.Prelude.{codes}
use Rattle.parquet_meta.specs.Written.{i32_field, i64_field, list_bytes, binary_bytes, element_bytes, row_group_bytes}
use Rattle.parquet_meta.specs.Writers.{with_field}
use Rattle.parquet_meta.proofs.WritingLemmas.{OnOk-then, outer_struct}
use Rattle.parquet_meta.proofs.file_meta.put_meta.Goals as goal

pub returns : goal.returns
returns c =
    let e1 : c.field_i32.new.self ≡ with_field (i32_field (pos 1) c.args.meta.now.version) c.args.writer.now = (let fits : SFits w32 c.args.meta.now.version = search rules in rw (to_z-of_z w32 c.args.meta.now.version fits) at c.in_ok-field_i32.ensures.ok) in
    let e2 : c.put_list.new.writer ≡ with_field (record { id = pos 2; kind = 9; value = list_bytes 12 element_bytes c.args.meta.now.schema }) c.field_i32.new.self = rw c.as_slice.ensures at c.in_ok-put_list.ensures in
    let e3 : c.field_i64.new.self ≡ with_field (i64_field (pos 3) c.args.meta.now.num_rows) c.put_list.new.writer = (let fits : SFits w64 c.args.meta.now.num_rows = search rules in rw (to_z-of_z w64 c.args.meta.now.num_rows fits) at c.in_ok-field_i64.ensures.ok) in
    let e4 : c.put_list-2.new.writer ≡ with_field (record { id = pos 4; kind = 9; value = list_bytes 12 row_group_bytes c.args.meta.now.groups }) c.field_i64.new.self = rw c.as_slice-2.ensures at c.in_ok-put_list-2.ensures in
    let e5 : c.field_binary.new.self ≡ with_field (record { id = pos 6; kind = 8; value = binary_bytes (codes "hudi profile") }) c.put_list-2.new.writer = c.in_ok-field_binary.ensures.ok in
    OnOk-then c.stop.result _ _ c.stop.ensures.ok (λ e. e ∙ outer_struct ((i32_field (pos 1) c.args.meta.now.version) ∷ (record { id = pos 2; kind = 9; value = list_bytes 12 element_bytes c.args.meta.now.schema }) ∷ (i64_field (pos 3) c.args.meta.now.num_rows) ∷ (record { id = pos 4; kind = 9; value = list_bytes 12 row_group_bytes c.args.meta.now.groups }) ∷ (record { id = pos 6; kind = 8; value = binary_bytes (codes "hudi profile") }) ∷ []) c.field_binary.new.self (e5 ∙ ap (with_field (record { id = pos 6; kind = 8; value = binary_bytes (codes "hudi profile") })) (e4 ∙ ap (with_field (record { id = pos 4; kind = 9; value = list_bytes 12 row_group_bytes c.args.meta.now.groups })) (e3 ∙ ap (with_field (i64_field (pos 3) c.args.meta.now.num_rows)) (e2 ∙ ap (with_field (record { id = pos 2; kind = 9; value = list_bytes 12 element_bytes c.args.meta.now.schema })) (e1 ∙ ap (with_field (i32_field (pos 1) c.args.meta.now.version)) c.requires.start))))))
