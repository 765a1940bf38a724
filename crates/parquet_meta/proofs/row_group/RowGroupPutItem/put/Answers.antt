use Rattle.std.proofs.Common.{◌≡◌, rules, ap, ◌∙◌, ◌∷◌, [], pos}
use Rattle.std.proofs.lemmas.Int.{to_z-of_z}
use mir.Val.{SFits}
use mir.Syntax.{w64}
use Rattle.parquet_meta.specs.Written.{i64_field, list_bytes, chunk_bytes}
use Rattle.parquet_meta.specs.Writers.{with_field}
use Rattle.parquet_meta.proofs.WritingLemmas.{OnOk-then, struct_item}
use Rattle.parquet_meta.proofs.row_group.RowGroupPutItem.put.Goals as goal

pub returns : goal.returns
returns c =
    let e1 : c.put_list.new.writer ≡ with_field (record { id = pos 1; kind = 9; value = list_bytes 12 chunk_bytes c.args.self.now.columns }) c.item_struct.new.self = rw c.as_slice.ensures at c.in_ok-put_list.ensures in
    let e2 : c.field_i64.new.self ≡ with_field (i64_field (pos 2) c.args.self.now.total_size) c.put_list.new.writer = (let fits : SFits w64 c.args.self.now.total_size = search rules in rw (to_z-of_z w64 c.args.self.now.total_size fits) at c.in_ok-field_i64.ensures.ok) in
    let e3 : c.field_i64-2.new.self ≡ with_field (i64_field (pos 3) c.args.self.now.num_rows) c.field_i64.new.self = (let fits : SFits w64 c.args.self.now.num_rows = search rules in rw (to_z-of_z w64 c.args.self.now.num_rows fits) at c.in_ok-field_i64-2.ensures.ok) in
    OnOk-then c.stop.result _ _ c.stop.ensures.ok (λ e. e ∙ struct_item ((record { id = pos 1; kind = 9; value = list_bytes 12 chunk_bytes c.args.self.now.columns }) ∷ (i64_field (pos 2) c.args.self.now.total_size) ∷ (i64_field (pos 3) c.args.self.now.num_rows) ∷ []) c.args.writer.now c.field_i64-2.new.self (e3 ∙ ap (with_field (i64_field (pos 3) c.args.self.now.num_rows)) (e2 ∙ ap (with_field (i64_field (pos 2) c.args.self.now.total_size)) (e1 ∙ ap (with_field (record { id = pos 1; kind = 9; value = list_bytes 12 chunk_bytes c.args.self.now.columns })) c.in_ok-item_struct.ensures.ok))))
