use Rattle.std.proofs.Common.{◌≡◌, rules, ap, ◌∙◌, ◌∷◌, [], pos}
use Rattle.std.proofs.lemmas.Int.{to_z-of_z}
use mir.Val.{SFits}
use mir.Syntax.{w32, w64}
use Rattle.parquet_meta.specs.Written.{i32_field, i64_field, list_bytes, number_bytes, binary_bytes}
use Rattle.parquet_meta.specs.Writers.{with_field}
use Rattle.parquet_meta.proofs.WritingLemmas.{OnOk-then, struct_field}
use Rattle.parquet_meta.proofs.chunk.put_column_meta.Goals as goal

pub returns : goal.returns
returns c =
    let e1 : c.field_i32.new.self ≡ with_field (i32_field (pos 1) c.args.chunk.now.physical) c.field_struct.new.self = (let fits : SFits w32 c.args.chunk.now.physical = search rules in rw (to_z-of_z w32 c.args.chunk.now.physical fits) at c.in_ok-field_i32.ensures.ok) in
    let e2 : c.put_list.new.writer ≡ with_field (record { id = pos 2; kind = 9; value = list_bytes 5 number_bytes c.args.chunk.now.encodings }) c.field_i32.new.self = rw c.as_slice.ensures at c.in_ok-put_list.ensures in
    let e3 : c.put_list-2.new.writer ≡ with_field (record { id = pos 3; kind = 9; value = list_bytes 8 binary_bytes c.args.chunk.now.path }) c.put_list.new.writer = rw c.as_slice-2.ensures at c.in_ok-put_list-2.ensures in
    let e4 : c.field_i32-2.new.self ≡ with_field (i32_field (pos 4) c.args.chunk.now.codec) c.put_list-2.new.writer = (let fits : SFits w32 c.args.chunk.now.codec = search rules in rw (to_z-of_z w32 c.args.chunk.now.codec fits) at c.in_ok-field_i32-2.ensures.ok) in
    let e5 : c.field_i64.new.self ≡ with_field (i64_field (pos 5) c.args.chunk.now.num_values) c.field_i32-2.new.self = (let fits : SFits w64 c.args.chunk.now.num_values = search rules in rw (to_z-of_z w64 c.args.chunk.now.num_values fits) at c.in_ok-field_i64.ensures.ok) in
    let e6 : c.field_i64-2.new.self ≡ with_field (i64_field (pos 6) c.args.chunk.now.uncompressed) c.field_i64.new.self = (let fits : SFits w64 c.args.chunk.now.uncompressed = search rules in rw (to_z-of_z w64 c.args.chunk.now.uncompressed fits) at c.in_ok-field_i64-2.ensures.ok) in
    let e7 : c.field_i64-3.new.self ≡ with_field (i64_field (pos 7) c.args.chunk.now.compressed) c.field_i64-2.new.self = (let fits : SFits w64 c.args.chunk.now.compressed = search rules in rw (to_z-of_z w64 c.args.chunk.now.compressed fits) at c.in_ok-field_i64-3.ensures.ok) in
    let e8 : c.field_i64-4.new.self ≡ with_field (i64_field (pos 9) c.args.chunk.now.data_offset) c.field_i64-3.new.self = (let fits : SFits w64 c.args.chunk.now.data_offset = search rules in rw (to_z-of_z w64 c.args.chunk.now.data_offset fits) at c.in_ok-field_i64-4.ensures.ok) in
    OnOk-then c.stop.result _ _ c.stop.ensures.ok (λ e. e ∙ struct_field (pos 3) ((i32_field (pos 1) c.args.chunk.now.physical) ∷ (record { id = pos 2; kind = 9; value = list_bytes 5 number_bytes c.args.chunk.now.encodings }) ∷ (record { id = pos 3; kind = 9; value = list_bytes 8 binary_bytes c.args.chunk.now.path }) ∷ (i32_field (pos 4) c.args.chunk.now.codec) ∷ (i64_field (pos 5) c.args.chunk.now.num_values) ∷ (i64_field (pos 6) c.args.chunk.now.uncompressed) ∷ (i64_field (pos 7) c.args.chunk.now.compressed) ∷ (i64_field (pos 9) c.args.chunk.now.data_offset) ∷ []) c.args.writer.now c.field_i64-4.new.self (e8 ∙ ap (with_field (i64_field (pos 9) c.args.chunk.now.data_offset)) (e7 ∙ ap (with_field (i64_field (pos 7) c.args.chunk.now.compressed)) (e6 ∙ ap (with_field (i64_field (pos 6) c.args.chunk.now.uncompressed)) (e5 ∙ ap (with_field (i64_field (pos 5) c.args.chunk.now.num_values)) (e4 ∙ ap (with_field (i32_field (pos 4) c.args.chunk.now.codec)) (e3 ∙ ap (with_field (record { id = pos 3; kind = 9; value = list_bytes 8 binary_bytes c.args.chunk.now.path })) (e2 ∙ ap (with_field (record { id = pos 2; kind = 9; value = list_bytes 5 number_bytes c.args.chunk.now.encodings })) (e1 ∙ ap (with_field (i32_field (pos 1) c.args.chunk.now.physical)) c.in_ok-field_struct.ensures.ok)))))))))
