use Rattle.std.proofs.Common.{◌≡◌, List, ap, sym, ◌∙◌, ◌++◌, ◌∷◌, [], pos}
use Rattle.parquet_meta.specs.Written.{Field, optional_field, binary_bytes, converted_type}
use Rattle.parquet_meta.specs.Writers.{with_fields}
use Rattle.parquet_meta.proofs.WritingLemmas.{OnOk-then, struct_item, with_fields-five}
use Rattle.parquet_meta.proofs.element.ElementPutItem.put.Goals as goal

pub returns : goal.returns
returns c =
    let e = c.args.self.now in
    let physical : List Field = optional_field (pos 1) e.physical in
    let repetition : List Field = optional_field (pos 3) e.repetition in
    let name : List Field = (record { id = pos 4; kind = 8; value = binary_bytes e.name }) ∷ [] in
    let children : List Field = optional_field (pos 5) e.children in
    let converted : List Field = optional_field (pos 6) (converted_type e.utf8) in
    let named : c.field_binary.new.self ≡ with_fields name c.put_optional-2.new.writer = rw c.as_slice.ensures at c.in_ok-field_binary.ensures.ok in
    let last : c.put_optional-4.new.writer ≡ with_fields converted c.put_optional-3.new.writer = rw c.converted_type.ensures at c.in_ok-put_optional-4.ensures.written in
    let steps =
    last ∙ ap (with_fields converted) (c.in_ok-put_optional-3.ensures.written ∙ ap (with_fields children) (named ∙ ap (with_fields name)
    (c.in_ok-put_optional-2.ensures.written ∙ ap (with_fields repetition) (c.in_ok-put_optional.ensures.written ∙ ap (with_fields physical) c.in_ok-item_struct.ensures.ok)))) in
    OnOk-then c.stop.result _ _ c.stop.ensures.ok
    (λ stop. stop ∙ struct_item (physical ++ repetition ++ name ++ children ++ converted) c.args.writer.now c.put_optional-4.new.writer (steps ∙ sym (with_fields-five physical repetition name children converted _)))
