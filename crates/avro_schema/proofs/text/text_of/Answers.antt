use Rattle.std.proofs.Common.{◌≡◌, ℕ, List, Some, ◌∙◌}
use Rattle.serde_json.specs.Read.{read}
use Rattle.table_forms.specs.JsonObjects.{json_of}
use Rattle.table_forms.proofs.JsonObjectLemmas.{json_of_text}
use Rattle.avro_schema.specs.AvroTypes.{type_of}
use Rattle.avro_schema.specs.SchemaTexts.{type_json, type_text}
use Rattle.avro_schema.proofs.TypesAgain.{type_no_float, type_in_again, named_by}
use Rattle.avro_schema.proofs.text.text_of.Goals as goal

pub returns-clause-text : goal.returns-clause-text
unfolding type_text
returns-clause-text c =
    let same = c.in_ok-value.ensures in
    c.from_vec.ensures ∙ rw same at (c.in_ok-to_vec.ensures.text (rw same (type_no_float (type_of c.args.schema.now))))

pub returns-clause-reads_back : goal.returns-clause-reads_back
returns-clause-reads_back c = λ json told.
    let again = type_in_again json (type_of c.args.schema.now) told in
    let same = c.in_ok-value.ensures in
    let bytes : List ℕ = c.in_ok-to_vec.field-0.items in
    let told_read : read bytes ≡ Some (type_json (type_of c.args.schema.now)) = rw same at (c.in_ok-to_vec.ensures.reads_back (rw same again.1)) in
    let read_again : json_of bytes ≡ Some (type_json (type_of c.args.schema.now)) = json_of_text bytes c.in_ok-to_vec.ensures.utf8 ∙ told_read in
    rw c.from_vec.ensures (named_by bytes (type_json (type_of c.args.schema.now)) read_again ∙ again.0)
