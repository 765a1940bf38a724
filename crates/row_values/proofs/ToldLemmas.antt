-- Properties that some text says have fields of their types.
use Rattle.std.proofs.Common.{◌≡◌, ℕ, Bool, true, false, List, Option, Some, None, IsTrue, refl, sym, ◌∙◌, subst}
use Rattle.std.proofs.lemmas.Bool.{false≢true}
use Rattle.std.specs.Prelude.{option_map, option_and_then, unwrap_or, slice_get, IfSome}
use Rattle.avro_schema.specs.AvroTypes.{AvroType, record_of, type_of}
use Rattle.table_props.specs.declared.props.Props.{Props}
use Rattle.table_props.specs.Flat.{is_flat, is_string_type, is_rank_type, fields_in}
use Rattle.table_props.specs.PropsTexts.{HasField, IsTold, told_of, named_place, field_name, only_if}
use Rattle.table_props.specs.PropsTexts as props_texts
use Rattle.row_values.specs.Layouts.{is_record, has_type, has_rank_type, has_typed_places}

flat_record : (t : AvroType) → IsTrue (is_flat t) → is_record t ≡ true
flat_record (record_of _ _) flat = refl
flat_record _ flat = absurd (false≢true flat)

same_test : (test : AvroType → Bool) (o : Option (List ℕ × AvroType)) → props_texts.has_type test o ≡ unwrap_or (option_map (λ (f : List ℕ × AvroType). test f.1) o) false
same_test test (Some f) = refl
same_test test None = refl

passes : (test : AvroType → Bool) (fields : List (List ℕ × AvroType)) (p place : ℕ) (b : Bool) → props_texts.has_type test (slice_get fields p) ≡ b → only_if b (Some p) ≡ Some place
    → props_texts.has_type test (slice_get fields place) ≡ true
passes test fields p place true is found =
    let same : p ≡ place = cc in
    subst (λ (q : ℕ). props_texts.has_type test (slice_get fields q) ≡ true) same is
passes test fields p place false is found = absurd cc

at_place : (test : AvroType → Bool) (fields : List (List ℕ × AvroType)) (place : ℕ) (o : Option ℕ) → option_and_then (λ p. only_if (props_texts.has_type test (slice_get fields p)) (Some p)) o ≡ Some place
    → props_texts.has_type test (slice_get fields place) ≡ true
at_place test fields place (Some p) found = passes test fields p place (props_texts.has_type test (slice_get fields p)) refl found
at_place test fields place None found = absurd cc

typed : (test : AvroType → Bool) (place : ℕ) (type : AvroType) → HasField type test place → has_type test place type ≡ true
typed test place type found =
    sym (same_test test (slice_get (fields_in type) place)) ∙ at_place test (fields_in type) place (named_place (field_name type place) (fields_in type)) found

typed_rank : (ordering : Option ℕ) (type : AvroType) → IfSome ordering (HasField type is_rank_type) → has_rank_type ordering type ≡ true
typed_rank None type found = refl
typed_rank (Some place) type found = typed is_rank_type place type found

pub told_places : (props : Props) → IsTold (told_of props) → has_typed_places props ≡ true
told_places props told =
    let type = type_of props.schema in
    rw (flat_record type told.flat, typed is_string_type props.key type told.key, typed is_string_type props.partition type told.partition, typed_rank props.ordering type told.ordering) refl
