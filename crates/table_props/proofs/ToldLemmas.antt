-- What lines tell, none of which is refused.
use Rattle.std.proofs.Common.{◌≡◌, ℕ, ◌<◌, Bool, true, false, cond, nat_lt, List, [], length, get_or, Option, Some, None, IfSome, option_map, slice_get, Result, Ok, Err, refl, sym, ap, subst, ◌∙◌, arith}
use Rattle.std.specs.List.{position_or_len}
use Rattle.std.specs.Option.{option_map_or}
use Rattle.std.specs.Str.{bytes_eq}
use Rattle.std.proofs.lemmas.Bool.Decides.{nat_tests}
use Rattle.std.proofs.lemmas.List.Sums.{passes_at_first}
use Rattle.std.proofs.lemmas.Option.{slice_get-get_or}
use Rattle.avro_schema.specs.AvroTypes.{AvroType, string}
use Rattle.avro_schema.specs.SchemaTexts.{type_named}
use Rattle.avro_schema.proofs.TypesAgain.{named_json}
use Rattle.table_props.specs.Flat.{fields_in, is_flat, is_rank_type, is_string_type}
use Rattle.table_props.specs.PropsTexts.{Entries, Places, Told, IsTold, HasField, entries_in, places_in, told_in, first_bad, named_place, has_type, place_of, ordering_place, only_if, ok_of, field_name, read_lines, read_props, lines_of, Answers}
use Rattle.table_props.specs.declared.props.Props.{Props}
use Rattle.table_props.specs.declared.props.PropsError.{PropsError}
use Rattle.table_props.proofs.EntryLemmas.{bind_Some, same_bytes, some_is, name_allowed, buckets_allowed}

pub only_if_Some : {A : Type 0} (test : Bool) (o : Option A) (y : A) → only_if test o ≡ Some y → (test ≡ true) × (o ≡ Some y)
only_if_Some true o y e = (refl, e)
only_if_Some false o y e = absurd cc

pub ok_of_Some : {A E : Type 0} (r : Result A E) (x : A) → ok_of r ≡ Some x → r ≡ Ok x
ok_of_Some (Ok y) x e = ap Ok (some_is y x e)
ok_of_Some (Err error) x e = absurd cc

-- ---- fields

found_below : (n len place : ℕ) (b : Bool) → nat_lt n len ≡ b → cond b (Some n) None ≡ Some place → (n ≡ place) × (n < len)
found_below n len place true e is = (some_is n place is, grind (arith, nat_tests))
found_below n len place false e is = absurd cc

-- the field at the place has the name
named_there : (name : List ℕ) (fields : List (List ℕ × AvroType)) (place : ℕ) → named_place name fields ≡ Some place → option_map_or (λ (f : List ℕ × AvroType). f.0) (slice_get fields place) [] ≡ name
named_there name fields place is =
    let test = λ (f : List ℕ × AvroType). bytes_eq f.0 name in
    let at = found_below (position_or_len test fields) (length fields) place (nat_lt (position_or_len test fields) (length fields)) refl is in
    let none : List ℕ × AvroType = ([], string) in
    let passes = passes_at_first test fields none at.1 in
    let same : (get_or fields (position_or_len test fields) none).0 ≡ name = same_bytes _ name passes in
    subst (λ (i : ℕ). option_map_or (λ (f : List ℕ × AvroType). f.0) (slice_get fields i) [] ≡ name) at.0
    (ap (λ (o : Option (List ℕ × AvroType)). option_map_or (λ (f : List ℕ × AvroType). f.0) o []) (slice_get-get_or fields (position_or_len test fields) none at.1) ∙ same)

pub has_field : (schema : AvroType) (test : AvroType → Bool) (name : List ℕ) (place : ℕ) → place_of test name (fields_in schema) ≡ Some place → HasField schema test place
has_field schema test name place is =
    let found = bind_Some (named_place name (fields_in schema)) (λ i. only_if (has_type test (slice_get (fields_in schema) i)) (Some i)) place is in
    let passed = only_if_Some (has_type test (slice_get (fields_in schema) found.0)) (Some found.0) place found.2 in
    let same : found.0 ≡ place = some_is found.0 place passed.1 in
    let own : field_name schema place ≡ name = named_there name (fields_in schema) place (found.1 ∙ ap Some same) in
    subst (λ (n : List ℕ). place_of test n (fields_in schema) ≡ Some place) (sym own) is

pub ordering_told : (schema : AvroType) (name : Option (List ℕ)) (place : Option ℕ) → ordering_place name (fields_in schema) ≡ Some place → IfSome place (HasField schema is_rank_type)
ordering_told schema None place is = subst (λ (o : Option ℕ). IfSome o (HasField schema is_rank_type)) (some_is None place is) tt
ordering_told schema (Some name) place is = of_place (place_of is_rank_type name (fields_in schema)) refl is
  where
    of_place : (o : Option ℕ) → place_of is_rank_type name (fields_in schema) ≡ o → option_map Some o ≡ Some place → IfSome place (HasField schema is_rank_type)
    of_place None e told = absurd cc
    of_place (Some i) e told = subst (λ (o : Option ℕ). IfSome o (HasField schema is_rank_type)) (some_is (Some i) place told) (has_field schema is_rank_type name i e)

record HasPlaces (e : Entries) (schema : AvroType) (p : Places) : Type 0 where
  flat : is_flat schema ≡ true
  key : HasField schema is_string_type p.key
  partition : HasField schema is_string_type p.partition
  ordering : IfSome p.ordering (HasField schema is_rank_type)

places_parts : (e : Entries) (schema : AvroType) (p : Places) → places_in e schema ≡ Some p → HasPlaces e schema p
unfolding places_in
places_parts e schema p is =
    let passed = only_if_Some (is_flat schema) _ p is in
    let key = bind_Some (place_of is_string_type e.key_field (fields_in schema)) _ p passed.1 in
    let partition = bind_Some (place_of is_string_type e.partition_field (fields_in schema)) _ p key.2 in
    let ordering = bind_Some (ordering_place e.ordering_field (fields_in schema)) _ p partition.2 in
    let own : record { key = key.0; partition = partition.0; ordering = ordering.0 } ≡ p = some_is _ p ordering.2 in record {
      flat = passed.0;
      key = subst (λ (x : Places). HasField schema is_string_type x.key) own (has_field schema is_string_type e.key_field key.0 key.1);
      partition = subst (λ (x : Places). HasField schema is_string_type x.partition) own (has_field schema is_string_type e.partition_field partition.0 partition.1);
      ordering = subst (λ (x : Places). IfSome x.ordering (HasField schema is_rank_type)) own (ordering_told schema e.ordering_field ordering.0 ordering.1);
    }

-- ---- all lines together

pub is_told : (lines : List (List ℕ)) (told : Told) → first_bad [] lines ≡ None → told_in lines ≡ Some told → IsTold told
unfolding told_in
is_told lines told none is =
    let e = bind_Some (entries_in lines) _ told is in
    let schema = bind_Some (ok_of (type_named e.0.schema)) _ told e.2 in
    let p = bind_Some (places_in e.0 schema.0) _ told schema.2 in
    let has = places_parts e.0 schema.0 p.0 p.1 in
    let own : record { name = e.0.name; schema = schema.0; key = p.0.key; partition = p.0.partition; ordering = p.0.ordering; buckets = e.0.buckets } ≡ told = some_is _ told p.2 in
    subst IsTold own (
    record {
      name = name_allowed lines e.0 none e.1;
      buckets = buckets_allowed lines e.0 none e.1;
      schema = named_json e.0.schema schema.0 (ok_of_Some (type_named e.0.schema) schema.0 schema.1);
      flat = has.flat;
      key = has.key;
      partition = has.partition;
      ordering = has.ordering;
    }
    )

-- ---- texts

pub read_by_lines : (text : List ℕ) (lines : List (List ℕ)) (bad : Option ℕ) → lines ≡ lines_of text → first_bad [] lines ≡ bad → read_props text ≡ read_lines lines bad
unfolding read_props
read_by_lines text lines bad same first = ap (λ (ls : List (List ℕ)). read_lines ls (first_bad [] ls)) (sym same) ∙ ap (read_lines lines) first

pub answers_same : (answer : Result Props PropsError) (read told : Result Told ℕ) → read ≡ told → Answers answer read → Answers answer told
answers_same answer read told same answers = subst (Answers answer) same answers
