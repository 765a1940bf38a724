-- The fields of a schema that JSON names have names.
use Rattle.std.proofs.Common.{◌≡◌, ℕ, suc, zero, ◌&&◌, Bool, true, not, List, [], ◌∷◌, ◌++◌, map, length, slice_get, Result, Ok, codes, refl, ap, subst, ◌∙◌}
use Rattle.std.specs.Prelude as list
use Rattle.std.specs.List.{list_all}
use Rattle.std.specs.Option.{option_map_or}
use Rattle.std.proofs.lemmas.List.Folds.{list_all-append}
use Rattle.serde_json.specs.Data.{Data, Items, no_items, item}
use Rattle.serde_json.specs.Find.{get}
use Rattle.table_forms.proofs.PieceLemmas.{lacks, and_parts, both}
use Rattle.avro_schema.specs.AvroTypes.{AvroType, null, boolean, int, long, bytes, string, fixed_of, enum_of, array_of, map_of, union_of, record_of, branches_of, fields_of}
use Rattle.avro_schema.specs.declared.schema_error.SchemaError.{SchemaError}
use Rattle.avro_schema.specs.Names.{is_name, is_among}
use Rattle.avro_schema.specs.Heads.{Head, leaf, array, union, record_head, ◌>>=◌, only_if, only_some, has_only, name_in}
use Rattle.avro_schema.specs.Heads as heads
use Rattle.avro_schema.specs.SchemaTexts.{at_position, field_head_after, inner_type, branches_from, field_after, fields_from, type_inside, head_within, type_within, type_in}
use Rattle.avro_schema.proofs.Steps.{bind_Ok, only_if_Ok, at_position_Ok, ok_of}
use Rattle.avro_schema.proofs.HeadsAgain.{IsHead, IsLeaf, head_of_is, name_in_is}
use Rattle.table_props.specs.Flat.{fields_in}
use Rattle.table_props.proofs.FieldLemmas.{listed_of}
use Rattle.table_props.proofs.FeedLemmas.{lacks-name}

abbrev pub has_name : List ℕ × AvroType → Bool
has_name f = is_name f.0

abbrev pub AreNamed : AvroType → Type 0
AreNamed schema = list_all has_name (fields_in schema) ≡ true

module _ (read : Data → Result Head SchemaError) (grow : Head → Result AvroType SchemaError) where
  field_named : (names : List (List ℕ)) (d : Data) (f : List ℕ × AvroType) → field_after read grow names d ≡ Ok f → has_name f ≡ true
  unfolding field_after field_head_after
  field_named names d f e =
      let head = bind_Ok (field_head_after names d) (λ head. inner_type read grow head.1 >>= λ type. Ok (head.0, type)) f e in
      let type = bind_Ok (inner_type read grow head.0.1) (λ type. Ok (head.0.0, type)) f head.2 in
      let same : (head.0.0, type.0) ≡ f = ok_of (head.0.0, type.0) f type.2 in
      let known : Bool = has_only (codes "name" ∷ codes "type" ∷ []) d in
      let name = bind_Ok (name_in d) (λ name. only_some (get (codes "type") d) >>= λ inner. only_if (not (is_among names name) && known) (name, inner)) head.0 head.1 in
      let inner = bind_Ok (only_some (get (codes "type") d)) (λ inner. only_if (not (is_among names name.0) && known) (name.0, inner)) head.0 name.2 in
      let passed = only_if_Ok (not (is_among names name.0) && known) (name.0, inner.0) head.0 inner.2 in
      let own : name.0 ≡ f.0 = ap (λ (p : List ℕ × Data). p.0) passed.1 ∙ ap (λ (p : List ℕ × AvroType). p.0) same in
      subst (λ (t : List ℕ). is_name t ≡ true) own (name_in_is d name.0 name.1)

  fields_named : (found : List (List ℕ × AvroType)) (ds : Items) (fs : List (List ℕ × AvroType)) → list_all has_name found ≡ true → fields_from read grow found ds ≡ Ok fs → list_all has_name fs ≡ true
  unfolding fields_from
  fields_named found no_items fs named e = subst (λ (all : List (List ℕ × AvroType)). list_all has_name all ≡ true) (ok_of found fs e) named
  fields_named found (item d ds) fs named e =
      let names = list.map (λ (f : List ℕ × AvroType). f.0) found in
      let first = bind_Ok (at_position (length found) (field_after read grow names d)) (λ next. fields_from read grow (found ++ next ∷ []) ds) fs e in
      let one = field_named names d first.0 (at_position_Ok (length found) (field_after read grow names d) first.0 first.1) in
      let more : list_all has_name (found ++ first.0 ∷ []) ≡ true = list_all-append has_name found (first.0 ∷ []) ∙ both (list_all has_name found) (list_all has_name (first.0 ∷ [])) named (both (has_name first.0) true one refl) in
      fields_named (found ++ first.0 ∷ []) ds fs more first.2

  leaf_named : (type : AvroType) → IsLeaf type → AreNamed type
  leaf_named null is = refl
  leaf_named boolean is = refl
  leaf_named int is = refl
  leaf_named long is = refl
  leaf_named bytes is = refl
  leaf_named string is = refl
  leaf_named (fixed_of name size) is = refl
  leaf_named (enum_of name symbols) is = refl
  leaf_named (array_of inner) is = refl
  leaf_named (map_of inner) is = refl
  leaf_named (union_of types) is = refl
  leaf_named (record_of name members) is = absurd is

  inside_named : (head : Head) (schema : AvroType) → IsHead head → type_inside read grow head ≡ Ok schema → AreNamed schema
  unfolding type_inside
  inside_named (leaf type) schema is e = subst AreNamed (ok_of type schema e) (leaf_named type is)
  inside_named (array d) schema is e =
      let inner = bind_Ok (at_position 0 (inner_type read grow d)) (λ inner. Ok (array_of inner)) schema e in
      subst AreNamed (ok_of (array_of inner.0) schema inner.2) refl
  inside_named (heads.map d) schema is e =
      let inner = bind_Ok (at_position 0 (inner_type read grow d)) (λ inner. Ok (map_of inner)) schema e in
      subst AreNamed (ok_of (map_of inner.0) schema inner.2) refl
  inside_named (union ds) schema is e =
      let types = bind_Ok (branches_from read grow [] ds) (λ types. Ok (union_of (branches_of types))) schema e in
      subst AreNamed (ok_of (union_of (branches_of types.0)) schema types.2) refl
  inside_named (record_head name ds) schema is e =
      let fs = bind_Ok (fields_from read grow [] ds) (λ found. Ok (record_of name (fields_of found))) schema e in
      let named : list_all has_name (fields_in (record_of name (fields_of fs.0))) ≡ true = ap (list_all has_name) (listed_of fs.0) ∙ fields_named [] ds fs.0 refl fs.1 in
      subst AreNamed (ok_of (record_of name (fields_of fs.0)) schema fs.2) named

head_read : (n : ℕ) (d : Data) (head : Head) → head_within n d ≡ Ok head → IsHead head
unfolding head_within
head_read zero d head e = absurd cc
head_read (suc n) d head e = head_of_is d head e

level_named : (n : ℕ) (head : Head) (schema : AvroType) → IsHead head → type_within n head ≡ Ok schema → AreNamed schema
unfolding type_within
level_named zero head schema is e = absurd cc
level_named (suc n) head schema is e = inside_named (head_within n) (type_within n) head schema is e

pub schema_named : (json : Data) (schema : AvroType) → type_in json ≡ Ok schema → AreNamed schema
unfolding type_in
schema_named json schema e =
    let head = bind_Ok (head_within 32 json) (type_within 32) schema e in
    level_named 32 head.0 schema (head_read 32 json head.0 head.1) head.2

-- the name of the field at a place, or no bytes
pub lacks-field_at : (fields : List (List ℕ × AvroType)) (place : ℕ) → list_all has_name fields ≡ true → lacks 10 (option_map_or (λ (f : List ℕ × AvroType). f.0) (slice_get fields place) []) ≡ true
lacks-field_at [] place named = refl
lacks-field_at (f ∷ fs) zero named = lacks-name f.0 (and_parts (has_name f) (list_all has_name fs) named).0
lacks-field_at (f ∷ fs) (suc place) named = lacks-field_at fs place (and_parts (has_name f) (list_all has_name fs) named).1
