-- Fields of a schema, as lists.
use Rattle.std.proofs.Common.{◌≡◌, ◌≢◌, ℕ, Bool, not, is_none, List, [], ◌∷◌, map, length, Option, Some, None, option_map, slice_get, refl, sym, ap, ◌∙◌, rules}
use Rattle.std.proofs.lemmas.List.{length-map}
use Rattle.std.proofs.lemmas.Option.{slice_get-map}
use Rattle.std.specs.List.{position, prefix_len}
use Rattle.std.specs.Option.{option_map_or}
use Rattle.avro_schema.specs.declared.schema.Schema.{Schema, Record, the_lemmas}
use Rattle.avro_schema.specs.declared.schema.Field.{Field}
use Rattle.avro_schema.specs.AvroTypes.{AvroType, type_of, field_of, branches_of, fields_of, record_of}
use Rattle.table_props.specs.Flat.{branch_beside_null, listed, first_not_flat, fields_in, is_flat}
use Rattle.table_props.specs.PropsTexts.{field_name}

prefix_len-map : {A B : Type 0} (p : B → Bool) (f : A → B) (xs : List A) → prefix_len p (map f xs) ≡ prefix_len (λ x. p (f x)) xs
prefix_len-map p f [] = refl
prefix_len-map p f (x ∷ xs) = rw (prefix_len-map p f xs) refl

pub position-map : {A B : Type 0} (p : B → Bool) (f : A → B) (xs : List A) → position p (map f xs) ≡ position (λ x. p (f x)) xs
position-map p f xs = rw (prefix_len-map (λ y. not (p y)) f xs, length-map xs f) refl

pub listed_of : (fs : List (List ℕ × AvroType)) → listed (fields_of fs) ≡ fs
listed_of [] = refl
listed_of (f ∷ fs) = ap (λ (gs : List (List ℕ × AvroType)). f ∷ gs) (listed_of fs)

type_of_Record : (name : List ℕ) (fields : List Field) → type_of (Record name fields) ≡ record_of name (fields_of (map field_of fields))
type_of_Record name fields = search (rules, the_lemmas)

pub type_of_record : (schema : Schema) (name : List ℕ) (fields : List Field) → schema ≡ Record name fields → type_of schema ≡ record_of name (fields_of (map field_of fields))
type_of_record schema name fields is = ap type_of is ∙ type_of_Record name fields

pub fields_in_record : (schema : Schema) (name : List ℕ) (fields : List Field) → schema ≡ Record name fields → map field_of fields ≡ fields_in (type_of schema)
fields_in_record schema name fields is = sym (ap fields_in (type_of_record schema name fields is) ∙ listed_of (map field_of fields))

pub is_flat_record : (schema : Schema) (name : List ℕ) (fields : List Field) → schema ≡ Record name fields → is_flat (type_of schema) ≡ is_none (first_not_flat (map field_of fields))
is_flat_record schema name fields is =
    ap is_flat (type_of_record schema name fields is) ∙ ap (λ (fs : List (List ℕ × AvroType)). is_none (first_not_flat fs)) (listed_of (map field_of fields))

pub beside_others : (branches : List Schema) → length branches ≢ 2 → branch_beside_null (branches_of (map type_of branches)) ≡ None
beside_others [] other = refl
beside_others (a ∷ []) other = refl
beside_others (a ∷ b ∷ []) other = absurd (other refl)
beside_others (a ∷ b ∷ c ∷ more) other = refl

name_from : (o : Option Field) → option_map_or (λ (f : List ℕ × AvroType). f.0) (option_map field_of o) [] ≡ option_map_or (λ (f : Field). (field_of f).0) o []
name_from (Some f) = refl
name_from None = refl

-- the name of the field at a place of a record
pub field_name_at : (schema : Schema) (name : List ℕ) (fields : List Field) (place : ℕ) (o : Option Field) → schema ≡ Record name fields → o ≡ slice_get fields place
    → field_name (type_of schema) place ≡ option_map_or (λ (f : Field). (field_of f).0) o []
field_name_at schema name fields place o is found =
    ap (λ (fs : List (List ℕ × AvroType)). option_map_or (λ (f : List ℕ × AvroType). f.0) (slice_get fs place) []) (sym (fields_in_record schema name fields is))
    ∙ ap (λ (x : Option (List ℕ × AvroType)). option_map_or (λ (f : List ℕ × AvroType). f.0) x []) (slice_get-map field_of fields place)
    ∙ ap (λ (x : Option Field). option_map_or (λ (f : List ℕ × AvroType). f.0) (option_map field_of x) []) (sym found)
    ∙ name_from o
