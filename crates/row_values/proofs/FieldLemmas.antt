-- Fields of flat schemas and their types.
use Rattle.std.proofs.Common.{◌≡◌, ◌≢◌, [], ◌∷◌, ℕ, ◌<◌, ◌≤◌, ltb, Bool, true, false, not, ◌&&◌, List, map, length, get_or, Option, Some, None, option_map, unwrap_or, slice_get, ◌⊎◌, inl, inr, Err, refl, sym, ap, subst, ◌∙◌, arith}
use Rattle.std.specs.List.{position, position_or_len}
use Rattle.std.proofs.lemmas.Bool.{and_parts, not-false, ltb-false}
use Rattle.std.proofs.lemmas.List.{length-map, get_or-map}
use Rattle.std.proofs.lemmas.List.Sums.{fails_before_first}
use Rattle.std.proofs.lemmas.Option.{slice_get-map}
use Rattle.avro_schema.specs.declared.schema.Field.{Field}
use Rattle.avro_schema.specs.declared.schema.Schema.{Schema}
use Rattle.avro_schema.specs.AvroTypes.{AvroType, type_of, field_of, fields_of, branches_of, union_of, record_of}
use Rattle.table_props.proofs.FieldLemmas.{beside_others, listed_of}
use Rattle.table_props.specs.Flat.{is_cell_type, is_null_type, is_flat_type, is_flat_field, is_own_name, is_string_type, is_rank_type, first_not_flat, fields_in}
use Rattle.row_values.specs.declared.flat_field.CellType.{CellType}
use Rattle.row_values.specs.declared.flat_field.CellType.TheVariants.{Boolean, Int, Long, Bytes, Text}
use Rattle.row_values.specs.declared.flat_field.FlatField.{FlatField}
use Rattle.row_values.specs.Fields.{cell_type, type_if_nullable, field_type, typed_field, is_text_cell, is_number_cell, is_text_field, is_rank_field, has_field, has_ordering, has_places}
use Rattle.table_props.specs.declared.props.Props.{Props}
use Rattle.payload_merge.specs.declared.row_error.RowError.{RowError}
use Rattle.payload_merge.specs.declared.row_error.RowError.TheVariants.{Memory, NotFlat}
use Rattle.row_values.specs.Layouts.{AnswersLayout, has_type, has_rank_type}

-- ---- tests of types

pub string_case : (n : Bool) (c : CellType) → is_string_type (type_if_nullable n (cell_type c)) ≡ (is_text_cell c && not n)
string_case true Boolean = refl
string_case true Int = refl
string_case true Long = refl
string_case true Bytes = refl
string_case true Text = refl
string_case false Boolean = refl
string_case false Int = refl
string_case false Long = refl
string_case false Bytes = refl
string_case false Text = refl

pub rank_case : (n : Bool) (c : CellType) → is_rank_type (type_if_nullable n (cell_type c)) ≡ is_number_cell c
rank_case true Boolean = refl
rank_case true Int = refl
rank_case true Long = refl
rank_case true Bytes = refl
rank_case true Text = refl
rank_case false Boolean = refl
rank_case false Int = refl
rank_case false Long = refl
rank_case false Bytes = refl
rank_case false Text = refl

-- ---- places

module _ (test : AvroType → Bool) (own_test : FlatField → Bool) (agree : (f : FlatField) → test (field_type f) ≡ own_test f) where
  tested : (o : Option FlatField) → unwrap_or (option_map (λ (f : List ℕ × AvroType). test f.1) (option_map typed_field o)) false ≡ unwrap_or (option_map own_test o) false
  tested (Some f) = agree f
  tested None = refl

  pub has_field_of : (place : ℕ) (fields : List FlatField) (type : AvroType) → map typed_field fields ≡ fields_in type → has_field own_test place fields ≡ has_type test place type
  has_field_of place fields type same =
      sym (tested (slice_get fields place))
      ∙ ap (λ (o : Option (List ℕ × AvroType)). unwrap_or (option_map (λ (f : List ℕ × AvroType). test f.1) o) false) (sym (slice_get-map typed_field fields place))
      ∙ ap (λ (fs : List (List ℕ × AvroType)). unwrap_or (option_map (λ (f : List ℕ × AvroType). test f.1) (slice_get fs place)) false) same

pub has_ordering_of : (ordering : Option ℕ) (fields : List FlatField) (type : AvroType) → map typed_field fields ≡ fields_in type → has_ordering ordering fields ≡ has_rank_type ordering type
has_ordering_of None fields type same = refl
has_ordering_of (Some place) fields type same = has_field_of is_rank_type is_rank_field (λ f. rank_case f.nullable f.cell) place fields type same

pub places_of : (key partition : ℕ) (ordering : Option ℕ) (fields : List FlatField) (type : AvroType) (named : Bool) → map typed_field fields ≡ fields_in type
    → (named && has_type is_string_type key type && has_type is_string_type partition type && has_rank_type ordering type) ≡ true → has_places key partition ordering fields ≡ true
places_of key partition ordering fields type named same told =
    let three = and_parts (named && has_type is_string_type key type && has_type is_string_type partition type) (has_rank_type ordering type) told in
    let two = and_parts (named && has_type is_string_type key type) (has_type is_string_type partition type) three.0 in
    let one = and_parts named (has_type is_string_type key type) two.0 in
    let k = has_field_of is_string_type is_text_field (λ f. string_case f.nullable f.cell) key fields type same ∙ one.1 in
    let p = has_field_of is_string_type is_text_field (λ f. string_case f.nullable f.cell) partition fields type same ∙ two.1 in
    let o = has_ordering_of ordering fields type same ∙ three.1 in
    rw (k, p, o) refl

-- ---- fields of a flat schema

no_place : (p : List ℕ × AvroType → Bool) (fs : List (List ℕ × AvroType)) (b : Bool) → ltb (position_or_len p fs) (length fs) ≡ b → position p fs ≡ None → length fs ≤ position_or_len p fs
no_place p fs true is none = let some = rw is at none in absurd cc
no_place p fs false is none = ltb-false (position_or_len p fs) (length fs) is

pub flat_at : (fields : List Field) (i : ℕ) (f : Field) → first_not_flat (map field_of fields) ≡ None → i < length fields → f ≡ get_or fields i f → is_flat_type (field_of f).1 ≡ true
flat_at fields i f none within is =
    let p : List ℕ × AvroType → Bool = λ g. not (is_flat_field g) in
    let fs = map field_of fields in
    let below : length fs ≤ position_or_len p fs = no_place p fs (ltb (position_or_len p fs) (length fs)) refl none in
    let here : i < position_or_len p fs = omega (arith, below, length-map fields field_of) in
    let passes = not-false (is_flat_field (get_or fs i (field_of f))) (fails_before_first p fs i (field_of f) here) in
    let same : get_or fs i (field_of f) ≡ field_of f = get_or-map field_of fields i f (field_of f) within ∙ ap field_of (sym is) in
    (and_parts (is_flat_type (field_of f).1) (is_own_name (field_of f).0) (rw same at passes)).0

-- two branches of which the first isn't null are no flat type, and neither are more or fewer
pub no_pair : (branches : List Schema) → length branches ≢ 2 → is_flat_type (union_of (branches_of (map type_of branches))) ≡ false
no_pair branches other = ap (λ (o : Option AvroType). is_cell_type (unwrap_or o (union_of (branches_of (map type_of branches))))) (beside_others branches other)

pub no_null : (branches : List Schema) (first : Schema) → first ≡ get_or branches 0 first → is_null_type (type_of first) ≡ false → is_flat_type (union_of (branches_of (map type_of branches))) ≡ false
no_null [] first is other = refl
no_null (a ∷ []) first is other = refl
no_null (a ∷ b ∷ []) first is other =
    let here : is_null_type (type_of a) ≡ false = ap (λ (s : Schema). is_null_type (type_of s)) (sym is) ∙ other in
    rw here refl
no_null (a ∷ b ∷ c ∷ more) first is other = refl

-- ---- layouts

pub fields_named : (type : AvroType) (name : List ℕ) (fields : List Field) → type ≡ record_of name (fields_of (map field_of fields)) → fields_in type ≡ map field_of fields
fields_named type name fields named = ap fields_in named ∙ listed_of (map field_of fields)

pub answers_not_flat : (props : Props) (error : RowError) (place : ℕ) → (error ≡ NotFlat place) ⊎ (error ≡ Memory) → first_not_flat (fields_in (type_of props.schema)) ≡ Some place → AnswersLayout props (Err error)
answers_not_flat props error place (inl e) told = subst (λ (r : RowError). AnswersLayout props (Err r)) (sym e) told
answers_not_flat props error place (inr e) told = subst (λ (r : RowError). AnswersLayout props (Err r)) (sym e) refl
