-- Reading branches and fields one after another, as a loop does. `told` is what reading gives from the loop's beginning.
use Rattle.std.proofs.Common.{◌≡◌, ℕ, suc, ◌+◌, ◌-◌, ◌≤◌, ◌<◌, List, [], ◌∷◌, ◌++◌, length, get_or, drop, map, Result, Ok, sym, ap, ◌∙◌, arith, rules}
use Rattle.std.proofs.lemmas.List.{drop_more, length-map, map_push}
use Rattle.std.proofs.Math.ListN.{drop_of_length-le}
use Rattle.serde_json.specs.Data.{Data, no_items, item}
use Rattle.serde_json.specs.View.{view, items_view}
use Rattle.serde_json.specs.declared.value.Value.{Value}
use Rattle.avro_schema.specs.declared.schema.Schema.{Schema, Union, Record, the_lemmas}
use Rattle.avro_schema.specs.declared.schema.Field.{Field}
use Rattle.avro_schema.specs.declared.schema_error.SchemaError.{SchemaError}
use Rattle.avro_schema.specs.declared.schema_error.SchemaError.TheVariants.{Memory, NotJson, NamedReference, FloatType, BadSchema}
use Rattle.avro_schema.specs.AvroTypes.{AvroType, type_of, field_of, branches_of, fields_of, union_of, record_of}
use Rattle.avro_schema.specs.Heads.{Head, union, record_head, ◌>>=◌}
use Rattle.avro_schema.specs.SchemaTexts.{at_position, branch_after, branches_from, field_after, fields_from, type_inside, head_within, type_within, Fails}
use Rattle.avro_schema.proofs.Steps.{bind_to}

-- ---- errors

pub Fails_then : {A B : Type 0} (e : SchemaError) (r : Result A SchemaError) (f : A → Result B SchemaError) → Fails e r → Fails e (r >>= f)
Fails_then Memory r f fails = tt
Fails_then NotJson r f fails = ap (λ s. s >>= f) fails
Fails_then (NamedReference path) r f fails = ap (λ s. s >>= f) fails
Fails_then (FloatType path) r f fails = ap (λ s. s >>= f) fails
Fails_then (BadSchema path) r f fails = ap (λ s. s >>= f) fails

pub Fails_is : {A : Type 0} (e : SchemaError) (r told : Result A SchemaError) → r ≡ told → Fails e r → Fails e told
Fails_is Memory r told same fails = tt
Fails_is NotJson r told same fails = sym same ∙ fails
Fails_is (NamedReference path) r told same fails = sym same ∙ fails
Fails_is (FloatType path) r told same fails = sym same ∙ fails
Fails_is (BadSchema path) r told same fails = sym same ∙ fails

-- ---- types from schemas

type_of_Union : (found : List Schema) → type_of (Union found) ≡ union_of (branches_of (map type_of found))
type_of_Union found = search (rules, the_lemmas)

type_of_Record : (name : List ℕ) (found : List Field) → type_of (Record name found) ≡ record_of name (fields_of (map field_of found))
type_of_Record name found = search (rules, the_lemmas)

-- ---- the JSON that is left

pub one_left : (values : List Value) (i : ℕ) (value : Value) → i < length values → value ≡ get_or values i value → items_view (drop i values) ≡ item (view value) (items_view (drop (i + 1) values))
one_left values i value below is =
    ap items_view (drop_more values i value below) ∙ ap (λ (v : Value). item (view v) (items_view (drop (i + 1) values))) (sym is)

pub none_left : (values : List Value) (i : ℕ) → length values ≤ i → items_view (drop i values) ≡ no_items
none_left values i over = ap items_view (drop_of_length-le values over)

module _ (read_head : Data → Result Head SchemaError) (grow : Head → Result AvroType SchemaError) where
  -- ---- branches

  module _ (found : List Schema) (values : List Value) (i : ℕ) (told : Result (List AvroType) SchemaError) where
    abbrev Branches_left : Type 0
    Branches_left = branches_from read_head grow (map type_of found) (items_view (drop i values)) ≡ told

    next_branch : (value : Value) → i < length values → value ≡ get_or values i value → Branches_left
        → (at_position (length found) (branch_after read_head grow (map type_of found) (view value)) >>= λ type. branches_from read_head grow (map type_of found ++ type ∷ []) (items_view (drop (i + 1) values))) ≡ told
    unfolding branches_from
    next_branch value below is so_far =
        ap (λ (n : ℕ). at_position n (branch_after read_head grow (map type_of found) (view value)) >>= λ type. branches_from read_head grow (map type_of found ++ type ∷ []) (items_view (drop (i + 1) values))) (sym (length-map found type_of))
        ∙ sym (ap (branches_from read_head grow (map type_of found)) (one_left values i value below is)) ∙ so_far

    pub branches_go_on : (value : Value) (schema : Schema) → i < length values → value ≡ get_or values i value → Branches_left
        → at_position (length found) (branch_after read_head grow (map type_of found) (view value)) ≡ Ok (type_of schema) → branches_from read_head grow (map type_of (found ++ schema ∷ [])) (items_view (drop (i + 1) values)) ≡ told
    branches_go_on value schema below is so_far e =
        ap (λ (types : List AvroType). branches_from read_head grow types (items_view (drop (i + 1) values))) (map_push type_of found schema)
        ∙ sym (bind_to _ (type_of schema) (λ type. branches_from read_head grow (map type_of found ++ type ∷ []) (items_view (drop (i + 1) values))) e)
        ∙ next_branch value below is so_far

    pub branches_fail : (value : Value) (error : SchemaError) → i < length values → value ≡ get_or values i value → Branches_left
        → Fails error (at_position (length found) (branch_after read_head grow (map type_of found) (view value))) → Fails error told
    branches_fail value error below is so_far fails =
        Fails_is error _ told (next_branch value below is so_far) (Fails_then error (at_position (length found) (branch_after read_head grow (map type_of found) (view value))) _ fails)

    pub branches_done : length values ≤ i → Branches_left → told ≡ Ok (map type_of found)
    unfolding branches_from
    branches_done over so_far = sym so_far ∙ ap (branches_from read_head grow (map type_of found)) (none_left values i over)

  -- ---- fields

  module _ (found : List Field) (values : List Value) (i : ℕ) (told : Result (List (List ℕ × AvroType)) SchemaError) where
    abbrev Fields_left : Type 0
    Fields_left = fields_from read_head grow (map field_of found) (items_view (drop i values)) ≡ told

    -- the names of the fields so far
    abbrev AreNames : List (List ℕ) → Type 0
    AreNames names = names ≡ map (λ f. f.0) (map field_of found)

    placed_by_names : (names : List (List ℕ)) (value : Value) → AreNames names
        → at_position (length names) (field_after read_head grow names (view value)) ≡ at_position (length (map field_of found)) (field_after read_head grow (map (λ f. f.0) (map field_of found)) (view value))
    placed_by_names names value are =
        ap (λ (ns : List (List ℕ)). at_position (length ns) (field_after read_head grow ns (view value))) are
        ∙ ap (λ (n : ℕ). at_position n (field_after read_head grow (map (λ f. f.0) (map field_of found)) (view value))) (length-map (map field_of found) (λ f. f.0))

    next_field : (names : List (List ℕ)) (value : Value) → AreNames names → i < length values → value ≡ get_or values i value → Fields_left
        → (at_position (length names) (field_after read_head grow names (view value)) >>= λ next. fields_from read_head grow (map field_of found ++ next ∷ []) (items_view (drop (i + 1) values))) ≡ told
    unfolding fields_from
    next_field names value are below is so_far =
        ap (λ r. r >>= λ next. fields_from read_head grow (map field_of found ++ next ∷ []) (items_view (drop (i + 1) values))) (placed_by_names names value are)
        ∙ sym (ap (fields_from read_head grow (map field_of found)) (one_left values i value below is)) ∙ so_far

    pub fields_go_on : (names : List (List ℕ)) (value : Value) (next : List ℕ × AvroType) → AreNames names → i < length values → value ≡ get_or values i value → Fields_left
        → at_position (length names) (field_after read_head grow names (view value)) ≡ Ok next → fields_from read_head grow (map field_of found ++ next ∷ []) (items_view (drop (i + 1) values)) ≡ told
    fields_go_on names value next are below is so_far e =
        sym (bind_to _ next (λ next. fields_from read_head grow (map field_of found ++ next ∷ []) (items_view (drop (i + 1) values))) e)
        ∙ next_field names value are below is so_far

    pub fields_fail : (names : List (List ℕ)) (value : Value) (error : SchemaError) → AreNames names → i < length values → value ≡ get_or values i value → Fields_left
        → Fails error (at_position (length names) (field_after read_head grow names (view value))) → Fails error told
    fields_fail names value error are below is so_far fails =
        Fails_is error _ told (next_field names value are below is so_far) (Fails_then error (at_position (length names) (field_after read_head grow names (view value))) _ fails)

    pub fields_done : length values ≤ i → Fields_left → told ≡ Ok (map field_of found)
    unfolding fields_from
    fields_done over so_far = sym so_far ∙ ap (fields_from read_head grow (map field_of found)) (none_left values i over)

  -- ---- what they make

  pub union_made : (values : List Value) (found : List Schema) → branches_from read_head grow [] (items_view values) ≡ Ok (map type_of found) → type_inside read_head grow (union (items_view values)) ≡ Ok (type_of (Union found))
  unfolding type_inside
  union_made values found e =
      bind_to (branches_from read_head grow [] (items_view values)) (map type_of found) (λ types. Ok (union_of (branches_of types))) e ∙ ap Ok (sym (type_of_Union found))

  pub union_fails : (values : List Value) (error : SchemaError) → Fails error (branches_from read_head grow [] (items_view values)) → Fails error (type_inside read_head grow (union (items_view values)))
  unfolding type_inside
  union_fails values error fails = Fails_then error (branches_from read_head grow [] (items_view values)) (λ types. Ok (union_of (branches_of types))) fails

  pub record_made : (name : List ℕ) (values : List Value) (found : List Field) → fields_from read_head grow [] (items_view values) ≡ Ok (map field_of found) → type_inside read_head grow (record_head name (items_view values)) ≡ Ok (type_of (Record name found))
  unfolding type_inside
  record_made name values found e =
      bind_to (fields_from read_head grow [] (items_view values)) (map field_of found) (λ fs. Ok (record_of name (fields_of fs))) e ∙ ap Ok (sym (type_of_Record name found))

  pub record_fails : (name : List ℕ) (values : List Value) (error : SchemaError) → Fails error (fields_from read_head grow [] (items_view values)) → Fails error (type_inside read_head grow (record_head name (items_view values)))
  unfolding type_inside
  record_fails name values error fails = Fails_then error (fields_from read_head grow [] (items_view values)) (λ fs. Ok (record_of name (fields_of fs))) fails

-- a schema on a way that has room for it
pub within_step : (levels : ℕ) (head : Head) → (levels ≡ 0 → ⊥) → type_within levels head ≡ type_inside (head_within (levels - 1)) (type_within (levels - 1)) head
unfolding type_within
within_step levels head some =
    let n : levels ≡ suc (levels - 1) = omega arith in
    ap (λ (k : ℕ). type_within k head) n
