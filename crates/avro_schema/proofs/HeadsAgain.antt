-- What heads say, and the heads of the JSON of types.
use Rattle.std.proofs.Common.{◌≡◌, ℕ, ◌&&◌, ◌++◌, Bool, true, false, not, nat_le, nat_lt, List, [], ◌∷◌, length, Option, Some, None, option_and_then, Ok, Err, codes, refl, sym, ap, subst, ◌∙◌, append_assoc}
use Rattle.std.specs.Prelude.{if◌then◌else◌}
use Rattle.std.specs.Str.{bytes_eq}
use Rattle.std.proofs.lemmas.List.{append-nil}
use Rattle.serde_json.specs.Data as json
use Rattle.serde_json.specs.Data.{Data, Items, no_items, item}
use Rattle.serde_json.specs.Find.{get, as_str}
use Rattle.table_forms.specs.JsonObjects.{least_unknown, text_at, number_at, items_at}
use Rattle.avro_schema.specs.AvroTypes.{AvroType, null, boolean, int, long, bytes, string, fixed_of, enum_of, array_of, map_of, union_of, record_of, Fields}
use Rattle.avro_schema.specs.declared.schema_error.SchemaError.TheVariants.{NamedReference, FloatType}
use Rattle.avro_schema.specs.Names.{is_name, is_among}
use Rattle.avro_schema.specs.Heads.{Head, leaf, array, union, record_head, ◌>>=◌, only_if, only_some, has_only, name_in, symbol_after, symbols_from, named_head, fixed_head, enum_head, array_head, map_head, record_head_of, plain_head, typed_head, head_of}
use Rattle.avro_schema.specs.Heads as heads
use Rattle.avro_schema.specs.SchemaTexts.{texts_json, type_json, fields_json}
use Rattle.avro_schema.proofs.Steps.{bind_Ok, only_if_Ok, only_some_Ok, ok_of, chosen, and_true}

-- ---- what is known of a head

abbrev pub IsLeaf : AvroType → Type 0
IsLeaf (fixed_of name size) = (is_name name ≡ true) × (nat_le size 65536 ≡ true)
IsLeaf (enum_of name symbols) = (is_name name ≡ true) × (nat_lt 0 (length symbols) ≡ true) × (symbols_from [] (texts_json symbols) ≡ Some symbols)
IsLeaf (array_of inner) = ⊥
IsLeaf (map_of inner) = ⊥
IsLeaf (union_of types) = ⊥
IsLeaf (record_of name members) = ⊥
IsLeaf _ = Unit {0}

abbrev pub IsFilled : Items → Type 0
IsFilled no_items = ⊥
IsFilled (item d ds) = Unit {0}

abbrev pub IsHead : Head → Type 0
IsHead (leaf type) = IsLeaf type
IsHead (array d) = Unit {0}
IsHead (heads.map d) = Unit {0}
IsHead (union ds) = IsFilled ds
IsHead (record_head name ds) = is_name name ≡ true

-- ---- symbols

some_of : {A B : Type 0} (f : A → Option B) (o : Option A) (y : B) → option_and_then f o ≡ Some y → (x : A) × (o ≡ Some x) × (f x ≡ Some y)
some_of f (Some x) y e = (x, refl, e)
some_of f None y e = absurd cc

-- the symbols that were found behind others are found again in their JSON
pub symbols_again : (found : List (List ℕ)) (ds : Items) (all : List (List ℕ)) → symbols_from found ds ≡ Some all → (new : List (List ℕ)) × (all ≡ found ++ new) × (symbols_from found (texts_json new) ≡ Some all)
symbols_again found no_items all e = ([], none found all e, e)
  where
    none : (found all : List (List ℕ)) → Some found ≡ Some all → all ≡ found ++ []
    none found all e = let same : found ≡ all = cc in sym same ∙ sym (append-nil found)
symbols_again found (item d ds) all e =
    let first = some_of (λ symbol. symbols_from (found ++ symbol ∷ []) ds) (symbol_after found d) all e in
    let symbol : List ℕ = first.0 in
    let more = symbols_again (found ++ symbol ∷ []) ds all first.2 in
    let again : symbol_after found (json.string symbol) ≡ Some symbol = symbol_again found d symbol first.1 in
    (symbol ∷ more.0, more.1 ∙ append_assoc found (symbol ∷ []) more.0, ap (option_and_then (λ s. symbols_from (found ++ s ∷ []) (texts_json more.0))) again ∙ more.2)
  where
    tested : (b : Bool) (text symbol : List ℕ) → (if b then Some text else None) ≡ Some symbol → (b ≡ true) × (text ≡ symbol)
    tested true text symbol e = (refl, cc)
    tested false text symbol e = absurd cc

    symbol_again : (found : List (List ℕ)) (d : Data) (symbol : List ℕ) → symbol_after found d ≡ Some symbol → symbol_after found (json.string symbol) ≡ Some symbol
    symbol_again found d symbol e =
        let text = some_of (λ text. if is_name text && not (is_among found text) then Some text else None) (as_str d) symbol e in
        let passed = tested (is_name text.0 && not (is_among found text.0)) text.0 symbol text.2 in
        let passes : (is_name symbol && not (is_among found symbol)) ≡ true = subst (λ (t : List ℕ). (is_name t && not (is_among found t)) ≡ true) passed.1 passed.0 in
        rw passes refl

-- ---- every head

named_is : (b1 b2 b3 b4 b5 b6 b7 b8 : Bool) (h : Head)
    → (if b1 then Ok (leaf null) else (if b2 then Ok (leaf boolean) else (if b3 then Ok (leaf int) else (if b4 then Ok (leaf long) else (if b5 then Ok (leaf bytes) else (if b6 then Ok (leaf string)
    else (if b7 then Err (FloatType []) else (if b8 then Err (FloatType []) else Err (NamedReference []))))))))) ≡ Ok h
    → IsHead h
named_is true b2 b3 b4 b5 b6 b7 b8 h e = subst IsHead (ok_of (leaf null) h e) tt
named_is false true b3 b4 b5 b6 b7 b8 h e = subst IsHead (ok_of (leaf boolean) h e) tt
named_is false false true b4 b5 b6 b7 b8 h e = subst IsHead (ok_of (leaf int) h e) tt
named_is false false false true b5 b6 b7 b8 h e = subst IsHead (ok_of (leaf long) h e) tt
named_is false false false false true b6 b7 b8 h e = subst IsHead (ok_of (leaf bytes) h e) tt
named_is false false false false false true b7 b8 h e = subst IsHead (ok_of (leaf string) h e) tt
named_is false false false false false false true b8 h e = absurd cc
named_is false false false false false false false true h e = absurd cc
named_is false false false false false false false false h e = absurd cc

named_head_is : (name : List ℕ) (h : Head) → named_head name ≡ Ok h → IsHead h
unfolding named_head
named_head_is name h e =
    named_is (bytes_eq name (codes "null")) (bytes_eq name (codes "boolean")) (bytes_eq name (codes "int")) (bytes_eq name (codes "long")) (bytes_eq name (codes "bytes")) (bytes_eq name (codes "string")) (bytes_eq name (codes "float")) (bytes_eq name (codes "double")) h e

pub name_in_is : (d : Data) (name : List ℕ) → name_in d ≡ Ok name → is_name name ≡ true
name_in_is d name e =
    let found = bind_Ok (only_some (text_at (codes "name") d)) (λ name. only_if (is_name name) name) name e in
    let passed = only_if_Ok (is_name found.0) found.0 name found.2 in
    subst (λ (n : List ℕ). is_name n ≡ true) passed.1 passed.0

fixed_head_is : (d : Data) (h : Head) → fixed_head d ≡ Ok h → IsHead h
unfolding fixed_head
fixed_head_is d h e =
    let known = has_only (codes "name" ∷ codes "size" ∷ codes "type" ∷ []) d in
    let name = bind_Ok (name_in d) (λ name. only_some (number_at (codes "size") d) >>= λ size. only_if (nat_le size 65536 && known) (leaf (fixed_of name size))) h e in
    let size = bind_Ok (only_some (number_at (codes "size") d)) (λ size. only_if (nat_le size 65536 && known) (leaf (fixed_of name.0 size))) h name.2 in
    let passed = only_if_Ok (nat_le size.0 65536 && known) (leaf (fixed_of name.0 size.0)) h size.2 in
    subst IsHead passed.1 (name_in_is d name.0 name.1, (and_true (nat_le size.0 65536) known passed.0).0)

enum_head_is : (d : Data) (h : Head) → enum_head d ≡ Ok h → IsHead h
unfolding enum_head
enum_head_is d h e =
    let known = has_only (codes "name" ∷ codes "symbols" ∷ codes "type" ∷ []) d in
    let name = bind_Ok (name_in d) (λ name. only_some (items_at (codes "symbols") d) >>= λ items. only_some (symbols_from [] items) >>= λ symbols. only_if (nat_lt 0 (length symbols) && known) (leaf (enum_of name symbols))) h e in
    let items = bind_Ok (only_some (items_at (codes "symbols") d)) (λ items. only_some (symbols_from [] items) >>= λ symbols. only_if (nat_lt 0 (length symbols) && known) (leaf (enum_of name.0 symbols))) h name.2 in
    let symbols = bind_Ok (only_some (symbols_from [] items.0)) (λ symbols. only_if (nat_lt 0 (length symbols) && known) (leaf (enum_of name.0 symbols))) h items.2 in
    let passed = only_if_Ok (nat_lt 0 (length symbols.0) && known) (leaf (enum_of name.0 symbols.0)) h symbols.2 in
    let again = symbols_again [] items.0 symbols.0 (only_some_Ok (symbols_from [] items.0) symbols.0 symbols.1) in
    let listed : symbols_from [] (texts_json symbols.0) ≡ Some symbols.0 = ap (λ (s : List (List ℕ)). symbols_from [] (texts_json s)) again.1 ∙ again.2 in
    subst IsHead passed.1 (name_in_is d name.0 name.1, (and_true (nat_lt 0 (length symbols.0)) known passed.0).0, listed)

array_head_is : (d : Data) (h : Head) → array_head d ≡ Ok h → IsHead h
unfolding array_head
array_head_is d h e =
    let known = has_only (codes "items" ∷ codes "type" ∷ []) d in
    let inner = bind_Ok (only_some (get (codes "items") d)) (λ inner. only_if known (array inner)) h e in
    subst IsHead (only_if_Ok known (array inner.0) h inner.2).1 tt

map_head_is : (d : Data) (h : Head) → map_head d ≡ Ok h → IsHead h
unfolding map_head
map_head_is d h e =
    let known = has_only (codes "type" ∷ codes "values" ∷ []) d in
    let inner = bind_Ok (only_some (get (codes "values") d)) (λ inner. only_if known (heads.map inner)) h e in
    subst IsHead (only_if_Ok known (heads.map inner.0) h inner.2).1 tt

record_head_is : (d : Data) (h : Head) → record_head_of d ≡ Ok h → IsHead h
unfolding record_head_of
record_head_is d h e =
    let known = has_only (codes "fields" ∷ codes "name" ∷ codes "type" ∷ []) d in
    let name = bind_Ok (name_in d) (λ name. only_some (items_at (codes "fields") d) >>= λ fields. only_if known (record_head name fields)) h e in
    let fields = bind_Ok (only_some (items_at (codes "fields") d)) (λ fields. only_if known (record_head name.0 fields)) h name.2 in
    subst IsHead (only_if_Ok known (record_head name.0 fields.0) h fields.2).1 (name_in_is d name.0 name.1)

plain_head_is : (type : List ℕ) (d : Data) (h : Head) → plain_head type d ≡ Ok h → IsHead h
unfolding plain_head
plain_head_is type d h e =
    let known = has_only (codes "type" ∷ []) d in
    let head = bind_Ok (named_head type) (λ head. only_if known head) h e in
    named_head_is type h (head.1 ∙ ap Ok (only_if_Ok known head.0 h head.2).1)

typed_head_is : (type : List ℕ) (d : Data) (h : Head) → typed_head type d ≡ Ok h → IsHead h
unfolding typed_head
typed_head_is type d h e =
    chosen (bytes_eq type (codes "fixed")) _ _ (Ok h) (IsHead h) e (λ told. fixed_head_is d h told)
    (λ rest. chosen (bytes_eq type (codes "enum")) _ _ (Ok h) (IsHead h) rest (λ told. enum_head_is d h told)
    (λ rest. chosen (bytes_eq type (codes "array")) _ _ (Ok h) (IsHead h) rest (λ told. array_head_is d h told)
    (λ rest. chosen (bytes_eq type (codes "map")) _ _ (Ok h) (IsHead h) rest (λ told. map_head_is d h told)
    (λ rest. chosen (bytes_eq type (codes "record")) _ _ (Ok h) (IsHead h) rest (λ told. record_head_is d h told)
    (λ told. plain_head_is type d h told)))))

pub head_of_is : (d : Data) (h : Head) → head_of d ≡ Ok h → IsHead h
unfolding head_of
head_of_is json.null h e = absurd cc
head_of_is (json.boolean b) h e = absurd cc
head_of_is (json.number n) h e = absurd cc
head_of_is (json.string name) h e = named_head_is name h e
head_of_is (json.array no_items) h e = absurd cc
head_of_is (json.array (item d ds)) h e = subst IsHead (ok_of (union (item d ds)) h e) tt
head_of_is (json.object members) h e =
    let type = bind_Ok (only_some (text_at (codes "type") (json.object members))) (λ type. typed_head type (json.object members)) h e in
    typed_head_is type.0 (json.object members) h type.2

-- ---- the heads of the JSON of types

pub leaf_again : (type : AvroType) → IsLeaf type → head_of (type_json type) ≡ Ok (leaf type)
unfolding head_of named_head typed_head fixed_head enum_head least_unknown
leaf_again null is = refl
leaf_again boolean is = refl
leaf_again int is = refl
leaf_again long is = refl
leaf_again bytes is = refl
leaf_again string is = refl
leaf_again (fixed_of name size) is = rw (is.0, is.1) refl
leaf_again (enum_of name symbols) is = rw (is.0, is.2, is.1) refl
leaf_again (array_of inner) is = absurd is
leaf_again (map_of inner) is = absurd is
leaf_again (union_of types) is = absurd is
leaf_again (record_of name members) is = absurd is

pub array_again : (inner : AvroType) → head_of (type_json (array_of inner)) ≡ Ok (array (type_json inner))
unfolding head_of typed_head array_head least_unknown
array_again inner = refl

pub map_again : (inner : AvroType) → head_of (type_json (map_of inner)) ≡ Ok (heads.map (type_json inner))
unfolding head_of typed_head map_head least_unknown
map_again inner = refl

pub union_again : (ds : Items) → IsFilled ds → head_of (json.array ds) ≡ Ok (union ds)
unfolding head_of
union_again no_items is = absurd is
union_again (item d ds) is = refl

pub record_again : (name : List ℕ) (members : Fields) → is_name name ≡ true → head_of (type_json (record_of name members)) ≡ Ok (record_head name (fields_json members))
unfolding head_of typed_head record_head_of least_unknown
record_again name members is = rw is refl
