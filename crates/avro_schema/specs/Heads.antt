-- What one JSON value says of a schema, before the schemas inside it are read: "Schema Declaration" of the Avro
-- specification. The attributes that are passed over, the limit of a fixed's size, and that a union has no two branches
-- of one type are this project's own.
use Rattle.std.specs.Prelude.{ℕ, List, [], ◌∷◌, ◌++◌, length, Bool, not, ◌&&◌, nat_le, nat_lt, if◌then◌else◌, Option, Some, None, is_none, option_and_then, Result, Ok, Err, codes}
use Rattle.std.specs.Str.{bytes_eq}
use Rattle.serde_json.specs.Data as json
use Rattle.serde_json.specs.Data.{Data, Items, no_items, item}
use Rattle.serde_json.specs.Find.{get, as_str}
use Rattle.table_forms.specs.JsonObjects.{least_unknown, text_at, number_at, items_at}
use Rattle.avro_schema.specs.declared.schema_error.SchemaError.{SchemaError}
use Rattle.avro_schema.specs.declared.schema_error.SchemaError.TheVariants.{NamedReference, FloatType, BadSchema}
use Rattle.avro_schema.specs.AvroTypes.{AvroType, null, boolean, int, long, bytes, string, fixed_of, enum_of}
use Rattle.avro_schema.specs.Names.{is_name, is_among}

-- A schema whose inner schemas are JSON still. A leaf has none.
pub data Head : Type 0 where
  leaf : AvroType → Head
  array : Data → Head
  map : Data → Head
  union : Items → Head
  record_head : List ℕ → Items → Head

-- ---- the steps of a walk, which ends at the first refusal; its path is from the place at which the walk began.

infixl 10 ◌>>=◌
abbrev pub ◌>>=◌ : {A B : Type 0} → Result A SchemaError → (A → Result B SchemaError) → Result B SchemaError
(Ok x) >>= f = f x
(Err error) >>= f = Err error

abbrev pub bad : {A : Type 0} → Result A SchemaError
bad = Err (BadSchema [])

abbrev pub only_if : {A : Type 0} → Bool → A → Result A SchemaError
only_if test x = if test then Ok x else bad

abbrev pub only_some : {A : Type 0} → Option A → Result A SchemaError
only_some (Some x) = Ok x
only_some None = bad

-- ---- texts

-- a type's name alone
unfoldable pub named_head : List ℕ → Result Head SchemaError
named_head name =
    if bytes_eq name (codes "null") then Ok (leaf null)
    else (if bytes_eq name (codes "boolean") then Ok (leaf boolean)
    else (if bytes_eq name (codes "int") then Ok (leaf int)
    else (if bytes_eq name (codes "long") then Ok (leaf long)
    else (if bytes_eq name (codes "bytes") then Ok (leaf bytes)
    else (if bytes_eq name (codes "string") then Ok (leaf string)
    else (if bytes_eq name (codes "float") then Err (FloatType [])
    else (if bytes_eq name (codes "double") then Err (FloatType [])
    else Err (NamedReference []))))))))

-- ---- objects

-- what an object may have beside the members of its kind, with any value
abbrev pub attributes : List (List ℕ)
attributes = codes "aliases" ∷ codes "default" ∷ codes "doc" ∷ codes "logicalType" ∷ codes "namespace" ∷ codes "order" ∷ []

-- no other members than these and the attributes
abbrev pub has_only : List (List ℕ) → Data → Bool
has_only known d = is_none (least_unknown (known ++ attributes) d)

-- the member `name`, where it is a name
abbrev pub name_in : Data → Result (List ℕ) SchemaError
name_in d = only_some (text_at (codes "name") d) >>= λ name. only_if (is_name name) name

-- the symbol of an enum, if it is a name that none before it has
abbrev pub symbol_after : List (List ℕ) → Data → Option (List ℕ)
symbol_after found d = option_and_then (λ symbol. if is_name symbol && not (is_among found symbol) then Some symbol else None) (as_str d)

-- the symbols that were found and those that follow, if all are such names
abbrev pub symbols_from : List (List ℕ) → Items → Option (List (List ℕ))
symbols_from found no_items = Some found
symbols_from found (item d ds) = option_and_then (λ symbol. symbols_from (found ++ symbol ∷ []) ds) (symbol_after found d)

unfoldable pub fixed_head : Data → Result Head SchemaError
fixed_head d = do
  name ← name_in d
  size ← only_some (number_at (codes "size") d)
  only_if (nat_le size 65536 && has_only (codes "name" ∷ codes "size" ∷ codes "type" ∷ []) d) (leaf (fixed_of name size))

unfoldable pub enum_head : Data → Result Head SchemaError
enum_head d = do
  name ← name_in d
  items ← only_some (items_at (codes "symbols") d)
  symbols ← only_some (symbols_from [] items)
  only_if (nat_lt 0 (length symbols) && has_only (codes "name" ∷ codes "symbols" ∷ codes "type" ∷ []) d) (leaf (enum_of name symbols))

unfoldable pub array_head : Data → Result Head SchemaError
array_head d = only_some (get (codes "items") d) >>= λ inner. only_if (has_only (codes "items" ∷ codes "type" ∷ []) d) (array inner)

unfoldable pub map_head : Data → Result Head SchemaError
map_head d = only_some (get (codes "values") d) >>= λ inner. only_if (has_only (codes "type" ∷ codes "values" ∷ []) d) (map inner)

unfoldable pub record_head_of : Data → Result Head SchemaError
record_head_of d = do
  name ← name_in d
  fields ← only_some (items_at (codes "fields") d)
  only_if (has_only (codes "fields" ∷ codes "name" ∷ codes "type" ∷ []) d) (record_head name fields)

-- a type's name alone comes before what else the object has
unfoldable pub plain_head : List ℕ → Data → Result Head SchemaError
plain_head type d = named_head type >>= λ head. only_if (has_only (codes "type" ∷ []) d) head

unfoldable pub typed_head : List ℕ → Data → Result Head SchemaError
typed_head type d =
    if bytes_eq type (codes "fixed") then fixed_head d
    else (if bytes_eq type (codes "enum") then enum_head d
    else (if bytes_eq type (codes "array") then array_head d
    else (if bytes_eq type (codes "map") then map_head d
    else (if bytes_eq type (codes "record") then record_head_of d
    else plain_head type d))))

-- ---- any JSON value

-- A type's name, a union of at least one branch, or an object with a type's name.
unfoldable pub head_of : Data → Result Head SchemaError
head_of (json.string name) = named_head name
head_of (json.array no_items) = bad
head_of (json.array (item d ds)) = Ok (union (item d ds))
head_of (json.object members) = only_some (text_at (codes "type") (json.object members)) >>= λ type. typed_head type (json.object members)
head_of _ = bad
