-- Which text names which type, and where the first refusal stands in a walk from the root, a schema before those inside
-- it and these in their order. Its path has the position of each union's branch and each record's field on the way; an
-- array's items and a map's values are at position 0. At most 32 schemas lie on a way, which is this project's own limit.
use Rattle.std.specs.Prelude.{◌≡◌, ℕ, zero, suc, List, [], ◌∷◌, ◌++◌, length, not, ◌&&◌, if◌then◌else◌, Option, Some, None, Result, Ok, Err, codes}
use Rattle.std.specs.Prelude as list
use Rattle.serde_json.specs.Data as json
use Rattle.serde_json.specs.Data.{Data, Items, no_items, item, no_members, member, unsigned}
use Rattle.serde_json.specs.Find.{get}
use Rattle.serde_json.specs.View.{items_of}
use Rattle.serde_json.specs.Written.{compact_text}
use Rattle.table_forms.specs.JsonObjects.{json_of}
use Rattle.avro_schema.specs.declared.schema_error.SchemaError.{SchemaError}
use Rattle.avro_schema.specs.declared.schema_error.SchemaError.TheVariants.{Memory, NotJson, NamedReference, FloatType, BadSchema}
use Rattle.avro_schema.specs.AvroTypes.{AvroType, null, boolean, int, long, bytes, string, fixed_of, enum_of, array_of, map_of, union_of, record_of, Branches, no_branches, branch, Fields, no_fields, field, branches_of, fields_of}
use Rattle.avro_schema.specs.Names.{is_among}
use Rattle.avro_schema.specs.Heads.{Head, leaf, array, map, union, record_head, ◌>>=◌, bad, only_if, only_some, has_only, name_in, head_of}

-- ---- read

-- the same refusal, seen from the schema that has it inside at a position
abbrev pub inside : ℕ → SchemaError → SchemaError
inside position (NamedReference path) = NamedReference (position ∷ path)
inside position (FloatType path) = FloatType (position ∷ path)
inside position (BadSchema path) = BadSchema (position ∷ path)
inside position NotJson = NotJson
inside position Memory = Memory

abbrev pub at_position : {A : Type 0} → ℕ → Result A SchemaError → Result A SchemaError
at_position position (Ok x) = Ok x
at_position position (Err error) = Err (inside position error)

-- the name of a type's kind
abbrev pub kind_of : AvroType → List ℕ
kind_of null = codes "null"
kind_of boolean = codes "boolean"
kind_of int = codes "int"
kind_of long = codes "long"
kind_of bytes = codes "bytes"
kind_of string = codes "string"
kind_of (fixed_of name size) = codes "fixed"
kind_of (enum_of name symbols) = codes "enum"
kind_of (array_of inner) = codes "array"
kind_of (map_of inner) = codes "map"
kind_of (union_of types) = codes "union"
kind_of (record_of name members) = codes "record"

abbrev pub kind_of_head : Head → List ℕ
kind_of_head (leaf type) = kind_of type
kind_of_head (array d) = codes "array"
kind_of_head (map d) = codes "map"
kind_of_head (union ds) = codes "union"
kind_of_head (record_head name ds) = codes "record"

-- a field behind those with these names: its name, which none of them has, and the JSON of its type
unfoldable pub field_head_after : List (List ℕ) → Data → Result (List ℕ × Data) SchemaError
field_head_after names d = do
  name ← name_in d
  inner ← only_some (get (codes "type") d)
  only_if (not (is_among names name) && has_only (codes "name" ∷ codes "type" ∷ []) d) (name, inner)

-- The schemas inside one. `read_head` reads an inner schema's head, and `grow` what is inside that.
module _ (read_head : Data → Result Head SchemaError) (grow : Head → Result AvroType SchemaError) where
  -- a schema of any kind
  abbrev pub inner_type : Data → Result AvroType SchemaError
  inner_type d = read_head d >>= grow

  -- a branch behind those that were found: no union, and of a kind that none of them has
  unfoldable pub branch_after : List AvroType → Data → Result AvroType SchemaError
  branch_after found d = do
    head ← read_head d
    new ← only_if (not (is_among (codes "union" ∷ list.map kind_of found) (kind_of_head head))) head
    grow new

  -- the branches that were found, and those that follow
  unfoldable pub branches_from : List AvroType → Items → Result (List AvroType) SchemaError
  branches_from found no_items = Ok found
  branches_from found (item d ds) = do
    type ← at_position (length found) (branch_after found d)
    branches_from (found ++ type ∷ []) ds

  -- a field behind those with these names, with its type
  unfoldable pub field_after : List (List ℕ) → Data → Result (List ℕ × AvroType) SchemaError
  field_after names d = do
    head ← field_head_after names d
    type ← inner_type head.1
    Ok (head.0, type)

  -- the fields that were found, and those that follow
  unfoldable pub fields_from : List (List ℕ × AvroType) → Items → Result (List (List ℕ × AvroType)) SchemaError
  fields_from found no_items = Ok found
  fields_from found (item d ds) = do
    next ← at_position (length found) (field_after (list.map (λ f. f.0) found) d)
    fields_from (found ++ next ∷ []) ds

  -- the type of a head
  unfoldable pub type_inside : Head → Result AvroType SchemaError
  type_inside (leaf type) = Ok type
  type_inside (array d) = at_position 0 (inner_type d) >>= λ inner. Ok (array_of inner)
  type_inside (map d) = at_position 0 (inner_type d) >>= λ inner. Ok (map_of inner)
  type_inside (union ds) = branches_from [] ds >>= λ types. Ok (union_of (branches_of types))
  type_inside (record_head name ds) = fields_from [] ds >>= λ found. Ok (record_of name (fields_of found))

-- the head of a schema on a way that may have so many schemas from it on, itself counted
unfoldable pub head_within : ℕ → Data → Result Head SchemaError
head_within zero d = bad
head_within (suc levels) d = head_of d

-- the type of a schema on such a way
unfoldable pub type_within : ℕ → Head → Result AvroType SchemaError
type_within zero head = bad
type_within (suc levels) head = type_inside (head_within levels) (type_within levels) head

-- the type that a JSON value names, or the first refusal
unfoldable pub type_in : Data → Result AvroType SchemaError
type_in d = head_within 32 d >>= type_within 32

-- the type that a text's JSON names
abbrev pub type_of_json : Option Data → Result AvroType SchemaError
type_of_json (Some d) = type_in d
type_of_json None = Err NotJson

-- the type that a text names
unfoldable pub type_named : List ℕ → Result AvroType SchemaError
type_named text = type_of_json (json_of text)

-- ---- written

abbrev pub texts_json : List (List ℕ) → Items
texts_json texts = items_of (list.map json.string texts)

-- a field's JSON, with that of its type
abbrev pub field_json : List ℕ → Data → Data
field_json name type = json.object (member (codes "name") (json.string name) (member (codes "type") type no_members))

-- the JSON of a type: primitive types as texts, and the members of objects in byte order
abbrev mutual
  pub type_json : AvroType → Data
  type_json null = json.string (codes "null")
  type_json boolean = json.string (codes "boolean")
  type_json int = json.string (codes "int")
  type_json long = json.string (codes "long")
  type_json bytes = json.string (codes "bytes")
  type_json string = json.string (codes "string")
  type_json (fixed_of name size) = json.object (member (codes "name") (json.string name) (member (codes "size") (json.number (unsigned size)) (member (codes "type") (json.string (codes "fixed")) no_members)))
  type_json (enum_of name symbols) = json.object (member (codes "name") (json.string name) (member (codes "symbols") (json.array (texts_json symbols)) (member (codes "type") (json.string (codes "enum")) no_members)))
  type_json (array_of inner) = json.object (member (codes "items") (type_json inner) (member (codes "type") (json.string (codes "array")) no_members))
  type_json (map_of inner) = json.object (member (codes "type") (json.string (codes "map")) (member (codes "values") (type_json inner) no_members))
  type_json (union_of branches) = json.array (branches_json branches)
  type_json (record_of name fields) = json.object (member (codes "fields") (json.array (fields_json fields)) (member (codes "name") (json.string name) (member (codes "type") (json.string (codes "record")) no_members)))

  pub branches_json : Branches → Items
  branches_json no_branches = no_items
  branches_json (branch type more) = item (type_json type) (branches_json more)

  pub fields_json : Fields → Items
  fields_json no_fields = no_items
  fields_json (field name type more) = item (field_json name (type_json type)) (fields_json more)

-- the written text of a type, which has no space
unfoldable pub type_text : AvroType → List ℕ
type_text type = compact_text (type_json type)

-- ---- readers

-- The reader answers what reading gives, unless memory has run out. `view` turns its value into the definition's.
abbrev pub Fails : {Y : Type 0} → SchemaError → Result Y SchemaError → Type 0
Fails Memory told = Unit {0}
Fails NotJson told = told ≡ Err NotJson
Fails (NamedReference path) told = told ≡ Err (NamedReference path)
Fails (FloatType path) told = told ≡ Err (FloatType path)
Fails (BadSchema path) told = told ≡ Err (BadSchema path)

abbrev pub Answers : {X Y : Type 0} → (X → Y) → Result X SchemaError → Result Y SchemaError → Type 0
Answers view (Ok x) told = told ≡ Ok (view x)
Answers view (Err error) told = Fails error told
