-- The text of `hoodie.properties`: which text says which properties, and the line at which it says none. The order of
-- the written lines and the refusals are this project's own.
use Rattle.std.specs.Prelude.{◌≡◌, ℕ, ◌+◌, ◌==◌, position, slice_get, List, [], ◌∷◌, ◌++◌, length, Bool, true, false, not, ◌||◌, IsTrue, if◌then◌else◌, Option, Some, None, IfSome, is_some, option_map, option_and_then, Result, Ok, Err, codes}
use Rattle.std.specs.Option.{option_map_or}
use Rattle.std.specs.Fmt.{decimal}
use Rattle.std.specs.List.{slice_split}
use Rattle.std.specs.Str.{bytes_eq}
use Rattle.serde_json.specs.Data.{Data}
use Rattle.table_forms.specs.Decimals.{decimal_of}
use Rattle.table_forms.specs.Pieces.{split_once}
use Rattle.avro_schema.specs.AvroTypes.{AvroType, type_of}
use Rattle.avro_schema.specs.SchemaTexts.{type_in, type_named, type_text}
use Rattle.table_props.specs.declared.property_key.PropertyKey.{PropertyKey}
use Rattle.table_props.specs.declared.property_key.PropertyKey.TheVariants.{TableName, TableType, TableVersion, KeyField, PartitionField, OrderingField, LayoutVersion, Buckets, TableSchema}
use Rattle.table_props.specs.declared.props.Props.{Props}
use Rattle.table_props.specs.declared.props.PropsError.{PropsError}
use Rattle.table_props.specs.declared.props.PropsError.TheVariants.{Memory, BadProps}
use Rattle.table_props.specs.Flat.{fields_in, is_flat, is_rank_type, is_string_type}
use Rattle.table_props.specs.Keys.{key_text, key_of, is_allowed, is_bucket_count, is_table_name}

-- what properties say. Fields are told by their places in the schema.
pub record Told : Type 0 where
  pub name : List ℕ
  pub schema : AvroType
  pub key : ℕ
  pub partition : ℕ
  pub ordering : Option ℕ
  pub buckets : ℕ

abbrev pub told_of : Props → Told
told_of props = record {
  name = props.name;
  schema = type_of props.schema;
  key = props.key;
  partition = props.partition;
  ordering = props.ordering;
  buckets = props.buckets;
}

-- ---- lines

-- without an empty last part
abbrev pub unended : List (List ℕ) → List (List ℕ)
unended [] = []
unended (part ∷ []) = if length part == 0 then [] else part ∷ []
unended (part ∷ next ∷ more) = part ∷ unended (next ∷ more)

-- the lines, each of which ends with a line feed; the last one needs none
unfoldable pub lines_of : List ℕ → List (List ℕ)
lines_of text = unended (slice_split (λ b. b == 10) text)

-- the value that a line gives a key, which stands before the first `=`
abbrev pub value_if : PropertyKey → Option (List ℕ × List ℕ) → Option (List ℕ)
value_if key (Some parts) = if bytes_eq parts.0 (key_text key) then Some parts.1 else None
value_if key None = None

unfoldable pub value_of : PropertyKey → List ℕ → Option (List ℕ)
value_of key line = value_if key (split_once 61 line)

-- the value that the first line with the key gives it
abbrev pub value_in : PropertyKey → List (List ℕ) → Option (List ℕ)
value_in key [] = None
value_in key (line ∷ lines) = if is_some (value_of key line) then value_of key line else value_in key lines

-- ---- refused lines

-- a line that is passed over though it has no `=`: an empty one or a comment
abbrev pub is_passed_over : List ℕ → Bool
is_passed_over [] = true
is_passed_over (byte ∷ bytes) = byte == 35

-- a key again, or a value that it can't have; keys that aren't listed are passed over
abbrev pub is_bad_entry : List (List ℕ) → Option PropertyKey → List ℕ → Bool
is_bad_entry before (Some key) value = is_some (value_in key before) || not (is_allowed key value)
is_bad_entry before None value = false

abbrev pub is_bad_split : List (List ℕ) → List ℕ → Option (List ℕ × List ℕ) → Bool
is_bad_split before line (Some parts) = is_bad_entry before (key_of parts.0) parts.1
is_bad_split before line None = not (is_passed_over line)

-- whether a line behind these is refused
unfoldable pub is_bad : List (List ℕ) → List ℕ → Bool
is_bad before line = is_bad_split before line (split_once 61 line)

-- the place of the first refused line, of those behind these
abbrev pub first_bad : List (List ℕ) → List (List ℕ) → Option ℕ
first_bad before [] = None
first_bad before (line ∷ lines) =
    if is_bad before line then Some (length before) else first_bad (before ++ line ∷ []) lines

-- ---- steps, of which each may have no answer

infixl 10 ◌>>=◌
abbrev pub ◌>>=◌ : {A B : Type 0} → Option A → (A → Option B) → Option B
o >>= f = option_and_then f o

abbrev pub ok_of : {A E : Type 0} → Result A E → Option A
ok_of (Ok x) = Some x
ok_of (Err e) = None

abbrev pub only_if : {A : Type 0} → Bool → Option A → Option A
only_if test x = if test then x else None

-- ---- all lines together

-- the values of the keys that have to have one, and that of the ordering field's
pub record Entries : Type 0 where
  pub name : List ℕ
  pub key_field : List ℕ
  pub partition_field : List ℕ
  pub ordering_field : Option (List ℕ)
  pub buckets : ℕ
  pub schema : List ℕ

unfoldable pub entries_in : List (List ℕ) → Option Entries
entries_in lines = do
  name ← value_in TableName lines
  type ← value_in TableType lines
  version ← value_in TableVersion lines
  key_field ← value_in KeyField lines
  partition_field ← value_in PartitionField lines
  layout ← value_in LayoutVersion lines
  buckets ← option_and_then decimal_of (value_in Buckets lines)
  schema ← value_in TableSchema lines
  Some (record {
    name = name;
    key_field = key_field;
    partition_field = partition_field;
    ordering_field = value_in OrderingField lines;
    buckets = buckets;
    schema = schema;
  })

-- the place of the first field with a name
abbrev pub named_place : List ℕ → List (List ℕ × AvroType) → Option ℕ
named_place name fields = position (λ f. bytes_eq f.0 name) fields

-- the type of the field at a place passes the test
abbrev pub has_type : (AvroType → Bool) → Option (List ℕ × AvroType) → Bool
has_type test (Some f) = test f.1
has_type test None = false

-- the place of the field with this name, where its type passes the test
abbrev pub place_of : (AvroType → Bool) → List ℕ → List (List ℕ × AvroType) → Option ℕ
place_of test name fields =
    named_place name fields >>= λ place. only_if (has_type test (slice_get fields place)) (Some place)

-- the place of the ordering field, where one is named: a whole number, which may be null
abbrev pub ordering_place : Option (List ℕ) → List (List ℕ × AvroType) → Option (Option ℕ)
ordering_place None fields = Some None
ordering_place (Some name) fields = option_map Some (place_of is_rank_type name fields)

-- the places of the fields that entries name
pub record Places : Type 0 where
  pub key : ℕ
  pub partition : ℕ
  pub ordering : Option ℕ

-- where the schema is flat and has the fields, each of its type
unfoldable pub places_in : Entries → AvroType → Option Places
places_in entries schema = only_if (is_flat schema) (do
  key ← place_of is_string_type entries.key_field (fields_in schema)
  partition ← place_of is_string_type entries.partition_field (fields_in schema)
  ordering ← ordering_place entries.ordering_field (fields_in schema)
  Some (record { key = key; partition = partition; ordering = ordering }))

-- what lines say, none of which is refused
unfoldable pub told_in : List (List ℕ) → Option Told
told_in lines = do
  entries ← entries_in lines
  schema ← ok_of (type_named entries.schema)
  places ← places_in entries schema
  Some (record {
    name = entries.name;
    schema = schema;
    key = places.key;
    partition = places.partition;
    ordering = places.ordering;
    buckets = entries.buckets;
  })

-- ---- the text

abbrev pub told_or : ℕ → Option Told → Result Told ℕ
told_or line (Some told) = Ok told
told_or line None = Err line

abbrev pub read_lines : List (List ℕ) → Option ℕ → Result Told ℕ
read_lines lines (Some place) = Err (place + 1)
read_lines lines None = told_or (length lines + 1) (told_in lines)

-- the properties that a text says, or the number of the line, from 1, at which it is refused; where all lines together
-- say none, it is that of the line behind the last
unfoldable pub read_props : List ℕ → Result Told ℕ
read_props text = read_lines (lines_of text) (first_bad [] (lines_of text))

-- ---- written

-- the line of a key and its value, and with its line feed
abbrev pub entry_text : PropertyKey → List ℕ → List ℕ
entry_text key value = key_text key ++ 61 ∷ value

abbrev pub line_text : PropertyKey → List ℕ → List ℕ
line_text key value = entry_text key value ++ 10 ∷ []

-- the name of the field at a place, which is empty where there is none
abbrev pub field_name : AvroType → ℕ → List ℕ
field_name schema place = option_map_or (λ f. f.0) (slice_get (fields_in schema) place) []

abbrev pub ordering_line : AvroType → Option ℕ → List ℕ
ordering_line schema (Some place) = line_text OrderingField (field_name schema place)
ordering_line schema None = []

-- the one written text of properties
unfoldable pub props_text : Told → List ℕ
props_text told =
    line_text TableName told.name ++ line_text TableType (codes "MERGE_ON_READ") ++ line_text TableVersion (codes "6")
    ++ line_text KeyField (field_name told.schema told.key)
    ++ line_text PartitionField (field_name told.schema told.partition)
    ++ ordering_line told.schema told.ordering ++ line_text LayoutVersion (codes "1")
    ++ line_text Buckets (decimal told.buckets) ++ line_text TableSchema (type_text told.schema)

-- ---- what properties are

-- the field at the place is there, is the first of its name, and its type passes the test
abbrev pub HasField : AvroType → (AvroType → Bool) → ℕ → Type 0
HasField schema test place = place_of test (field_name schema place) (fields_in schema) ≡ Some place

-- what the properties of a table say
pub record IsTold (told : Told) : Type 0 where
  pub name : IsTrue (is_table_name told.name)
  pub buckets : IsTrue (is_bucket_count told.buckets)
  pub schema : (json : Data) × (type_in json ≡ Ok told.schema)
  pub flat : IsTrue (is_flat told.schema)
  pub key : HasField told.schema is_string_type told.key
  pub partition : HasField told.schema is_string_type told.partition
  pub ordering : IfSome told.ordering (HasField told.schema is_rank_type)

-- ---- readers

-- The answer is what reading gives, unless memory has run out.
abbrev pub Answers : Result Props PropsError → Result Told ℕ → Type 0
Answers (Ok props) read = read ≡ Ok (told_of props)
Answers (Err (BadProps line)) read = read ≡ Err line
Answers (Err Memory) read = Unit {0}
