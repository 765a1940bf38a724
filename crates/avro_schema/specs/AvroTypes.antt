-- What a schema says: a tree, without where it lies in memory. "Schema Declaration" of the Avro specification, without
-- floating-point types and without references to named types.
use Rattle.std.specs.Prelude.{ℕ, List, [], ◌∷◌}
use Rattle.avro_schema.specs.declared.schema.Schema.{Schema, fold-Schema}
use Rattle.avro_schema.specs.declared.schema.Schema.TheFolds.{fold-Field}
use Rattle.avro_schema.specs.declared.schema.Schema.TheOpen.{Schema-F, Field-F}
use Rattle.avro_schema.specs.declared.schema.Field.{Field}

mutual
  pub data AvroType : Type 0 where
    null : AvroType
    boolean : AvroType
    int : AvroType
    long : AvroType
    bytes : AvroType
    string : AvroType
    fixed_of : List ℕ → ℕ → AvroType
    enum_of : List ℕ → List (List ℕ) → AvroType
    array_of : AvroType → AvroType
    map_of : AvroType → AvroType
    union_of : Branches → AvroType
    record_of : List ℕ → Fields → AvroType

  pub data Branches : Type 0 where
    no_branches : Branches
    branch : AvroType → Branches → Branches

  -- names and types
  pub data Fields : Type 0 where
    no_fields : Fields
    field : List ℕ → AvroType → Fields → Fields

abbrev pub branches_of : List AvroType → Branches
branches_of [] = no_branches
branches_of (type ∷ types) = branch type (branches_of types)

abbrev pub fields_of : List (List ℕ × AvroType) → Fields
fields_of [] = no_fields
fields_of (f ∷ fs) = field f.0 f.1 (fields_of fs)

-- one level of a schema, with what each schema and field inside says in its place
abbrev pub type_step : Schema-F AvroType (List ℕ × AvroType) → AvroType
type_step Schema-F.Null = null
type_step Schema-F.Boolean = boolean
type_step Schema-F.Int = int
type_step Schema-F.Long = long
type_step Schema-F.Bytes = bytes
type_step Schema-F.Text = string
type_step (Schema-F.Fixed name size) = fixed_of name size
type_step (Schema-F.Enum name symbols) = enum_of name symbols
type_step (Schema-F.Array item) = array_of item
type_step (Schema-F.Map value) = map_of value
type_step (Schema-F.Union branches) = union_of (branches_of branches)
type_step (Schema-F.Record name fields) = record_of name (fields_of fields)

abbrev pub field_step : Field-F AvroType (List ℕ × AvroType) → List ℕ × AvroType
field_step f = (f.name, f.schema)

-- the type that a schema stands for
abbrev pub type_of : Schema → AvroType
type_of = fold-Schema AvroType (List ℕ × AvroType) type_step field_step

-- a field's name and type
abbrev pub field_of : Field → List ℕ × AvroType
field_of = fold-Field AvroType (List ℕ × AvroType) type_step field_step
