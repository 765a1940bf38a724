-- What the rows of a table are made of, and which properties say so.
use Rattle.std.specs.Prelude.{◌≡◌, ℕ, Bool, true, false, ◌&&◌, Option, Some, None, Result, Ok, Err, option_map, unwrap_or, slice_get}
use Rattle.avro_schema.specs.AvroTypes.{AvroType, record_of, type_of}
use Rattle.table_props.specs.declared.props.Props.{Props}
use Rattle.table_props.specs.Flat.{is_string_type, is_rank_type, first_not_flat, fields_in}
use Rattle.payload_merge.specs.declared.row_error.RowError.{RowError}
use Rattle.payload_merge.specs.declared.row_error.RowError.TheVariants.{Memory, NotFlat}
use Rattle.row_values.specs.declared.row_layout.RowLayout.{RowLayout}
use Rattle.row_values.specs.Fields.{typed_fields}

-- ---- the record types of rows

-- the type of a row's own values
abbrev pub own_type : RowLayout → AvroType
own_type layout = record_of layout.record_name (typed_fields layout.fields)

-- ---- which properties may have a layout

abbrev pub is_record : AvroType → Bool
is_record (record_of _ _) = true
is_record _ = false

-- a field of a type that passes the test stands at the place
abbrev pub has_type : (AvroType → Bool) → ℕ → AvroType → Bool
has_type test place type = unwrap_or (option_map (λ f. test f.1) (slice_get (fields_in type) place)) false

abbrev pub has_rank_type : Option ℕ → AvroType → Bool
has_rank_type None type = true
has_rank_type (Some place) type = has_type is_rank_type place type

-- the schema is a record, and the three places are those of fields of their types
abbrev pub has_typed_places : Props → Bool
has_typed_places props =
    is_record (type_of props.schema) && has_type is_string_type props.key (type_of props.schema)
    && has_type is_string_type props.partition (type_of props.schema) && has_rank_type props.ordering (type_of props.schema)

-- the layout that properties have
pub record IsLayoutOf (props : Props) (layout : RowLayout) : Type 0 where
  pub table : layout.table ≡ props.name
  pub type : own_type layout ≡ type_of props.schema
  pub key : layout.key ≡ props.key
  pub partition : layout.partition ≡ props.partition
  pub ordering : layout.ordering ≡ props.ordering
  pub flat : first_not_flat (fields_in (type_of props.schema)) ≡ None

-- The answer: a layout, or the place of the first field that isn't flat. Memory may be wanting at any time, and
-- nothing else comes.
abbrev pub AnswersLayout : Props → Result RowLayout RowError → Type 0
AnswersLayout props (Ok layout) = IsLayoutOf props layout
AnswersLayout props (Err (NotFlat place)) = first_not_flat (fields_in (type_of props.schema)) ≡ Some place
AnswersLayout props (Err error) = error ≡ Memory
