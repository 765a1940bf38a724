-- A file's footer: FileMetaData and the structs in it, of the Parquet format's "parquet.thrift". The others of their fields
-- are passed over.
use Rattle.std.specs.Prelude.{ℕ, ◌+◌, ℤ, Bool, true, false, not, ◌==◌, ◌&&◌, ◌||◌, if◌then◌else◌, List, [], ◌∷◌, length, Option, Some, None, option_and_then, Result, Ok, Err, position}
use Rattle.std.specs.Option.{option_map, option_map_or}
use Rattle.byte_fields.specs.declared.field_error.FieldError.{FieldError}
use Rattle.byte_fields.specs.declared.field_error.FieldError.TheVariants.{Bad}
use Rattle.byte_fields.specs.Reading.{Reading, ◌>>=◌}
use Rattle.byte_fields.specs.Varints.{zigzag_at}
use Rattle.parquet_meta.specs.declared.element.Element.{Element}
use Rattle.parquet_meta.specs.declared.element.ElementFields.{ElementFields}
use Rattle.parquet_meta.specs.declared.chunk.ColumnMeta.{ColumnMeta}
use Rattle.parquet_meta.specs.declared.chunk.ColumnMetaFields.{ColumnMetaFields}
use Rattle.parquet_meta.specs.declared.chunk.Chunk.{Chunk}
use Rattle.parquet_meta.specs.declared.chunk.ChunkFields.{ChunkFields}
use Rattle.parquet_meta.specs.declared.row_group.RowGroup.{RowGroup}
use Rattle.parquet_meta.specs.declared.row_group.RowGroupFields.{RowGroupFields}
use Rattle.parquet_meta.specs.declared.file_meta.FileMeta.{FileMeta}
use Rattle.parquet_meta.specs.declared.file_meta.FileMetaFields.{FileMetaFields}
use Rattle.parquet_meta.specs.Reading.{is_number, binary_at, typed_at, i32_field_at, i64_field_at, binary_field_at, list_field_at, other_field_at, with_value, whole_at}

-- ---- SchemaElement: type, repetition_type, name (required), num_children

abbrev pub no_element_fields : ElementFields
no_element_fields = record { physical = None; repetition = None; name = None; children = None }

unfoldable pub element_field_at : ElementFields → ℤ → ℕ → ℕ → List ℕ → Reading ElementFields
element_field_at so_far id kind left bytes =
    if is_number 1 id then with_value (λ n. record so_far { physical = Some n }) (i32_field_at kind left bytes) else
    if is_number 3 id then with_value (λ n. record so_far { repetition = Some n }) (i32_field_at kind left bytes) else
    if is_number 4 id then with_value (λ name. record so_far { name = Some name })
    (binary_field_at kind left bytes) else
    if is_number 5 id then with_value (λ n. record so_far { children = Some n }) (i32_field_at kind left bytes) else
    other_field_at so_far kind bytes

abbrev pub element_of : ElementFields → Option Element
element_of fields = option_and_then
    (λ name. Some (record {
      physical = fields.physical;
      repetition = fields.repetition;
      name = name;
      children = fields.children;
      utf8 = false;
    })) fields.name

abbrev pub element_at : List ℕ → Reading Element
element_at = whole_at element_field_at no_element_fields element_of

-- ---- ColumnMetaData: type, encodings, path_in_schema, codec, num_values, total_uncompressed_size,
-- total_compressed_size, data_page_offset, all required

abbrev pub no_column_meta_fields : ColumnMetaFields
no_column_meta_fields = record {
  physical = None;
  encodings = None;
  path = None;
  codec = None;
  num_values = None;
  uncompressed = None;
  compressed = None;
  data_offset = None;
}

unfoldable pub column_meta_field_at : ColumnMetaFields → ℤ → ℕ → ℕ → List ℕ → Reading ColumnMetaFields
column_meta_field_at so_far id kind left bytes =
    if is_number 1 id then with_value (λ n. record so_far { physical = Some n }) (i32_field_at kind left bytes) else
    if is_number 2 id then with_value (λ ns. record so_far { encodings = Some ns })
    (list_field_at 5 (zigzag_at 32) kind left bytes) else
    if is_number 3 id then with_value (λ names. record so_far { path = Some names })
    (list_field_at 8 binary_at kind left bytes) else
    if is_number 4 id then with_value (λ n. record so_far { codec = Some n }) (i32_field_at kind left bytes) else
    if is_number 5 id then with_value (λ n. record so_far { num_values = Some n }) (i64_field_at kind left bytes) else
    if is_number 6 id then with_value (λ n. record so_far { uncompressed = Some n }) (i64_field_at kind left bytes) else
    if is_number 7 id then with_value (λ n. record so_far { compressed = Some n }) (i64_field_at kind left bytes) else
    if is_number 9 id then with_value (λ n. record so_far { data_offset = Some n }) (i64_field_at kind left bytes) else
    other_field_at so_far kind bytes

abbrev pub column_meta_of : ColumnMetaFields → Option ColumnMeta
column_meta_of fields =
    option_and_then (λ physical.
    option_and_then (λ encodings.
    option_and_then (λ path.
    option_and_then (λ codec.
    option_and_then (λ num_values.
    option_and_then (λ uncompressed.
    option_and_then (λ compressed.
    option_and_then (λ data_offset.
    Some (record {
      physical = physical;
      encodings = encodings;
      path = path;
      codec = codec;
      num_values = num_values;
      uncompressed = uncompressed;
      compressed = compressed;
      data_offset = data_offset;
    }))
    fields.data_offset) fields.compressed) fields.uncompressed) fields.num_values) fields.codec) fields.path) fields.encodings) fields.physical

abbrev pub column_meta_at : List ℕ → Reading ColumnMeta
column_meta_at = whole_at column_meta_field_at no_column_meta_fields column_meta_of

-- ---- ColumnChunk: file_offset, meta_data, which is required here too

abbrev pub no_chunk_fields : ChunkFields
no_chunk_fields = record { file_offset = None; meta = None }

unfoldable pub chunk_field_at : ChunkFields → ℤ → ℕ → ℕ → List ℕ → Reading ChunkFields
chunk_field_at so_far id kind left bytes =
    if is_number 2 id then with_value (λ n. record so_far { file_offset = Some n }) (i64_field_at kind left bytes) else
    if is_number 3 id then with_value (λ m. record so_far { meta = Some m })
    (typed_at 12 column_meta_at kind left bytes) else
    other_field_at so_far kind bytes

abbrev pub chunk_of : ChunkFields → Option Chunk
chunk_of fields =
    option_and_then (λ file_offset.
    option_and_then (λ m.
    Some (record {
      file_offset = file_offset;
      physical = m.physical;
      encodings = m.encodings;
      path = m.path;
      codec = m.codec;
      num_values = m.num_values;
      uncompressed = m.uncompressed;
      compressed = m.compressed;
      data_offset = m.data_offset;
    }))
    fields.meta) fields.file_offset

abbrev pub chunk_at : List ℕ → Reading Chunk
chunk_at = whole_at chunk_field_at no_chunk_fields chunk_of

-- ---- RowGroup: columns, total_byte_size, num_rows, all required

abbrev pub no_row_group_fields : RowGroupFields
no_row_group_fields = record { columns = None; total_size = None; num_rows = None }

unfoldable pub row_group_field_at : RowGroupFields → ℤ → ℕ → ℕ → List ℕ → Reading RowGroupFields
row_group_field_at so_far id kind left bytes =
    if is_number 1 id then with_value (λ chunks. record so_far { columns = Some chunks })
    (list_field_at 12 chunk_at kind left bytes) else
    if is_number 2 id then with_value (λ n. record so_far { total_size = Some n }) (i64_field_at kind left bytes) else
    if is_number 3 id then with_value (λ n. record so_far { num_rows = Some n }) (i64_field_at kind left bytes) else
    other_field_at so_far kind bytes

abbrev pub row_group_of : RowGroupFields → Option RowGroup
row_group_of fields =
    option_and_then (λ columns.
    option_and_then (λ total_size.
    option_and_then (λ num_rows.
    Some (record { columns = columns; total_size = total_size; num_rows = num_rows }))
    fields.num_rows) fields.total_size) fields.columns

abbrev pub row_group_at : List ℕ → Reading RowGroup
row_group_at = whole_at row_group_field_at no_row_group_fields row_group_of

-- ---- FileMetaData: version, schema, num_rows, row_groups, all required

abbrev pub no_file_meta_fields : FileMetaFields
no_file_meta_fields = record { version = None; schema = None; num_rows = None; groups = None }

unfoldable pub file_meta_field_at : FileMetaFields → ℤ → ℕ → ℕ → List ℕ → Reading FileMetaFields
file_meta_field_at so_far id kind left bytes =
    if is_number 1 id then with_value (λ n. record so_far { version = Some n }) (i32_field_at kind left bytes) else
    if is_number 2 id then with_value (λ elements. record so_far { schema = Some elements })
    (list_field_at 12 element_at kind left bytes) else
    if is_number 3 id then with_value (λ n. record so_far { num_rows = Some n }) (i64_field_at kind left bytes) else
    if is_number 4 id then with_value (λ groups. record so_far { groups = Some groups })
    (list_field_at 12 row_group_at kind left bytes) else
    other_field_at so_far kind bytes

abbrev pub file_meta_of : FileMetaFields → Option FileMeta
file_meta_of fields =
    option_and_then (λ version.
    option_and_then (λ schema.
    option_and_then (λ num_rows.
    option_and_then (λ groups.
    Some (record { version = version; schema = schema; num_rows = num_rows; groups = groups }))
    fields.groups) fields.num_rows) fields.schema) fields.version

abbrev pub file_meta_at : List ℕ → Reading FileMeta
file_meta_at = whole_at file_meta_field_at no_file_meta_fields file_meta_of

-- ---- the footer

-- what has been read, if no byte is left; else the first of those left is bad
abbrev pub with_nothing_left : {A : Type 0} → A × List ℕ → Result A FieldError
with_nothing_left found = if length found.1 == 0 then Ok found.0 else Err (Bad (length found.1))

-- the struct that is all of the bytes
unfoldable pub footer_of : List ℕ → Result FileMeta FieldError
footer_of bytes = file_meta_at bytes >>= with_nothing_left

-- ---- plain columns

-- a leaf that isn't repeated, of one of the physical types boolean, 32 bits, 64 bits and byte array
abbrev pub is_plain : Element → Bool
is_plain element =
    option_map_or (is_number 0) element.children true
    && not (option_map_or (is_number 2) element.repetition false)
    && option_map_or (λ n. is_number 0 n || is_number 1 n || is_number 2 n || is_number 6 n) element.physical false

-- the first element after the root that isn't a plain column
abbrev pub first_unsupported : List Element → Option ℕ
first_unsupported [] = None
first_unsupported (root ∷ columns) = option_map (λ i. i + 1) (position (λ element. not (is_plain element)) columns)
