-- The written form of a footer and of a page's header: Parquet's "parquet.thrift" in Thrift's compact protocol, with the
-- fields in the order of their ids and each id told by its difference from the last one.
use Rattle.std.specs.Prelude.{codes, ℕ, ◌-ℤ◌, nat_abs, ◌<◌, ◌^◌, ℤ, pos, Bool, if◌then◌else◌, List, [], ◌∷◌, ◌++◌, length, All, Option, Some, None}
use Rattle.std.specs.List.{flat_map}
use Rattle.byte_fields.specs.Varints.{varint, zigzag}
use Rattle.byte_fields.specs.Prefixed.{with_length}
use Rattle.thrift_compact.specs.Heads.{field_head, list_head}
use Rattle.parquet_meta.specs.declared.element.Element.{Element}
use Rattle.parquet_meta.specs.declared.chunk.Chunk.{Chunk}
use Rattle.parquet_meta.specs.declared.row_group.RowGroup.{RowGroup}
use Rattle.parquet_meta.specs.declared.file_meta.FileMeta.{FileMeta}
use Rattle.parquet_meta.specs.declared.page_header.PageHeader.{PageHeader}

-- ---- structs of the compact protocol

-- a field: its id, its type and the bytes of its value
pub record Field : Type 0 where
  pub id : ℤ
  pub kind : ℕ
  pub value : List ℕ

-- fields in the order of their ids, behind one of the id `last`
abbrev pub fields_bytes : ℤ → List Field → List ℕ
fields_bytes last [] = []
fields_bytes last (field ∷ fields) = field_head (nat_abs (field.id -ℤ last)) field.kind ++ field.value
    ++ fields_bytes field.id fields

-- a struct of these fields, with its stop byte
abbrev pub struct_bytes : List Field → List ℕ
struct_bytes fields = fields_bytes (pos 0) fields ++ 0 ∷ []

-- a number, a binary and a list as values
abbrev pub number_bytes : ℤ → List ℕ
number_bytes n = varint (zigzag n)

abbrev pub binary_bytes : List ℕ → List ℕ
binary_bytes content = with_length varint content

abbrev pub list_bytes : {A : Type 0} → ℕ → (A → List ℕ) → List A → List ℕ
list_bytes kind bytes_of items = list_head kind (length items) ++ flat_map bytes_of items

abbrev pub i32_field : ℤ → ℤ → Field
i32_field id n = record { id = id; kind = 5; value = number_bytes n }

abbrev pub i64_field : ℤ → ℤ → Field
i64_field id n = record { id = id; kind = 6; value = number_bytes n }

-- a number that may be absent
abbrev pub optional_field : ℤ → Option ℤ → List Field
optional_field id None = []
optional_field id (Some n) = i32_field id n ∷ []

-- ---- a page's header

-- the DataPageHeader of a header
abbrev pub data_page_bytes : PageHeader → List ℕ
data_page_bytes h = struct_bytes
    (i32_field (pos 1) h.values ∷ i32_field (pos 2) h.encoding ∷ i32_field (pos 3) h.def_encoding
    ∷ i32_field (pos 4) h.rep_encoding ∷ [])

-- PageHeader, with its DataPageHeader as field 5
abbrev pub page_header_bytes : PageHeader → List ℕ
page_header_bytes h = struct_bytes (
    i32_field (pos 1) h.kind ∷ i32_field (pos 2) h.uncompressed ∷ i32_field (pos 3) h.compressed ∷
    (record { id = pos 5; kind = 12; value = data_page_bytes h }) ∷ [])

-- ---- a footer

-- `converted_type`: 0, UTF8, for texts
abbrev pub converted_type : Bool → Option ℤ
converted_type utf8 = if utf8 then Some (pos 0) else None

-- SchemaElement
abbrev pub element_bytes : Element → List ℕ
element_bytes e = struct_bytes
    (optional_field (pos 1) e.physical ++ optional_field (pos 3) e.repetition
    ++ (record { id = pos 4; kind = 8; value = binary_bytes e.name }) ∷ [] ++ optional_field (pos 5) e.children
    ++ optional_field (pos 6) (converted_type e.utf8))

-- the ColumnMetaData of a chunk
abbrev pub column_meta_bytes : Chunk → List ℕ
column_meta_bytes c = struct_bytes (
    i32_field (pos 1) c.physical ∷
    (record { id = pos 2; kind = 9; value = list_bytes 5 number_bytes c.encodings }) ∷
    (record { id = pos 3; kind = 9; value = list_bytes 8 binary_bytes c.path }) ∷
    i32_field (pos 4) c.codec ∷ i64_field (pos 5) c.num_values ∷ i64_field (pos 6) c.uncompressed
    ∷ i64_field (pos 7) c.compressed ∷ i64_field (pos 9) c.data_offset ∷ [])

-- ColumnChunk, with its ColumnMetaData as field 3
abbrev pub chunk_bytes : Chunk → List ℕ
chunk_bytes c = struct_bytes
    (i64_field (pos 2) c.file_offset ∷ (record { id = pos 3; kind = 12; value = column_meta_bytes c }) ∷ [])

abbrev pub row_group_bytes : RowGroup → List ℕ
row_group_bytes g = struct_bytes
    ((record { id = pos 1; kind = 9; value = list_bytes 12 chunk_bytes g.columns }) ∷ i64_field (pos 2) g.total_size
    ∷ i64_field (pos 3) g.num_rows ∷ [])

-- FileMetaData, with `created_by`
abbrev pub file_meta_bytes : FileMeta → List ℕ
file_meta_bytes m = struct_bytes (
    i32_field (pos 1) m.version ∷
    (record { id = pos 2; kind = 9; value = list_bytes 12 element_bytes m.schema }) ∷
    i64_field (pos 3) m.num_rows ∷
    (record { id = pos 4; kind = 9; value = list_bytes 12 row_group_bytes m.groups }) ∷
    (record { id = pos 6; kind = 8; value = binary_bytes (codes "hudi profile") }) ∷ [])

-- ---- what has a written form: lists of fewer than 2^32 items and binaries of fewer than 2^32 bytes

abbrev pub IsShort : {A : Type 0} → List A → Type 0
IsShort xs = length xs < 2 ^ 32

abbrev pub FitsElement : Element → Type 0
FitsElement e = IsShort e.name

pub record FitsChunk (c : Chunk) : Type 0 where
  pub encodings : IsShort c.encodings
  pub path : IsShort c.path
  pub names : All IsShort c.path

pub record FitsRowGroup (g : RowGroup) : Type 0 where
  pub columns : IsShort g.columns
  pub each : All FitsChunk g.columns

pub record FitsFileMeta (m : FileMeta) : Type 0 where
  pub schema : IsShort m.schema
  pub elements : All FitsElement m.schema
  pub groups : IsShort m.groups
  pub each : All FitsRowGroup m.groups
