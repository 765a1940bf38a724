-- Which bytes are a footer and which are a page's header, apart from how they are read. A struct of the compact protocol is
-- a list of fields. Fields are a struct of the Parquet format where each that it knows has its type, and those that it
-- requires are there.
use Rattle.std.specs.Prelude.{◌≡◌, ℕ, ℤ, pos, List, [], ◌∷◌, ◌++◌, length, Option, Some, MatchBool}
use Rattle.byte_fields.specs.Varints.{zigzag}
use Rattle.thrift_compact.specs.Grammar.{IsSize, IsListHead, RawField, AreFields, IsValue}
use Rattle.parquet_meta.specs.declared.element.Element.{Element}
use Rattle.parquet_meta.specs.declared.element.ElementFields.{ElementFields}
use Rattle.parquet_meta.specs.declared.chunk.ColumnMeta.{ColumnMeta}
use Rattle.parquet_meta.specs.declared.chunk.ColumnMetaFields.{ColumnMetaFields}
use Rattle.parquet_meta.specs.declared.chunk.Chunk.{Chunk}
use Rattle.parquet_meta.specs.declared.chunk.ChunkFields.{ChunkFields}
use Rattle.parquet_meta.specs.declared.row_group.RowGroup.{RowGroup}
use Rattle.parquet_meta.specs.declared.row_group.RowGroupFields.{RowGroupFields}
use Rattle.parquet_meta.specs.declared.file_meta.FileMeta.{FileMeta}
use Rattle.parquet_meta.specs.declared.file_meta.FileMetaFields.{FileMetaFields}
use Rattle.parquet_meta.specs.declared.page_header.PageHeader.{PageHeader}
use Rattle.parquet_meta.specs.declared.page_header.PageHeaderFields.{PageHeaderFields}
use Rattle.parquet_meta.specs.declared.page_header.DataPage.{DataPage}
use Rattle.parquet_meta.specs.declared.page_header.DataPageFields.{DataPageFields}
use Rattle.parquet_meta.specs.Reading.{is_number}
use Rattle.parquet_meta.specs.Footers.{no_element_fields, element_of, no_column_meta_fields, column_meta_of, no_chunk_fields, chunk_of, no_row_group_fields, row_group_of, no_file_meta_fields, file_meta_of}
use Rattle.parquet_meta.specs.PageHeaders.{no_data_page_fields, data_page_of, no_page_header_fields, page_header_of}

-- ---- values

-- signed numbers of 32 and of 64 bits
abbrev pub IsNumber32 : ℤ → List ℕ → Type 0
IsNumber32 n bytes = IsSize 32 (zigzag n) bytes

abbrev pub IsNumber64 : ℤ → List ℕ → Type 0
IsNumber64 n bytes = IsSize 64 (zigzag n) bytes

-- bytes behind the varint of their length
abbrev pub IsBinaryOf : List ℕ → List ℕ → Type 0
IsBinaryOf content bytes = (size : List ℕ) × (bytes ≡ size ++ content) × IsSize 32 (length content) size

-- items, one after another
abbrev pub AreItems : {A : Type 0} → (A → List ℕ → Type 0) → List A → List ℕ → Type 0
AreItems Form [] bytes = bytes ≡ []
AreItems Form (x ∷ xs) bytes =
    (first more : List ℕ) × (bytes ≡ first ++ more) × Form x first × AreItems Form xs more

-- a list of items of a type
abbrev pub IsListOf : {A : Type 0} → ℕ → (A → List ℕ → Type 0) → List A → List ℕ → Type 0
IsListOf kind Form xs bytes =
    (head items : List ℕ) × (bytes ≡ head ++ items) × IsListHead kind (length xs) head × AreItems Form xs items

-- ---- fields: what is kept after one follows from what was kept before it

-- a known field has this type, its value is of the form, and it is kept
abbrev pub IsKept : {A S : Type 0} → ℕ → (A → List ℕ → Type 0) → (A → S) → RawField → S → Type 0
IsKept {A} kind Form set field after =
    (field.kind ≡ kind) × ((x : A) × Form x field.value × (after ≡ set x))

-- any other is passed over, with containers in at most 32 levels
abbrev pub IsPassed : {S : Type 0} → S → RawField → S → Type 0
IsPassed before field after = IsValue 32 field.kind field.value × (after ≡ before)

-- what holds of a field of this id, and of one of any other
abbrev pub OfId : ℕ → RawField → Type 0 → Type 0 → Type 0
OfId id field P others = MatchBool (is_number id field.id) P others

-- One field after another, so of an id that comes twice the last counts.
abbrev pub Keep : {S : Type 0} → (S → RawField → S → Type 0) → S → List RawField → S → Type 0
Keep Field before [] after = before ≡ after
Keep {S} Field before (field ∷ fields) after = (next : S) × Field before field next × Keep Field next fields after

-- ---- structs

-- a value of the type, nested to any depth
abbrev pub IsAnyValue : ℕ → List ℕ → Type 0
IsAnyValue kind bytes = (levels : ℕ) × IsValue levels kind bytes

-- a struct of the compact protocol, of these fields
abbrev pub IsStruct : List RawField → List ℕ → Type 0
IsStruct fields bytes = AreFields IsAnyValue (pos 0) fields bytes

-- the fields are a whole x
abbrev pub AreWhole : {S A : Type 0} → (S → RawField → S → Type 0) → S → (S → Option A) → List RawField → A → Type 0
AreWhole {S} Field nothing whole fields x = (kept : S) × Keep Field nothing fields kept × (whole kept ≡ Some x)

-- the bytes are a struct, and its fields are a whole x
abbrev pub IsWhole : {S A : Type 0} → (S → RawField → S → Type 0) → S → (S → Option A) → A → List ℕ → Type 0
IsWhole Field nothing whole x bytes =
    (fields : List RawField) × IsStruct fields bytes × AreWhole Field nothing whole fields x

-- ---- footers

unfoldable pub ElementField : ElementFields → RawField → ElementFields → Type 0
ElementField before field after =
    OfId 1 field (IsKept 5 IsNumber32 (λ n. record before { physical = Some n }) field after)
    (OfId 3 field (IsKept 5 IsNumber32 (λ n. record before { repetition = Some n }) field after)
    (OfId 4 field (IsKept 8 IsBinaryOf (λ name. record before { name = Some name }) field after)
    (OfId 5 field (IsKept 5 IsNumber32 (λ n. record before { children = Some n }) field after)
    (IsPassed before field after))))

abbrev pub IsElementStruct : Element → List ℕ → Type 0
IsElementStruct = IsWhole ElementField no_element_fields element_of

unfoldable pub ColumnMetaField : ColumnMetaFields → RawField → ColumnMetaFields → Type 0
ColumnMetaField before field after =
    OfId 1 field (IsKept 5 IsNumber32 (λ n. record before { physical = Some n }) field after)
    (OfId 2 field (IsKept 9 (IsListOf 5 IsNumber32) (λ ns. record before { encodings = Some ns }) field after)
    (OfId 3 field (IsKept 9 (IsListOf 8 IsBinaryOf) (λ names. record before { path = Some names }) field after)
    (OfId 4 field (IsKept 5 IsNumber32 (λ n. record before { codec = Some n }) field after)
    (OfId 5 field (IsKept 6 IsNumber64 (λ n. record before { num_values = Some n }) field after)
    (OfId 6 field (IsKept 6 IsNumber64 (λ n. record before { uncompressed = Some n }) field after)
    (OfId 7 field (IsKept 6 IsNumber64 (λ n. record before { compressed = Some n }) field after)
    (OfId 9 field (IsKept 6 IsNumber64 (λ n. record before { data_offset = Some n }) field after)
    (IsPassed before field after))))))))

abbrev pub IsColumnMetaStruct : ColumnMeta → List ℕ → Type 0
IsColumnMetaStruct = IsWhole ColumnMetaField no_column_meta_fields column_meta_of

unfoldable pub ChunkField : ChunkFields → RawField → ChunkFields → Type 0
ChunkField before field after =
    OfId 2 field (IsKept 6 IsNumber64 (λ n. record before { file_offset = Some n }) field after)
    (OfId 3 field (IsKept 12 IsColumnMetaStruct (λ m. record before { meta = Some m }) field after)
    (IsPassed before field after))

abbrev pub IsChunkStruct : Chunk → List ℕ → Type 0
IsChunkStruct = IsWhole ChunkField no_chunk_fields chunk_of

unfoldable pub RowGroupField : RowGroupFields → RawField → RowGroupFields → Type 0
RowGroupField before field after =
    OfId 1 field (IsKept 9 (IsListOf 12 IsChunkStruct) (λ chunks. record before { columns = Some chunks }) field after)
    (OfId 2 field (IsKept 6 IsNumber64 (λ n. record before { total_size = Some n }) field after)
    (OfId 3 field (IsKept 6 IsNumber64 (λ n. record before { num_rows = Some n }) field after)
    (IsPassed before field after)))

abbrev pub IsRowGroupStruct : RowGroup → List ℕ → Type 0
IsRowGroupStruct = IsWhole RowGroupField no_row_group_fields row_group_of

unfoldable pub FileMetaField : FileMetaFields → RawField → FileMetaFields → Type 0
FileMetaField before field after =
    OfId 1 field (IsKept 5 IsNumber32 (λ n. record before { version = Some n }) field after)
    (OfId 2 field (IsKept 9 (IsListOf 12 IsElementStruct) (λ es. record before { schema = Some es }) field after)
    (OfId 3 field (IsKept 6 IsNumber64 (λ n. record before { num_rows = Some n }) field after)
    (OfId 4 field (IsKept 9 (IsListOf 12 IsRowGroupStruct) (λ gs. record before { groups = Some gs }) field after)
    (IsPassed before field after))))

abbrev pub IsFooter : FileMeta → List ℕ → Type 0
IsFooter = IsWhole FileMetaField no_file_meta_fields file_meta_of

-- ---- page headers

unfoldable pub DataPageField : DataPageFields → RawField → DataPageFields → Type 0
DataPageField before field after =
    OfId 1 field (IsKept 5 IsNumber32 (λ n. record before { values = Some n }) field after)
    (OfId 2 field (IsKept 5 IsNumber32 (λ n. record before { encoding = Some n }) field after)
    (OfId 3 field (IsKept 5 IsNumber32 (λ n. record before { def_encoding = Some n }) field after)
    (OfId 4 field (IsKept 5 IsNumber32 (λ n. record before { rep_encoding = Some n }) field after)
    (IsPassed before field after))))

abbrev pub IsDataPageStruct : DataPage → List ℕ → Type 0
IsDataPageStruct = IsWhole DataPageField no_data_page_fields data_page_of

unfoldable pub PageHeaderField : PageHeaderFields → RawField → PageHeaderFields → Type 0
PageHeaderField before field after =
    OfId 1 field (IsKept 5 IsNumber32 (λ n. record before { kind = Some n }) field after)
    (OfId 2 field (IsKept 5 IsNumber32 (λ n. record before { uncompressed = Some n }) field after)
    (OfId 3 field (IsKept 5 IsNumber32 (λ n. record before { compressed = Some n }) field after)
    (OfId 5 field (IsKept 12 IsDataPageStruct (λ p. record before { page = Some p }) field after)
    (IsPassed before field after))))

abbrev pub IsHeader : PageHeader → List ℕ → Type 0
IsHeader = IsWhole PageHeaderField no_page_header_fields page_header_of
