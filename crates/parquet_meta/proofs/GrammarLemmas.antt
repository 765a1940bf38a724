-- Each struct of the Parquet format is read exactly where the bytes are one.
use Rattle.std.proofs.Common.{◌≡◌, ◌≤◌, ◌+◌, ◌-◌, drop, ℕ, Bool, true, false, Some, Result, Err, subst, List, [], ◌∷◌, ◌++◌, length, Ok, refl, sym, ap, ◌∙◌, arith}
use Rattle.std.specs.Prelude.{◌==◌, if◌then◌else◌}
use Rattle.std.proofs.lemmas.Bool.{eqb-true}
use Rattle.std.proofs.lemmas.List.{append-nil, length-append}
use Rattle.std.proofs.Math.Seq.{drop-append_seam}
use Rattle.byte_fields.specs.declared.field_error.FieldError.{FieldError}
use Rattle.byte_fields.specs.declared.field_error.FieldError.TheVariants.{Bad}
use Rattle.byte_fields.specs.Reading.{Reading, ◌>>=◌}
use Rattle.byte_fields.specs.Varints.{zigzag_at}
use Rattle.byte_fields.proofs.ReadingLemmas.{bind-Ok}
use Rattle.parquet_meta.specs.declared.file_meta.FileMeta.{FileMeta}
use Rattle.parquet_meta.specs.declared.page_header.PageHeader.{PageHeader}
use Rattle.parquet_meta.specs.Reading.{is_number, binary_at, list_of_at}
use Rattle.parquet_meta.specs.Footers.{no_element_fields, element_field_at, element_of, element_at, no_column_meta_fields, column_meta_field_at, column_meta_of, column_meta_at, no_chunk_fields, chunk_field_at, chunk_of, chunk_at, no_row_group_fields, row_group_field_at, row_group_of, row_group_at, no_file_meta_fields, file_meta_field_at, file_meta_of, file_meta_at, with_nothing_left, footer_of}
use Rattle.parquet_meta.specs.PageHeaders.{no_data_page_fields, data_page_field_at, data_page_of, data_page_at, no_page_header_fields, page_header_field_at, page_header_of, page_header_at}
use Rattle.parquet_meta.specs.StaysLaws.{element_field_stays, column_meta_field_stays, chunk_field_stays, row_group_field_stays, file_meta_field_stays, data_page_field_stays, page_header_field_stays}
use Rattle.parquet_meta.specs.Structs.{IsNumber32, IsNumber64, IsBinaryOf, IsListOf, ElementField, IsElementStruct, ColumnMetaField, IsColumnMetaStruct, ChunkField, IsChunkStruct, RowGroupField, IsRowGroupStruct, FileMetaField, IsFooter, DataPageField, IsDataPageStruct, PageHeaderField, IsHeader}
use Rattle.parquet_meta.proofs.StructLemmas.{Knows, FieldsKnown, number32_known, number64_known, binary_known, kept, one_of, passed, list_known, whole_known}

element_fields : FieldsKnown element_field_at ElementField
unfolding element_field_at ElementField
element_fields so_far id kind left =
    one_of (is_number 1 id) kind _ _ _ _ (kept 5 (zigzag_at 32) IsNumber32 (λ n. record so_far { physical = Some n }) id kind left number32_known)
    (one_of (is_number 3 id) kind _ _ _ _ (kept 5 (zigzag_at 32) IsNumber32 (λ n. record so_far { repetition = Some n }) id kind left number32_known)
    (one_of (is_number 4 id) kind _ _ _ _ (kept 8 binary_at IsBinaryOf (λ name. record so_far { name = Some name }) id kind left binary_known)
    (one_of (is_number 5 id) kind _ _ _ _ (kept 5 (zigzag_at 32) IsNumber32 (λ n. record so_far { children = Some n }) id kind left number32_known)
    (passed so_far id kind))))

element_known : Knows 12 element_at IsElementStruct
element_known = whole_known element_field_at ElementField no_element_fields element_of element_field_stays element_fields

column_meta_fields : FieldsKnown column_meta_field_at ColumnMetaField
unfolding column_meta_field_at ColumnMetaField
column_meta_fields so_far id kind left =
    one_of (is_number 1 id) kind _ _ _ _ (kept 5 (zigzag_at 32) IsNumber32 (λ n. record so_far { physical = Some n }) id kind left number32_known)
    (one_of (is_number 2 id) kind _ _ _ _ (kept 9 (list_of_at 5 (zigzag_at 32)) (IsListOf 5 IsNumber32) (λ ns. record so_far { encodings = Some ns }) id kind left (list_known 5 (zigzag_at 32) IsNumber32 refl number32_known))
    (one_of (is_number 3 id) kind _ _ _ _ (kept 9 (list_of_at 8 binary_at) (IsListOf 8 IsBinaryOf) (λ names. record so_far { path = Some names }) id kind left (list_known 8 binary_at IsBinaryOf refl binary_known))
    (one_of (is_number 4 id) kind _ _ _ _ (kept 5 (zigzag_at 32) IsNumber32 (λ n. record so_far { codec = Some n }) id kind left number32_known)
    (one_of (is_number 5 id) kind _ _ _ _ (kept 6 (zigzag_at 64) IsNumber64 (λ n. record so_far { num_values = Some n }) id kind left number64_known)
    (one_of (is_number 6 id) kind _ _ _ _ (kept 6 (zigzag_at 64) IsNumber64 (λ n. record so_far { uncompressed = Some n }) id kind left number64_known)
    (one_of (is_number 7 id) kind _ _ _ _ (kept 6 (zigzag_at 64) IsNumber64 (λ n. record so_far { compressed = Some n }) id kind left number64_known)
    (one_of (is_number 9 id) kind _ _ _ _ (kept 6 (zigzag_at 64) IsNumber64 (λ n. record so_far { data_offset = Some n }) id kind left number64_known)
    (passed so_far id kind))))))))

column_meta_known : Knows 12 column_meta_at IsColumnMetaStruct
column_meta_known = whole_known column_meta_field_at ColumnMetaField no_column_meta_fields column_meta_of column_meta_field_stays column_meta_fields

chunk_fields : FieldsKnown chunk_field_at ChunkField
unfolding chunk_field_at ChunkField
chunk_fields so_far id kind left =
    one_of (is_number 2 id) kind _ _ _ _ (kept 6 (zigzag_at 64) IsNumber64 (λ n. record so_far { file_offset = Some n }) id kind left number64_known)
    (one_of (is_number 3 id) kind _ _ _ _ (kept 12 column_meta_at IsColumnMetaStruct (λ m. record so_far { meta = Some m }) id kind left column_meta_known)
    (passed so_far id kind))

chunk_known : Knows 12 chunk_at IsChunkStruct
chunk_known = whole_known chunk_field_at ChunkField no_chunk_fields chunk_of chunk_field_stays chunk_fields

row_group_fields : FieldsKnown row_group_field_at RowGroupField
unfolding row_group_field_at RowGroupField
row_group_fields so_far id kind left =
    one_of (is_number 1 id) kind _ _ _ _ (kept 9 (list_of_at 12 chunk_at) (IsListOf 12 IsChunkStruct) (λ chunks. record so_far { columns = Some chunks }) id kind left (list_known 12 chunk_at IsChunkStruct refl chunk_known))
    (one_of (is_number 2 id) kind _ _ _ _ (kept 6 (zigzag_at 64) IsNumber64 (λ n. record so_far { total_size = Some n }) id kind left number64_known)
    (one_of (is_number 3 id) kind _ _ _ _ (kept 6 (zigzag_at 64) IsNumber64 (λ n. record so_far { num_rows = Some n }) id kind left number64_known)
    (passed so_far id kind)))

row_group_known : Knows 12 row_group_at IsRowGroupStruct
row_group_known = whole_known row_group_field_at RowGroupField no_row_group_fields row_group_of row_group_field_stays row_group_fields

file_meta_fields : FieldsKnown file_meta_field_at FileMetaField
unfolding file_meta_field_at FileMetaField
file_meta_fields so_far id kind left =
    one_of (is_number 1 id) kind _ _ _ _ (kept 5 (zigzag_at 32) IsNumber32 (λ n. record so_far { version = Some n }) id kind left number32_known)
    (one_of (is_number 2 id) kind _ _ _ _ (kept 9 (list_of_at 12 element_at) (IsListOf 12 IsElementStruct) (λ es. record so_far { schema = Some es }) id kind left (list_known 12 element_at IsElementStruct refl element_known))
    (one_of (is_number 3 id) kind _ _ _ _ (kept 6 (zigzag_at 64) IsNumber64 (λ n. record so_far { num_rows = Some n }) id kind left number64_known)
    (one_of (is_number 4 id) kind _ _ _ _ (kept 9 (list_of_at 12 row_group_at) (IsListOf 12 IsRowGroupStruct) (λ gs. record so_far { groups = Some gs }) id kind left (list_known 12 row_group_at IsRowGroupStruct refl row_group_known))
    (passed so_far id kind))))

pub file_meta_known : Knows 12 file_meta_at IsFooter
file_meta_known = whole_known file_meta_field_at FileMetaField no_file_meta_fields file_meta_of file_meta_field_stays file_meta_fields

data_page_fields : FieldsKnown data_page_field_at DataPageField
unfolding data_page_field_at DataPageField
data_page_fields so_far id kind left =
    one_of (is_number 1 id) kind _ _ _ _ (kept 5 (zigzag_at 32) IsNumber32 (λ n. record so_far { values = Some n }) id kind left number32_known)
    (one_of (is_number 2 id) kind _ _ _ _ (kept 5 (zigzag_at 32) IsNumber32 (λ n. record so_far { encoding = Some n }) id kind left number32_known)
    (one_of (is_number 3 id) kind _ _ _ _ (kept 5 (zigzag_at 32) IsNumber32 (λ n. record so_far { def_encoding = Some n }) id kind left number32_known)
    (one_of (is_number 4 id) kind _ _ _ _ (kept 5 (zigzag_at 32) IsNumber32 (λ n. record so_far { rep_encoding = Some n }) id kind left number32_known)
    (passed so_far id kind))))

data_page_known : Knows 12 data_page_at IsDataPageStruct
data_page_known = whole_known data_page_field_at DataPageField no_data_page_fields data_page_of data_page_field_stays data_page_fields

page_header_fields : FieldsKnown page_header_field_at PageHeaderField
unfolding page_header_field_at PageHeaderField
page_header_fields so_far id kind left =
    one_of (is_number 1 id) kind _ _ _ _ (kept 5 (zigzag_at 32) IsNumber32 (λ n. record so_far { kind = Some n }) id kind left number32_known)
    (one_of (is_number 2 id) kind _ _ _ _ (kept 5 (zigzag_at 32) IsNumber32 (λ n. record so_far { uncompressed = Some n }) id kind left number32_known)
    (one_of (is_number 3 id) kind _ _ _ _ (kept 5 (zigzag_at 32) IsNumber32 (λ n. record so_far { compressed = Some n }) id kind left number32_known)
    (one_of (is_number 5 id) kind _ _ _ _ (kept 12 data_page_at IsDataPageStruct (λ p. record so_far { page = Some p }) id kind left data_page_known)
    (passed so_far id kind))))

pub page_header_known : Knows 12 page_header_at IsHeader
page_header_known = whole_known page_header_field_at PageHeaderField no_page_header_fields page_header_of page_header_field_stays page_header_fields

-- ---- footers

nothing_left : (found : FileMeta × List ℕ) (m : FileMeta) → with_nothing_left found ≡ Ok m → (found.0 ≡ m) × (found.1 ≡ [])
nothing_left found m e = by_test (length found.1 == 0) refl e
  where
    none : (bytes : List ℕ) → length bytes ≡ 0 → bytes ≡ []
    none [] e = refl
    none (byte ∷ bytes) e = absurd (omega (arith, e))

    by_test : (b : Bool) → (length found.1 == 0) ≡ b → (let r : Result FileMeta FieldError = if b then Ok found.0 else Err (Bad (length found.1)) in r) ≡ Ok m → (found.0 ≡ m) × (found.1 ≡ [])
    by_test true is e = (cc, none found.1 (eqb-true _ _ is))
    by_test false is e = absurd cc

pub footer_took : (m : FileMeta) (bytes : List ℕ) → footer_of bytes ≡ Ok m → IsFooter m bytes
unfolding footer_of
footer_took m bytes e =
    let first = bind-Ok (file_meta_at bytes) with_nothing_left m e in
    let last = nothing_left first.0 m first.2 in
    let t = file_meta_known.takes.took bytes first.0.1 first.0.0 first.1 in
    let all : t.0 ≡ bytes = sym (t.1 ∙ ap (λ (r : List ℕ). t.0 ++ r) last.1 ∙ append-nil t.0) in
    subst (λ (x : FileMeta). IsFooter x bytes) last.0 (subst (λ (b : List ℕ). IsFooter first.0.0 b) all t.2)

pub footer_back : (m : FileMeta) (bytes : List ℕ) → IsFooter m bytes → footer_of bytes ≡ Ok m
unfolding footer_of
footer_back m bytes is =
    ap (λ (b : List ℕ). file_meta_at b >>= with_nothing_left) (sym (append-nil bytes))
    ∙ ap (λ (r : Reading FileMeta). r >>= with_nothing_left) (file_meta_known.takes.again bytes [] m is)

-- ---- page headers

-- where the reader stands behind a header, which is a front of the bytes
pub header_answer : (bytes whole rest : List ℕ) (h : PageHeader) (offset : ℕ) → whole ≡ bytes → page_header_at whole ≡ Ok (h, rest) → offset ≡ length bytes - length rest → (offset ≤ length bytes) × (page_header_at bytes ≡ Ok (h, drop offset bytes))
header_answer bytes whole rest h offset same read stands =
    let e : page_header_at bytes ≡ Ok (h, rest) = ap page_header_at (sym same) ∙ read in
    let t = page_header_known.takes.took bytes rest h e in
    let len : length bytes ≡ length t.0 + length rest = ap length t.1 ∙ length-append t.0 rest in
    let front : offset ≡ length t.0 = omega arith in
    let after : drop offset bytes ≡ rest = ap (λ (n : ℕ). drop n bytes) front ∙ ap (drop (length t.0)) t.1 ∙ drop-append_seam t.0 rest in
    (omega arith, e ∙ ap (λ (r : List ℕ). Ok (h, r)) (sym after))
