-- A written footer is read back.
use Rattle.std.proofs.Common.{◌≡◌, ℕ, Bool, true, false, List, [], ◌∷◌, ◌++◌, map, Option, Some, None, Ok, ℤ, pos, refl, sym, ap, ◌∙◌, lit<}
use Rattle.std.specs.Prelude.{codes}
use Rattle.std.proofs.lemmas.List.{append-nil}
use Rattle.byte_fields.specs.Reading.{Reading, ◌>>=◌}
use Rattle.byte_fields.specs.Varints.{zigzag_at}
use Rattle.parquet_meta.specs.declared.element.Element.{Element}
use Rattle.parquet_meta.specs.declared.chunk.Chunk.{Chunk}
use Rattle.parquet_meta.specs.declared.row_group.RowGroup.{RowGroup}
use Rattle.parquet_meta.specs.declared.file_meta.FileMeta.{FileMeta}
use Rattle.parquet_meta.specs.Reading.{with_value, binary_at}
use Rattle.parquet_meta.specs.Footers.{no_element_fields, element_field_at, element_of, element_at, no_column_meta_fields, column_meta_field_at, column_meta_of, column_meta_at, no_chunk_fields, chunk_field_at, chunk_of, chunk_at, no_row_group_fields, row_group_field_at, row_group_of, row_group_at, no_file_meta_fields, file_meta_field_at, file_meta_of, file_meta_at, with_nothing_left, footer_of}
use Rattle.parquet_meta.specs.StaysLaws.{element_field_stays, column_meta_field_stays, chunk_field_stays, row_group_field_stays, file_meta_field_stays}
use Rattle.parquet_meta.specs.Written.{i32_field, i64_field, number_bytes, binary_bytes, list_bytes, element_bytes, column_meta_bytes, chunk_bytes, row_group_bytes, file_meta_bytes, IsShort}
use Rattle.parquet_meta.specs.ReadBack.{Is32, element_read, meta_read}
use Rattle.parquet_meta.proofs.FitLemmas.{IsElement, IsChunk, IsRowGroup, IsFileMeta}
use Rattle.parquet_meta.proofs.ReadBackLemmas.{number32_again, number64_again, binary_again, whole_again, list_again, same_list_again, passed_binary_again, passed_number_again, zero_fits}

column_meta_again : (c : Chunk) (rest : List ℕ) → IsChunk c → column_meta_at (column_meta_bytes c ++ rest) ≡ Ok ((record { physical = c.physical; encodings = c.encodings; path = c.path; codec = c.codec; num_values = c.num_values; uncompressed = c.uncompressed; compressed = c.compressed; data_offset = c.data_offset }), rest)
unfolding column_meta_field_at
column_meta_again c rest fits =
    whole_again column_meta_field_at no_column_meta_fields column_meta_of column_meta_field_stays
    (i32_field (pos 1) c.physical ∷ (record { id = pos 2; kind = 9; value = list_bytes 5 number_bytes c.encodings }) ∷ (record { id = pos 3; kind = 9; value = list_bytes 8 binary_bytes c.path }) ∷ i32_field (pos 4) c.codec ∷ i64_field (pos 5) c.num_values ∷ i64_field (pos 6) c.uncompressed ∷ i64_field (pos 7) c.compressed ∷ i64_field (pos 9) c.data_offset ∷ [])
    (record no_column_meta_fields { physical = Some c.physical; encodings = Some c.encodings; path = Some c.path; codec = Some c.codec; num_values = Some c.num_values; uncompressed = Some c.uncompressed; compressed = Some c.compressed; data_offset = Some c.data_offset })
    (record { physical = c.physical; encodings = c.encodings; path = c.path; codec = c.codec; num_values = c.num_values; uncompressed = c.uncompressed; compressed = c.compressed; data_offset = c.data_offset }) rest
    (record { difference = 1; is = refl; sum = refl; some = lit< tt; few = lit< tt; known = refl; half = lit< tt; fits = refl }, (record { difference = 1; is = refl; sum = refl; some = lit< tt; few = lit< tt; known = refl; half = lit< tt; fits = refl }, (record { difference = 1; is = refl; sum = refl; some = lit< tt; few = lit< tt; known = refl; half = lit< tt; fits = refl }, (record { difference = 1; is = refl; sum = refl; some = lit< tt; few = lit< tt; known = refl; half = lit< tt; fits = refl }, (record { difference = 1; is = refl; sum = refl; some = lit< tt; few = lit< tt; known = refl; half = lit< tt; fits = refl }, (record { difference = 1; is = refl; sum = refl; some = lit< tt; few = lit< tt; known = refl; half = lit< tt; fits = refl }, (record { difference = 1; is = refl; sum = refl; some = lit< tt; few = lit< tt; known = refl; half = lit< tt; fits = refl }, (record { difference = 2; is = refl; sum = refl; some = lit< tt; few = lit< tt; known = refl; half = lit< tt; fits = refl }, tt))))))))
    ((record no_column_meta_fields { physical = Some c.physical }), λ left more. ap (with_value (λ x. record no_column_meta_fields { physical = Some x })) (number32_again c.physical more fits.physical), ((record no_column_meta_fields { physical = Some c.physical; encodings = Some c.encodings }), λ left more. ap (with_value (λ x. record (record no_column_meta_fields { physical = Some c.physical }) { encodings = Some x })) (same_list_again 5 (zigzag_at 32) number_bytes Is32 refl (lit< tt) (λ n more is. number32_again n more is) c.encodings more fits.encodings fits.each_encoding), ((record no_column_meta_fields { physical = Some c.physical; encodings = Some c.encodings; path = Some c.path }), λ left more. ap (with_value (λ x. record (record no_column_meta_fields { physical = Some c.physical; encodings = Some c.encodings }) { path = Some x })) (same_list_again 8 binary_at binary_bytes IsShort refl (lit< tt) (λ name more is. binary_again name more is) c.path more fits.path fits.each_name), ((record no_column_meta_fields { physical = Some c.physical; encodings = Some c.encodings; path = Some c.path; codec = Some c.codec }), λ left more. ap (with_value (λ x. record (record no_column_meta_fields { physical = Some c.physical; encodings = Some c.encodings; path = Some c.path }) { codec = Some x })) (number32_again c.codec more fits.codec), ((record no_column_meta_fields { physical = Some c.physical; encodings = Some c.encodings; path = Some c.path; codec = Some c.codec; num_values = Some c.num_values }), λ left more. ap (with_value (λ x. record (record no_column_meta_fields { physical = Some c.physical; encodings = Some c.encodings; path = Some c.path; codec = Some c.codec }) { num_values = Some x })) (number64_again c.num_values more fits.num_values), ((record no_column_meta_fields { physical = Some c.physical; encodings = Some c.encodings; path = Some c.path; codec = Some c.codec; num_values = Some c.num_values; uncompressed = Some c.uncompressed }), λ left more. ap (with_value (λ x. record (record no_column_meta_fields { physical = Some c.physical; encodings = Some c.encodings; path = Some c.path; codec = Some c.codec; num_values = Some c.num_values }) { uncompressed = Some x })) (number64_again c.uncompressed more fits.uncompressed), ((record no_column_meta_fields { physical = Some c.physical; encodings = Some c.encodings; path = Some c.path; codec = Some c.codec; num_values = Some c.num_values; uncompressed = Some c.uncompressed; compressed = Some c.compressed }), λ left more. ap (with_value (λ x. record (record no_column_meta_fields { physical = Some c.physical; encodings = Some c.encodings; path = Some c.path; codec = Some c.codec; num_values = Some c.num_values; uncompressed = Some c.uncompressed }) { compressed = Some x })) (number64_again c.compressed more fits.compressed), ((record no_column_meta_fields { physical = Some c.physical; encodings = Some c.encodings; path = Some c.path; codec = Some c.codec; num_values = Some c.num_values; uncompressed = Some c.uncompressed; compressed = Some c.compressed; data_offset = Some c.data_offset }), λ left more. ap (with_value (λ x. record (record no_column_meta_fields { physical = Some c.physical; encodings = Some c.encodings; path = Some c.path; codec = Some c.codec; num_values = Some c.num_values; uncompressed = Some c.uncompressed; compressed = Some c.compressed }) { data_offset = Some x })) (number64_again c.data_offset more fits.data_offset), refl))))))))
    refl

chunk_again : (c : Chunk) (rest : List ℕ) → IsChunk c → chunk_at (chunk_bytes c ++ rest) ≡ Ok (c, rest)
unfolding chunk_field_at
chunk_again c rest fits =
    whole_again chunk_field_at no_chunk_fields chunk_of chunk_field_stays
    (i64_field (pos 2) c.file_offset ∷ (record { id = pos 3; kind = 12; value = column_meta_bytes c }) ∷ [])
    (record no_chunk_fields { file_offset = Some c.file_offset; meta = Some (record { physical = c.physical; encodings = c.encodings; path = c.path; codec = c.codec; num_values = c.num_values; uncompressed = c.uncompressed; compressed = c.compressed; data_offset = c.data_offset }) })
    c rest
    (record { difference = 2; is = refl; sum = refl; some = lit< tt; few = lit< tt; known = refl; half = lit< tt; fits = refl }, (record { difference = 1; is = refl; sum = refl; some = lit< tt; few = lit< tt; known = refl; half = lit< tt; fits = refl }, tt))
    ((record no_chunk_fields { file_offset = Some c.file_offset }), λ left more. ap (with_value (λ x. record no_chunk_fields { file_offset = Some x })) (number64_again c.file_offset more fits.file_offset), ((record no_chunk_fields { file_offset = Some c.file_offset; meta = Some (record { physical = c.physical; encodings = c.encodings; path = c.path; codec = c.codec; num_values = c.num_values; uncompressed = c.uncompressed; compressed = c.compressed; data_offset = c.data_offset }) }), λ left more. ap (with_value (λ x. record (record no_chunk_fields { file_offset = Some c.file_offset }) { meta = Some x })) (column_meta_again c more fits), refl))
    refl

row_group_again : (g : RowGroup) (rest : List ℕ) → IsRowGroup g → row_group_at (row_group_bytes g ++ rest) ≡ Ok (g, rest)
unfolding row_group_field_at
row_group_again g rest fits =
    whole_again row_group_field_at no_row_group_fields row_group_of row_group_field_stays
    ((record { id = pos 1; kind = 9; value = list_bytes 12 chunk_bytes g.columns }) ∷ i64_field (pos 2) g.total_size ∷ i64_field (pos 3) g.num_rows ∷ [])
    (record no_row_group_fields { columns = Some g.columns; total_size = Some g.total_size; num_rows = Some g.num_rows })
    g rest
    (record { difference = 1; is = refl; sum = refl; some = lit< tt; few = lit< tt; known = refl; half = lit< tt; fits = refl }, (record { difference = 1; is = refl; sum = refl; some = lit< tt; few = lit< tt; known = refl; half = lit< tt; fits = refl }, (record { difference = 1; is = refl; sum = refl; some = lit< tt; few = lit< tt; known = refl; half = lit< tt; fits = refl }, tt)))
    ((record no_row_group_fields { columns = Some g.columns }), λ left more. ap (with_value (λ x. record no_row_group_fields { columns = Some x })) (same_list_again 12 chunk_at chunk_bytes IsChunk refl (lit< tt) (λ c more is. chunk_again c more is) g.columns more fits.columns fits.each), ((record no_row_group_fields { columns = Some g.columns; total_size = Some g.total_size }), λ left more. ap (with_value (λ x. record (record no_row_group_fields { columns = Some g.columns }) { total_size = Some x })) (number64_again g.total_size more fits.total_size), ((record no_row_group_fields { columns = Some g.columns; total_size = Some g.total_size; num_rows = Some g.num_rows }), λ left more. ap (with_value (λ x. record (record no_row_group_fields { columns = Some g.columns; total_size = Some g.total_size }) { num_rows = Some x })) (number64_again g.num_rows more fits.num_rows), refl)))
    refl

element_cases : (physical repetition : Option ℤ) (name : List ℕ) (children : Option ℤ) (utf8 : Bool) (rest : List ℕ) → IsElement (record { physical = physical; repetition = repetition; name = name; children = children; utf8 = utf8 })
    → element_at (element_bytes (record { physical = physical; repetition = repetition; name = name; children = children; utf8 = utf8 }) ++ rest) ≡ Ok (record { physical = physical; repetition = repetition; name = name; children = children; utf8 = false }, rest)
unfolding element_field_at
element_cases None None name None false rest fits =
    whole_again element_field_at no_element_fields element_of element_field_stays ((record { id = pos 4; kind = 8; value = binary_bytes name }) ∷ []) (record no_element_fields { name = Some name }) (record { physical = None; repetition = None; name = name; children = None; utf8 = false }) rest
    (record { difference = 4; is = refl; sum = refl; some = lit< tt; few = lit< tt; known = refl; half = lit< tt; fits = refl }, tt) ((record no_element_fields { name = Some name }), λ left more. ap (with_value (λ x. record no_element_fields { name = Some x })) (binary_again name more fits.name), refl) refl
element_cases None None name None true rest fits =
    whole_again element_field_at no_element_fields element_of element_field_stays ((record { id = pos 4; kind = 8; value = binary_bytes name }) ∷ i32_field (pos 6) (pos 0) ∷ []) (record no_element_fields { name = Some name }) (record { physical = None; repetition = None; name = name; children = None; utf8 = false }) rest
    (record { difference = 4; is = refl; sum = refl; some = lit< tt; few = lit< tt; known = refl; half = lit< tt; fits = refl }, (record { difference = 2; is = refl; sum = refl; some = lit< tt; few = lit< tt; known = refl; half = lit< tt; fits = refl }, tt)) ((record no_element_fields { name = Some name }), λ left more. ap (with_value (λ x. record no_element_fields { name = Some x })) (binary_again name more fits.name), ((record no_element_fields { name = Some name }), λ left more. ap (λ (value : Reading (Unit {0})). value >>= λ found. Ok ((record no_element_fields { name = Some name }), found.1)) (passed_number_again (pos 0) more zero_fits), refl)) refl
element_cases None None name (Some n) false rest fits =
    whole_again element_field_at no_element_fields element_of element_field_stays ((record { id = pos 4; kind = 8; value = binary_bytes name }) ∷ i32_field (pos 5) n ∷ []) (record no_element_fields { name = Some name; children = Some n }) (record { physical = None; repetition = None; name = name; children = (Some n); utf8 = false }) rest
    (record { difference = 4; is = refl; sum = refl; some = lit< tt; few = lit< tt; known = refl; half = lit< tt; fits = refl }, (record { difference = 1; is = refl; sum = refl; some = lit< tt; few = lit< tt; known = refl; half = lit< tt; fits = refl }, tt)) ((record no_element_fields { name = Some name }), λ left more. ap (with_value (λ x. record no_element_fields { name = Some x })) (binary_again name more fits.name), ((record no_element_fields { name = Some name; children = Some n }), λ left more. ap (with_value (λ x. record (record no_element_fields { name = Some name }) { children = Some x })) (number32_again n more fits.children), refl)) refl
element_cases None None name (Some n) true rest fits =
    whole_again element_field_at no_element_fields element_of element_field_stays ((record { id = pos 4; kind = 8; value = binary_bytes name }) ∷ i32_field (pos 5) n ∷ i32_field (pos 6) (pos 0) ∷ []) (record no_element_fields { name = Some name; children = Some n }) (record { physical = None; repetition = None; name = name; children = (Some n); utf8 = false }) rest
    (record { difference = 4; is = refl; sum = refl; some = lit< tt; few = lit< tt; known = refl; half = lit< tt; fits = refl }, (record { difference = 1; is = refl; sum = refl; some = lit< tt; few = lit< tt; known = refl; half = lit< tt; fits = refl }, (record { difference = 1; is = refl; sum = refl; some = lit< tt; few = lit< tt; known = refl; half = lit< tt; fits = refl }, tt))) ((record no_element_fields { name = Some name }), λ left more. ap (with_value (λ x. record no_element_fields { name = Some x })) (binary_again name more fits.name), ((record no_element_fields { name = Some name; children = Some n }), λ left more. ap (with_value (λ x. record (record no_element_fields { name = Some name }) { children = Some x })) (number32_again n more fits.children), ((record no_element_fields { name = Some name; children = Some n }), λ left more. ap (λ (value : Reading (Unit {0})). value >>= λ found. Ok ((record no_element_fields { name = Some name; children = Some n }), found.1)) (passed_number_again (pos 0) more zero_fits), refl))) refl
element_cases None (Some r) name None false rest fits =
    whole_again element_field_at no_element_fields element_of element_field_stays (i32_field (pos 3) r ∷ (record { id = pos 4; kind = 8; value = binary_bytes name }) ∷ []) (record no_element_fields { repetition = Some r; name = Some name }) (record { physical = None; repetition = (Some r); name = name; children = None; utf8 = false }) rest
    (record { difference = 3; is = refl; sum = refl; some = lit< tt; few = lit< tt; known = refl; half = lit< tt; fits = refl }, (record { difference = 1; is = refl; sum = refl; some = lit< tt; few = lit< tt; known = refl; half = lit< tt; fits = refl }, tt)) ((record no_element_fields { repetition = Some r }), λ left more. ap (with_value (λ x. record no_element_fields { repetition = Some x })) (number32_again r more fits.repetition), ((record no_element_fields { repetition = Some r; name = Some name }), λ left more. ap (with_value (λ x. record (record no_element_fields { repetition = Some r }) { name = Some x })) (binary_again name more fits.name), refl)) refl
element_cases None (Some r) name None true rest fits =
    whole_again element_field_at no_element_fields element_of element_field_stays (i32_field (pos 3) r ∷ (record { id = pos 4; kind = 8; value = binary_bytes name }) ∷ i32_field (pos 6) (pos 0) ∷ []) (record no_element_fields { repetition = Some r; name = Some name }) (record { physical = None; repetition = (Some r); name = name; children = None; utf8 = false }) rest
    (record { difference = 3; is = refl; sum = refl; some = lit< tt; few = lit< tt; known = refl; half = lit< tt; fits = refl }, (record { difference = 1; is = refl; sum = refl; some = lit< tt; few = lit< tt; known = refl; half = lit< tt; fits = refl }, (record { difference = 2; is = refl; sum = refl; some = lit< tt; few = lit< tt; known = refl; half = lit< tt; fits = refl }, tt))) ((record no_element_fields { repetition = Some r }), λ left more. ap (with_value (λ x. record no_element_fields { repetition = Some x })) (number32_again r more fits.repetition), ((record no_element_fields { repetition = Some r; name = Some name }), λ left more. ap (with_value (λ x. record (record no_element_fields { repetition = Some r }) { name = Some x })) (binary_again name more fits.name), ((record no_element_fields { repetition = Some r; name = Some name }), λ left more. ap (λ (value : Reading (Unit {0})). value >>= λ found. Ok ((record no_element_fields { repetition = Some r; name = Some name }), found.1)) (passed_number_again (pos 0) more zero_fits), refl))) refl
element_cases None (Some r) name (Some n) false rest fits =
    whole_again element_field_at no_element_fields element_of element_field_stays (i32_field (pos 3) r ∷ (record { id = pos 4; kind = 8; value = binary_bytes name }) ∷ i32_field (pos 5) n ∷ []) (record no_element_fields { repetition = Some r; name = Some name; children = Some n }) (record { physical = None; repetition = (Some r); name = name; children = (Some n); utf8 = false }) rest
    (record { difference = 3; is = refl; sum = refl; some = lit< tt; few = lit< tt; known = refl; half = lit< tt; fits = refl }, (record { difference = 1; is = refl; sum = refl; some = lit< tt; few = lit< tt; known = refl; half = lit< tt; fits = refl }, (record { difference = 1; is = refl; sum = refl; some = lit< tt; few = lit< tt; known = refl; half = lit< tt; fits = refl }, tt))) ((record no_element_fields { repetition = Some r }), λ left more. ap (with_value (λ x. record no_element_fields { repetition = Some x })) (number32_again r more fits.repetition), ((record no_element_fields { repetition = Some r; name = Some name }), λ left more. ap (with_value (λ x. record (record no_element_fields { repetition = Some r }) { name = Some x })) (binary_again name more fits.name), ((record no_element_fields { repetition = Some r; name = Some name; children = Some n }), λ left more. ap (with_value (λ x. record (record no_element_fields { repetition = Some r; name = Some name }) { children = Some x })) (number32_again n more fits.children), refl))) refl
element_cases None (Some r) name (Some n) true rest fits =
    whole_again element_field_at no_element_fields element_of element_field_stays (i32_field (pos 3) r ∷ (record { id = pos 4; kind = 8; value = binary_bytes name }) ∷ i32_field (pos 5) n ∷ i32_field (pos 6) (pos 0) ∷ []) (record no_element_fields { repetition = Some r; name = Some name; children = Some n }) (record { physical = None; repetition = (Some r); name = name; children = (Some n); utf8 = false }) rest
    (record { difference = 3; is = refl; sum = refl; some = lit< tt; few = lit< tt; known = refl; half = lit< tt; fits = refl }, (record { difference = 1; is = refl; sum = refl; some = lit< tt; few = lit< tt; known = refl; half = lit< tt; fits = refl }, (record { difference = 1; is = refl; sum = refl; some = lit< tt; few = lit< tt; known = refl; half = lit< tt; fits = refl }, (record { difference = 1; is = refl; sum = refl; some = lit< tt; few = lit< tt; known = refl; half = lit< tt; fits = refl }, tt)))) ((record no_element_fields { repetition = Some r }), λ left more. ap (with_value (λ x. record no_element_fields { repetition = Some x })) (number32_again r more fits.repetition), ((record no_element_fields { repetition = Some r; name = Some name }), λ left more. ap (with_value (λ x. record (record no_element_fields { repetition = Some r }) { name = Some x })) (binary_again name more fits.name), ((record no_element_fields { repetition = Some r; name = Some name; children = Some n }), λ left more. ap (with_value (λ x. record (record no_element_fields { repetition = Some r; name = Some name }) { children = Some x })) (number32_again n more fits.children), ((record no_element_fields { repetition = Some r; name = Some name; children = Some n }), λ left more. ap (λ (value : Reading (Unit {0})). value >>= λ found. Ok ((record no_element_fields { repetition = Some r; name = Some name; children = Some n }), found.1)) (passed_number_again (pos 0) more zero_fits), refl)))) refl
element_cases (Some p) None name None false rest fits =
    whole_again element_field_at no_element_fields element_of element_field_stays (i32_field (pos 1) p ∷ (record { id = pos 4; kind = 8; value = binary_bytes name }) ∷ []) (record no_element_fields { physical = Some p; name = Some name }) (record { physical = (Some p); repetition = None; name = name; children = None; utf8 = false }) rest
    (record { difference = 1; is = refl; sum = refl; some = lit< tt; few = lit< tt; known = refl; half = lit< tt; fits = refl }, (record { difference = 3; is = refl; sum = refl; some = lit< tt; few = lit< tt; known = refl; half = lit< tt; fits = refl }, tt)) ((record no_element_fields { physical = Some p }), λ left more. ap (with_value (λ x. record no_element_fields { physical = Some x })) (number32_again p more fits.physical), ((record no_element_fields { physical = Some p; name = Some name }), λ left more. ap (with_value (λ x. record (record no_element_fields { physical = Some p }) { name = Some x })) (binary_again name more fits.name), refl)) refl
element_cases (Some p) None name None true rest fits =
    whole_again element_field_at no_element_fields element_of element_field_stays (i32_field (pos 1) p ∷ (record { id = pos 4; kind = 8; value = binary_bytes name }) ∷ i32_field (pos 6) (pos 0) ∷ []) (record no_element_fields { physical = Some p; name = Some name }) (record { physical = (Some p); repetition = None; name = name; children = None; utf8 = false }) rest
    (record { difference = 1; is = refl; sum = refl; some = lit< tt; few = lit< tt; known = refl; half = lit< tt; fits = refl }, (record { difference = 3; is = refl; sum = refl; some = lit< tt; few = lit< tt; known = refl; half = lit< tt; fits = refl }, (record { difference = 2; is = refl; sum = refl; some = lit< tt; few = lit< tt; known = refl; half = lit< tt; fits = refl }, tt))) ((record no_element_fields { physical = Some p }), λ left more. ap (with_value (λ x. record no_element_fields { physical = Some x })) (number32_again p more fits.physical), ((record no_element_fields { physical = Some p; name = Some name }), λ left more. ap (with_value (λ x. record (record no_element_fields { physical = Some p }) { name = Some x })) (binary_again name more fits.name), ((record no_element_fields { physical = Some p; name = Some name }), λ left more. ap (λ (value : Reading (Unit {0})). value >>= λ found. Ok ((record no_element_fields { physical = Some p; name = Some name }), found.1)) (passed_number_again (pos 0) more zero_fits), refl))) refl
element_cases (Some p) None name (Some n) false rest fits =
    whole_again element_field_at no_element_fields element_of element_field_stays (i32_field (pos 1) p ∷ (record { id = pos 4; kind = 8; value = binary_bytes name }) ∷ i32_field (pos 5) n ∷ []) (record no_element_fields { physical = Some p; name = Some name; children = Some n }) (record { physical = (Some p); repetition = None; name = name; children = (Some n); utf8 = false }) rest
    (record { difference = 1; is = refl; sum = refl; some = lit< tt; few = lit< tt; known = refl; half = lit< tt; fits = refl }, (record { difference = 3; is = refl; sum = refl; some = lit< tt; few = lit< tt; known = refl; half = lit< tt; fits = refl }, (record { difference = 1; is = refl; sum = refl; some = lit< tt; few = lit< tt; known = refl; half = lit< tt; fits = refl }, tt))) ((record no_element_fields { physical = Some p }), λ left more. ap (with_value (λ x. record no_element_fields { physical = Some x })) (number32_again p more fits.physical), ((record no_element_fields { physical = Some p; name = Some name }), λ left more. ap (with_value (λ x. record (record no_element_fields { physical = Some p }) { name = Some x })) (binary_again name more fits.name), ((record no_element_fields { physical = Some p; name = Some name; children = Some n }), λ left more. ap (with_value (λ x. record (record no_element_fields { physical = Some p; name = Some name }) { children = Some x })) (number32_again n more fits.children), refl))) refl
element_cases (Some p) None name (Some n) true rest fits =
    whole_again element_field_at no_element_fields element_of element_field_stays (i32_field (pos 1) p ∷ (record { id = pos 4; kind = 8; value = binary_bytes name }) ∷ i32_field (pos 5) n ∷ i32_field (pos 6) (pos 0) ∷ []) (record no_element_fields { physical = Some p; name = Some name; children = Some n }) (record { physical = (Some p); repetition = None; name = name; children = (Some n); utf8 = false }) rest
    (record { difference = 1; is = refl; sum = refl; some = lit< tt; few = lit< tt; known = refl; half = lit< tt; fits = refl }, (record { difference = 3; is = refl; sum = refl; some = lit< tt; few = lit< tt; known = refl; half = lit< tt; fits = refl }, (record { difference = 1; is = refl; sum = refl; some = lit< tt; few = lit< tt; known = refl; half = lit< tt; fits = refl }, (record { difference = 1; is = refl; sum = refl; some = lit< tt; few = lit< tt; known = refl; half = lit< tt; fits = refl }, tt)))) ((record no_element_fields { physical = Some p }), λ left more. ap (with_value (λ x. record no_element_fields { physical = Some x })) (number32_again p more fits.physical), ((record no_element_fields { physical = Some p; name = Some name }), λ left more. ap (with_value (λ x. record (record no_element_fields { physical = Some p }) { name = Some x })) (binary_again name more fits.name), ((record no_element_fields { physical = Some p; name = Some name; children = Some n }), λ left more. ap (with_value (λ x. record (record no_element_fields { physical = Some p; name = Some name }) { children = Some x })) (number32_again n more fits.children), ((record no_element_fields { physical = Some p; name = Some name; children = Some n }), λ left more. ap (λ (value : Reading (Unit {0})). value >>= λ found. Ok ((record no_element_fields { physical = Some p; name = Some name; children = Some n }), found.1)) (passed_number_again (pos 0) more zero_fits), refl)))) refl
element_cases (Some p) (Some r) name None false rest fits =
    whole_again element_field_at no_element_fields element_of element_field_stays (i32_field (pos 1) p ∷ i32_field (pos 3) r ∷ (record { id = pos 4; kind = 8; value = binary_bytes name }) ∷ []) (record no_element_fields { physical = Some p; repetition = Some r; name = Some name }) (record { physical = (Some p); repetition = (Some r); name = name; children = None; utf8 = false }) rest
    (record { difference = 1; is = refl; sum = refl; some = lit< tt; few = lit< tt; known = refl; half = lit< tt; fits = refl }, (record { difference = 2; is = refl; sum = refl; some = lit< tt; few = lit< tt; known = refl; half = lit< tt; fits = refl }, (record { difference = 1; is = refl; sum = refl; some = lit< tt; few = lit< tt; known = refl; half = lit< tt; fits = refl }, tt))) ((record no_element_fields { physical = Some p }), λ left more. ap (with_value (λ x. record no_element_fields { physical = Some x })) (number32_again p more fits.physical), ((record no_element_fields { physical = Some p; repetition = Some r }), λ left more. ap (with_value (λ x. record (record no_element_fields { physical = Some p }) { repetition = Some x })) (number32_again r more fits.repetition), ((record no_element_fields { physical = Some p; repetition = Some r; name = Some name }), λ left more. ap (with_value (λ x. record (record no_element_fields { physical = Some p; repetition = Some r }) { name = Some x })) (binary_again name more fits.name), refl))) refl
element_cases (Some p) (Some r) name None true rest fits =
    whole_again element_field_at no_element_fields element_of element_field_stays (i32_field (pos 1) p ∷ i32_field (pos 3) r ∷ (record { id = pos 4; kind = 8; value = binary_bytes name }) ∷ i32_field (pos 6) (pos 0) ∷ []) (record no_element_fields { physical = Some p; repetition = Some r; name = Some name }) (record { physical = (Some p); repetition = (Some r); name = name; children = None; utf8 = false }) rest
    (record { difference = 1; is = refl; sum = refl; some = lit< tt; few = lit< tt; known = refl; half = lit< tt; fits = refl }, (record { difference = 2; is = refl; sum = refl; some = lit< tt; few = lit< tt; known = refl; half = lit< tt; fits = refl }, (record { difference = 1; is = refl; sum = refl; some = lit< tt; few = lit< tt; known = refl; half = lit< tt; fits = refl }, (record { difference = 2; is = refl; sum = refl; some = lit< tt; few = lit< tt; known = refl; half = lit< tt; fits = refl }, tt)))) ((record no_element_fields { physical = Some p }), λ left more. ap (with_value (λ x. record no_element_fields { physical = Some x })) (number32_again p more fits.physical), ((record no_element_fields { physical = Some p; repetition = Some r }), λ left more. ap (with_value (λ x. record (record no_element_fields { physical = Some p }) { repetition = Some x })) (number32_again r more fits.repetition), ((record no_element_fields { physical = Some p; repetition = Some r; name = Some name }), λ left more. ap (with_value (λ x. record (record no_element_fields { physical = Some p; repetition = Some r }) { name = Some x })) (binary_again name more fits.name), ((record no_element_fields { physical = Some p; repetition = Some r; name = Some name }), λ left more. ap (λ (value : Reading (Unit {0})). value >>= λ found. Ok ((record no_element_fields { physical = Some p; repetition = Some r; name = Some name }), found.1)) (passed_number_again (pos 0) more zero_fits), refl)))) refl
element_cases (Some p) (Some r) name (Some n) false rest fits =
    whole_again element_field_at no_element_fields element_of element_field_stays (i32_field (pos 1) p ∷ i32_field (pos 3) r ∷ (record { id = pos 4; kind = 8; value = binary_bytes name }) ∷ i32_field (pos 5) n ∷ []) (record no_element_fields { physical = Some p; repetition = Some r; name = Some name; children = Some n }) (record { physical = (Some p); repetition = (Some r); name = name; children = (Some n); utf8 = false }) rest
    (record { difference = 1; is = refl; sum = refl; some = lit< tt; few = lit< tt; known = refl; half = lit< tt; fits = refl }, (record { difference = 2; is = refl; sum = refl; some = lit< tt; few = lit< tt; known = refl; half = lit< tt; fits = refl }, (record { difference = 1; is = refl; sum = refl; some = lit< tt; few = lit< tt; known = refl; half = lit< tt; fits = refl }, (record { difference = 1; is = refl; sum = refl; some = lit< tt; few = lit< tt; known = refl; half = lit< tt; fits = refl }, tt)))) ((record no_element_fields { physical = Some p }), λ left more. ap (with_value (λ x. record no_element_fields { physical = Some x })) (number32_again p more fits.physical), ((record no_element_fields { physical = Some p; repetition = Some r }), λ left more. ap (with_value (λ x. record (record no_element_fields { physical = Some p }) { repetition = Some x })) (number32_again r more fits.repetition), ((record no_element_fields { physical = Some p; repetition = Some r; name = Some name }), λ left more. ap (with_value (λ x. record (record no_element_fields { physical = Some p; repetition = Some r }) { name = Some x })) (binary_again name more fits.name), ((record no_element_fields { physical = Some p; repetition = Some r; name = Some name; children = Some n }), λ left more. ap (with_value (λ x. record (record no_element_fields { physical = Some p; repetition = Some r; name = Some name }) { children = Some x })) (number32_again n more fits.children), refl)))) refl
element_cases (Some p) (Some r) name (Some n) true rest fits =
    whole_again element_field_at no_element_fields element_of element_field_stays (i32_field (pos 1) p ∷ i32_field (pos 3) r ∷ (record { id = pos 4; kind = 8; value = binary_bytes name }) ∷ i32_field (pos 5) n ∷ i32_field (pos 6) (pos 0) ∷ []) (record no_element_fields { physical = Some p; repetition = Some r; name = Some name; children = Some n }) (record { physical = (Some p); repetition = (Some r); name = name; children = (Some n); utf8 = false }) rest
    (record { difference = 1; is = refl; sum = refl; some = lit< tt; few = lit< tt; known = refl; half = lit< tt; fits = refl }, (record { difference = 2; is = refl; sum = refl; some = lit< tt; few = lit< tt; known = refl; half = lit< tt; fits = refl }, (record { difference = 1; is = refl; sum = refl; some = lit< tt; few = lit< tt; known = refl; half = lit< tt; fits = refl }, (record { difference = 1; is = refl; sum = refl; some = lit< tt; few = lit< tt; known = refl; half = lit< tt; fits = refl }, (record { difference = 1; is = refl; sum = refl; some = lit< tt; few = lit< tt; known = refl; half = lit< tt; fits = refl }, tt))))) ((record no_element_fields { physical = Some p }), λ left more. ap (with_value (λ x. record no_element_fields { physical = Some x })) (number32_again p more fits.physical), ((record no_element_fields { physical = Some p; repetition = Some r }), λ left more. ap (with_value (λ x. record (record no_element_fields { physical = Some p }) { repetition = Some x })) (number32_again r more fits.repetition), ((record no_element_fields { physical = Some p; repetition = Some r; name = Some name }), λ left more. ap (with_value (λ x. record (record no_element_fields { physical = Some p; repetition = Some r }) { name = Some x })) (binary_again name more fits.name), ((record no_element_fields { physical = Some p; repetition = Some r; name = Some name; children = Some n }), λ left more. ap (with_value (λ x. record (record no_element_fields { physical = Some p; repetition = Some r; name = Some name }) { children = Some x })) (number32_again n more fits.children), ((record no_element_fields { physical = Some p; repetition = Some r; name = Some name; children = Some n }), λ left more. ap (λ (value : Reading (Unit {0})). value >>= λ found. Ok ((record no_element_fields { physical = Some p; repetition = Some r; name = Some name; children = Some n }), found.1)) (passed_number_again (pos 0) more zero_fits), refl))))) refl

element_again : (e : Element) (rest : List ℕ) → IsElement e → element_at (element_bytes e ++ rest) ≡ Ok (element_read e, rest)
element_again e rest fits = element_cases e.physical e.repetition e.name e.children e.utf8 rest fits

file_meta_again : (m : FileMeta) (rest : List ℕ) → IsFileMeta m → file_meta_at (file_meta_bytes m ++ rest) ≡ Ok (meta_read m, rest)
unfolding file_meta_field_at
file_meta_again m rest fits =
    whole_again file_meta_field_at no_file_meta_fields file_meta_of file_meta_field_stays
    (i32_field (pos 1) m.version ∷ (record { id = pos 2; kind = 9; value = list_bytes 12 element_bytes m.schema }) ∷ i64_field (pos 3) m.num_rows ∷ (record { id = pos 4; kind = 9; value = list_bytes 12 row_group_bytes m.groups }) ∷ (record { id = pos 6; kind = 8; value = binary_bytes (codes "hudi profile") }) ∷ [])
    (record no_file_meta_fields { version = Some m.version; schema = Some (map element_read m.schema); num_rows = Some m.num_rows; groups = Some m.groups })
    (meta_read m) rest
    (record { difference = 1; is = refl; sum = refl; some = lit< tt; few = lit< tt; known = refl; half = lit< tt; fits = refl }, (record { difference = 1; is = refl; sum = refl; some = lit< tt; few = lit< tt; known = refl; half = lit< tt; fits = refl }, (record { difference = 1; is = refl; sum = refl; some = lit< tt; few = lit< tt; known = refl; half = lit< tt; fits = refl }, (record { difference = 1; is = refl; sum = refl; some = lit< tt; few = lit< tt; known = refl; half = lit< tt; fits = refl }, (record { difference = 2; is = refl; sum = refl; some = lit< tt; few = lit< tt; known = refl; half = lit< tt; fits = refl }, tt)))))
    ((record no_file_meta_fields { version = Some m.version }), λ left more. ap (with_value (λ x. record no_file_meta_fields { version = Some x })) (number32_again m.version more fits.version), ((record no_file_meta_fields { version = Some m.version; schema = Some (map element_read m.schema) }), λ left more. ap (with_value (λ x. record (record no_file_meta_fields { version = Some m.version }) { schema = Some x })) (list_again 12 element_at element_bytes element_read IsElement refl (lit< tt) (λ e more is. element_again e more is) m.schema more fits.schema fits.each_element), ((record no_file_meta_fields { version = Some m.version; schema = Some (map element_read m.schema); num_rows = Some m.num_rows }), λ left more. ap (with_value (λ x. record (record no_file_meta_fields { version = Some m.version; schema = Some (map element_read m.schema) }) { num_rows = Some x })) (number64_again m.num_rows more fits.num_rows), ((record no_file_meta_fields { version = Some m.version; schema = Some (map element_read m.schema); num_rows = Some m.num_rows; groups = Some m.groups }), λ left more. ap (with_value (λ x. record (record no_file_meta_fields { version = Some m.version; schema = Some (map element_read m.schema); num_rows = Some m.num_rows }) { groups = Some x })) (same_list_again 12 row_group_at row_group_bytes IsRowGroup refl (lit< tt) (λ g more is. row_group_again g more is) m.groups more fits.groups fits.each_group), ((record no_file_meta_fields { version = Some m.version; schema = Some (map element_read m.schema); num_rows = Some m.num_rows; groups = Some m.groups }), λ left more. ap (λ (value : Reading (Unit {0})). value >>= λ found. Ok ((record no_file_meta_fields { version = Some m.version; schema = Some (map element_read m.schema); num_rows = Some m.num_rows; groups = Some m.groups }), found.1)) (passed_binary_again (codes "hudi profile") more (lit< tt)), refl)))))
    refl

pub footer_again : (m : FileMeta) → IsFileMeta m → footer_of (file_meta_bytes m) ≡ Ok (meta_read m)
unfolding footer_of
footer_again m fits =
    ap (λ (bytes : List ℕ). file_meta_at bytes >>= with_nothing_left) (sym (append-nil (file_meta_bytes m)))
    ∙ ap (λ (r : Reading FileMeta). r >>= with_nothing_left) (file_meta_again m [] fits)
