-- A page is read exactly where the bytes are one: what is one, is read.
use Rattle.std.proofs.Common.{◌≡◌, ℕ, ◌+◌, ◌-◌, ◌≤◌, Bool, true, false, List, [], ◌++◌, length, map, take, replicate, Some, None, Ok, Option, ℤ, pos, refl, sym, ap, ◌∙◌, append_assoc, arith}
use Rattle.std.specs.Prelude.{◌&&◌, not, nat_le, if◌then◌else◌, option_and_then, MatchBool}
use Rattle.std.specs.List.{flat_map}
use Rattle.std.specs.Ordering.{int_eq}
use Rattle.std.proofs.lemmas.Cmp.{int_eq_equiv}
use Rattle.std.proofs.lemmas.Bool.{le-leb}
use Rattle.std.proofs.Math.Seq.{take-append_seam}
use Rattle.std.proofs.lemmas.List.{append-nil, length-append, length-map}
use Rattle.byte_fields.specs.Reading.{Reading, ◌>>=◌}
use Rattle.byte_fields.specs.Prefixed.{bytes_at, nonnegative}
use Rattle.byte_fields.proofs.PrefixedLemmas.{bytes_at_again}
use Rattle.column_cells.specs.Cells.{is_number}
use Rattle.hudi_base.specs.declared.column.Column.{Column}
use Rattle.hudi_base.specs.declared.value.Value.{Value}
use Rattle.parquet_meta.specs.declared.page_header.PageHeader.{PageHeader}
use Rattle.parquet_meta.specs.PageHeaders.{page_header_at}
use Rattle.parquet_meta.proofs.GrammarLemmas.{page_header_known}
use Rattle.parquet_pages.specs.Levels.{bits_of, levels_at}
use Rattle.parquet_pages.specs.Plain.{value_bytes, bytes_for, truths_of, boolean_cells, booleans_at, cells_at, values_at}
use Rattle.parquet_pages.specs.Pages.{has_value, body_at, whole, body_size, page_cells, strange_encoding, cells_or, behind_header, page_behind, page_at}
use Rattle.parquet_pages.specs.Forms.{AreCells, AreBits, AreValues, AreNullable, IsBody, IsDataPage, IsPage}
use Rattle.parquet_pages.proofs.FormLemmas.{levels_back}
use Rattle.parquet_pages.proofs.PageAgainLemmas.{cells_again}
use Rattle.parquet_pages.proofs.WholeAgainLemmas.{boolean_back, count_back, no_nulls}

bits_back : (column : Column) (cells : List Value) (values rest : List ℕ) → is_number 0 column.physical ≡ true → AreCells column cells → AreBits (truths_of cells) values → booleans_at (map has_value cells) (values ++ rest) ≡ Ok (cells, rest)
unfolding booleans_at
bits_back column cells values rest zero_type cells_are are =
    ap (λ (n : ℕ). bytes_at n (values ++ rest) >>= λ found. Ok (boolean_cells (map has_value cells) (bits_of found.0), found.1)) (ap bytes_for (count_back column cells zero_type cells_are.each) ∙ sym are.needed)
    ∙ ap (λ (r : Reading (List ℕ)). r >>= λ found. Ok (boolean_cells (map has_value cells) (bits_of found.0), found.1)) (bytes_at_again values rest)
    ∙ ap (λ (t : List Bool). Ok (boolean_cells (map has_value cells) t, rest)) are.first
    ∙ ap (λ (t : List Value). Ok (t, rest)) (boolean_back column cells are.past zero_type cells_are.each)

values_back : (column : Column) (cells : List Value) (values rest : List ℕ) → AreCells column cells → AreValues column cells values → values_at column (map has_value cells) (values ++ rest) ≡ Ok (cells, rest)
unfolding values_at
values_back column cells values rest cells_are are = by_type (is_number 0 column.physical) refl are
  where
    by_type : (b : Bool) → is_number 0 column.physical ≡ b → MatchBool b (AreBits (truths_of cells) values) (values ≡ flat_map value_bytes cells) → (if b then booleans_at (map has_value cells) (values ++ rest) else cells_at column (map has_value cells) (values ++ rest)) ≡ Ok (cells, rest)
    by_type true e bits = bits_back column cells values rest e cells_are bits
    by_type false e plain = ap (λ (v : List ℕ). cells_at column (map has_value cells) (v ++ rest)) plain ∙ cells_again column cells rest e cells_are.each cells_are.typed cells_are.short

body_back : (column : Column) (cells : List Value) (body rest : List ℕ) → AreCells column cells → IsBody column cells body → body_at column (length cells) (body ++ rest) ≡ Ok (cells, rest)
unfolding body_at
body_back column cells body rest cells_are is = by_optional column.optional refl is
  where
    by_optional : (b : Bool) → column.optional ≡ b → MatchBool b (AreNullable column cells body) (AreValues column cells body) → (if b then (levels_at (length cells) (body ++ rest) >>= λ found. values_at column found.0 found.1) else values_at column (replicate (length cells) true) (body ++ rest)) ≡ Ok (cells, rest)
    by_optional true e nullable =
        ap (λ (b : List ℕ). levels_at (length cells) b >>= λ found. values_at column found.0 found.1) (ap (λ (b : List ℕ). b ++ rest) nullable.parts ∙ append_assoc nullable.levels nullable.values rest)
        ∙ ap (λ (n : ℕ). levels_at n (nullable.levels ++ (nullable.values ++ rest)) >>= λ found. values_at column found.0 found.1) (sym (length-map cells has_value))
        ∙ ap (λ (r : Reading (List Bool)). r >>= λ found. values_at column found.0 found.1) (levels_back (map has_value cells) nullable.levels (nullable.values ++ rest) nullable.tell)
        ∙ values_back column cells nullable.values rest cells_are nullable.are
    by_optional false e plain = ap (λ (t : List Bool). values_at column t (body ++ rest)) (sym (no_nulls column cells e cells_are.each)) ∙ values_back column cells body rest cells_are plain

no_strange : (column : Column) (size count : ℕ) (h : PageHeader) → IsDataPage column size count h → strange_encoding column h ≡ None
no_strange column size count h is =
    ap (λ (z : ℤ). let o : Option ℤ = if not (is_number 0 z) then Some z else (if column.optional && not (is_number 3 h.def_encoding) then Some h.def_encoding else None) in o) is.plain
    ∙ by_optional column.optional refl
  where
    by_optional : (b : Bool) → column.optional ≡ b → (let o : Option ℤ = if b && not (is_number 3 h.def_encoding) then Some h.def_encoding else None in o) ≡ None
    by_optional true e = ap (λ (z : ℤ). let o : Option ℤ = if not (is_number 3 z) then Some z else None in o) (is.rle e)
    by_optional false e = refl

size_back : (column : Column) (size count available : ℕ) (h : PageHeader) → IsDataPage column size count h → size ≤ available → body_size h available ≡ Some size
size_back column size count available h is le =
    ap (λ (z : ℤ). let o : Option ℕ = if is_number 0 z && int_eq h.uncompressed h.compressed then option_and_then (λ n. let p : Option ℕ = if nat_le n available then Some n else None in p) (nonnegative h.compressed) else None in o) is.kind
    ∙ ap (λ (z : ℤ). let o : Option ℕ = if int_eq z h.compressed then option_and_then (λ n. let p : Option ℕ = if nat_le n available then Some n else None in p) (nonnegative h.compressed) else None in o) is.uncompressed
    ∙ ap (λ (z : ℤ). let o : Option ℕ = if int_eq (pos size) z then option_and_then (λ n. let p : Option ℕ = if nat_le n available then Some n else None in p) (nonnegative z) else None in o) is.compressed
    ∙ ap (λ (b : Bool). let o : Option ℕ = if b then (if nat_le size available then Some size else None) else None in o) (int_eq_equiv.refl (pos size))
    ∙ ap (λ (b : Bool). let o : Option ℕ = if b then Some size else None in o) (le-leb size available le)

page_cells_back : (column : Column) (cells : List Value) (h : PageHeader) (body rest : List ℕ) → IsDataPage column (length body) (length cells) h → AreCells column cells → IsBody column cells body → page_cells column h (body ++ rest) ≡ Some (cells, length body)
unfolding page_cells
page_cells_back column cells h body rest is cells_are is_body =
    let size : ℕ = length body in
    let read : body_at column (length cells) (take size (body ++ rest)) ≡ Ok (cells, []) = ap (body_at column (length cells)) (take-append_seam body rest ∙ sym (append-nil body)) ∙ body_back column cells body [] cells_are is_body in
    ap (λ (o : Option ℕ). option_and_then (λ n. option_and_then (λ count. option_and_then (λ found. Some (found, n)) (whole (body_at column count (take n (body ++ rest))))) (nonnegative h.values)) o) (size_back column size (length cells) (length (body ++ rest)) h is (omega (arith, length-append body rest)))
    ∙ ap (λ (z : ℤ). option_and_then (λ count. option_and_then (λ found. Some (found, size)) (whole (body_at column count (take size (body ++ rest))))) (nonnegative z)) is.values
    ∙ ap (λ (r : Reading (List Value)). option_and_then (λ found. Some (found, size)) (whole r)) read

pub page_back : (column : Column) (cells : List Value) (page rest : List ℕ) → IsPage column cells page → page_at column (page ++ rest) ≡ Ok (cells, length page)
page_back column cells page rest is =
    let body : List ℕ = is.body in
    let header : List ℕ = is.header in
    let h : PageHeader = is.told in
    let total : ℕ = length (page ++ rest) in
    let sizes : length page ≡ length header + length body = ap length is.parts ∙ length-append header body in
    let long : total ≡ length page + length rest = length-append page rest in
    let behind : length (body ++ rest) ≡ length body + length rest = length-append body rest in
    let read : page_header_at (page ++ rest) ≡ Ok (h, body ++ rest) = ap page_header_at (ap (λ (p : List ℕ). p ++ rest) is.parts ∙ append_assoc header body rest) ∙ page_header_known.takes.again header (body ++ rest) h is.is_header in
    ap (page_behind column total) read
    ∙ ap (behind_header column (total - length (body ++ rest)) h (body ++ rest)) (no_strange column (length body) (length cells) h is.is_data_page)
    ∙ ap (λ (o : Option (List Value × ℕ)). cells_or (total - length (body ++ rest)) o) (page_cells_back column cells h body rest is.is_data_page is.are_cells is.is_body)
    ∙ ap (λ (n : ℕ). Ok (cells, n)) (let e : total - length (body ++ rest) + length body ≡ length page = omega arith in e)
