-- Written booleans, bodies and pages are read back.
use Rattle.std.proofs.Common.{◌≡◌, ℕ, zero, suc, ◌+◌, ◌-◌, ◌*◌, ◌/◌, ◌%◌, ◌^◌, ◌<◌, ◌≤◌, Bool, true, false, List, [], ◌∷◌, ◌++◌, length, map, take, drop, replicate, Some, None, Ok, Option, ℤ, pos, negsuc, refl, sym, ap, ◌∙◌, append_assoc, lit<, arith, inl, inr}
use Rattle.std.specs.Prelude.{◌==◌, ◌&&◌, not, nat_le, if◌then◌else◌, count_by, option_and_then}
use Rattle.std.specs.List.{flat_map, list_all, AllByRecursion}
use Rattle.std.proofs.lemmas.Int.{ints}
use Rattle.std.proofs.lemmas.Cmp.{int_eq_equiv}
use Rattle.std.proofs.lemmas.Bool.{eqb-true, le-leb, cases_lt}
use Rattle.std.proofs.lemmas.List.Sums.{sum_by-cons}
use Rattle.std.proofs.Math.Seq.{take-append_seam}
use Rattle.std.proofs.lemmas.List.{append-nil, length-append, length-take, length-drop, length-map, take-append-drop}
use Rattle.byte_fields.specs.Reading.{Reading, ◌>>=◌}
use Rattle.byte_fields.specs.Prefixed.{bytes_at}
use Rattle.byte_fields.proofs.PrefixedLemmas.{bytes_at_again}
use Rattle.column_cells.specs.Cells.{is_cell, is_number}
use Rattle.hudi_base.specs.declared.column.Column.{Column}
use Rattle.hudi_base.specs.declared.value.Value.{Value}
use Rattle.hudi_base.specs.declared.value.Value.TheVariants as value
use Rattle.parquet_meta.specs.declared.page_header.PageHeader.{PageHeader}
use Rattle.parquet_meta.specs.PageHeaders.{page_header_at}
use Rattle.parquet_meta.specs.Written.{page_header_bytes}
use Rattle.parquet_meta.specs.ReadBack.{IsTypedHeader}
use Rattle.parquet_meta.proofs.HeaderLemmas.{page_header_again}
use Rattle.parquet_pages.specs.Levels.{level_byte, byte_bits, bits_of, levels_bytes, levels_at}
use Rattle.parquet_pages.specs.Plain.{value_bytes, bits_number, bit_bytes, bytes_for, truths_of, values_bytes, cells_at, boolean_cells, booleans_at, values_at}
use Rattle.parquet_pages.specs.Pages.{has_value, IsTyped, body_bytes, header_of, page_bytes, FitsPage, body_at, whole, body_size, page_cells, strange_encoding, cells_or, behind_header, page_behind, page_at}
use Rattle.parquet_pages.proofs.BitsLemmas.{take_all}
use Rattle.parquet_pages.proofs.SizeLemmas.{length-bit_bytes}
use Rattle.parquet_pages.proofs.PageLemmas.{levels_le}
use Rattle.parquet_pages.proofs.AgainLemmas.{levels_again}
use Rattle.parquet_pages.proofs.PageAgainLemmas.{both_true, cells_again, shorts}

-- ---- bits in bytes

-- the lowest bits of a number, least first
low : ℕ → ℕ → List Bool
low zero n = []
low (suc k) n = (n % 2 == 1) ∷ low k (n / 2)

byte_bits-low : (n : ℕ) → byte_bits n ≡ low 8 n
unfolding low
byte_bits-low n =
    let a : n / 4 ≡ n / 2 / 2 = omega arith in
    let b : n / 8 ≡ n / 2 / 2 / 2 = omega arith in
    let c : n / 16 ≡ n / 2 / 2 / 2 / 2 = omega arith in
    let d : n / 32 ≡ n / 2 / 2 / 2 / 2 / 2 = omega arith in
    let e : n / 64 ≡ n / 2 / 2 / 2 / 2 / 2 / 2 = omega arith in
    let f : n / 128 ≡ n / 2 / 2 / 2 / 2 / 2 / 2 / 2 = omega arith in
    rw (a, b, c, d, e, f) refl

low-zero : (k : ℕ) → low k 0 ≡ replicate k false
unfolding low
low-zero zero = refl
low-zero (suc k) = ap (λ (t : List Bool). false ∷ t) (low-zero k)

low-number : (k : ℕ) (bits : List Bool) → length bits ≤ k → low k (bits_number bits) ≡ bits ++ replicate (k - length bits) false
unfolding low
low-number k [] le = low-zero k ∙ ap (λ (n : ℕ). replicate n false) (let e : k ≡ k - 0 = omega arith in e)
low-number zero (bit ∷ bits) le = absurd (omega arith)
low-number (suc k) (bit ∷ bits) le =
    first bit
    ∙ ap (λ (t : List Bool). bit ∷ t) (low-number k bits (omega arith))
    ∙ ap (λ (n : ℕ). bit ∷ (bits ++ replicate n false)) (let e : k - length bits ≡ suc k - suc (length bits) = omega arith in e)
  where
    first : (b : Bool) → ((level_byte b + 2 * bits_number bits) % 2 == 1) ∷ low k ((level_byte b + 2 * bits_number bits) / 2) ≡ b ∷ low k (bits_number bits)
    first true =
        let odd : (1 + 2 * bits_number bits) % 2 ≡ 1 = omega arith in
        let half : (1 + 2 * bits_number bits) / 2 ≡ bits_number bits = omega arith in
        ap (λ (n : ℕ). (n == 1) ∷ low k ((1 + 2 * bits_number bits) / 2)) odd ∙ ap (λ (n : ℕ). true ∷ low k n) half
    first false =
        let even : (0 + 2 * bits_number bits) % 2 ≡ 0 = omega arith in
        let half : (0 + 2 * bits_number bits) / 2 ≡ bits_number bits = omega arith in
        ap (λ (n : ℕ). (n == 1) ∷ low k ((0 + 2 * bits_number bits) / 2)) even ∙ ap (λ (n : ℕ). false ∷ low k n) half

bits_back : (n : ℕ) (bits : List Bool) → length bits ≤ 8 * n → (more : List Bool) × (bits_of (bit_bytes n bits) ≡ bits ++ more)
unfolding bits_of bit_bytes
bits_back zero [] le = ([], refl)
bits_back zero (bit ∷ bits) le = absurd (omega arith)
bits_back (suc n) bits le =
    let after = bits_back n (drop 8 bits) (omega (arith, length-drop 8 bits)) in
    let fill : List Bool = replicate (8 - length (take 8 bits)) false in
    let front : byte_bits (bits_number (take 8 bits)) ≡ take 8 bits ++ fill = byte_bits-low (bits_number (take 8 bits)) ∙ low-number 8 (take 8 bits) (omega (arith, length-take 8 bits)) in
    let joined : byte_bits (bits_number (take 8 bits)) ++ bits_of (bit_bytes n (drop 8 bits)) ≡ take 8 bits ++ (fill ++ (drop 8 bits ++ after.0)) = ap (λ (t : List Bool). t ++ bits_of (bit_bytes n (drop 8 bits))) front ∙ append_assoc (take 8 bits) fill (bits_of (bit_bytes n (drop 8 bits))) ∙ ap (λ (t : List Bool). take 8 bits ++ (fill ++ t)) after.1 in
    elim (cases_lt (length bits) 8) [
      | inl few ↦ (fill ++ (drop 8 bits ++ after.0), joined ∙ ap (λ (t : List Bool). t ++ (fill ++ (drop 8 bits ++ after.0))) (take_all 8 bits (omega arith)))
      | inr many ↦
          let none : 8 - length (take 8 bits) ≡ 0 = omega (arith, length-take 8 bits) in
          (after.0, joined ∙ ap (λ (k : ℕ). take 8 bits ++ (replicate k false ++ (drop 8 bits ++ after.0))) none ∙ sym (append_assoc (take 8 bits) (drop 8 bits) after.0) ∙ ap (λ (t : List Bool). t ++ after.0) (take-append-drop 8 bits))
    ]

-- ---- booleans

apart : (j k : ℕ) (z : ℤ) → j < k → is_number j z ≡ true → is_number k z ≡ true → ⊥
apart j k (pos n) lt a b = omega (arith, eqb-true n j a, eqb-true n k b)
apart j k (negsuc n) lt a b = absurd cc

pub boolean_back : (column : Column) (cells : List Value) (more : List Bool) → is_number 0 column.physical ≡ true → list_all (is_cell column) cells ≡ true → boolean_cells (map has_value cells) (truths_of cells ++ more) ≡ cells
unfolding boolean_cells
boolean_back column [] more zero_type is = refl
boolean_back column (value.Null ∷ cells) more zero_type is = ap (λ (t : List Value). value.Null ∷ t) (boolean_back column cells more zero_type (both_true column.optional (list_all (is_cell column) cells) is).1)
boolean_back column (value.Boolean truth ∷ cells) more zero_type is = ap (λ (t : List Value). value.Boolean truth ∷ t) (boolean_back column cells more zero_type (both_true (is_number 0 column.physical) (list_all (is_cell column) cells) is).1)
boolean_back column (value.Int n ∷ cells) more zero_type is =
    absurd (apart 0 1 column.physical (lit< tt) zero_type (both_true (is_number 1 column.physical) (list_all (is_cell column) cells) is).0)
boolean_back column (value.Long n ∷ cells) more zero_type is =
    absurd (apart 0 2 column.physical (lit< tt) zero_type (both_true (is_number 2 column.physical) (list_all (is_cell column) cells) is).0)
boolean_back column (value.Bytes content ∷ cells) more zero_type is =
    absurd (apart 0 6 column.physical (lit< tt) zero_type (both_true (is_number 6 column.physical) (not column.utf8) (both_true (is_number 6 column.physical && not column.utf8) (list_all (is_cell column) cells) is).0).0)
boolean_back column (value.Text text ∷ cells) more zero_type is =
    absurd (apart 0 6 column.physical (lit< tt) zero_type (both_true (is_number 6 column.physical) column.utf8 (both_true (is_number 6 column.physical && column.utf8) (list_all (is_cell column) cells) is).0).0)
boolean_back column (_ ∷ cells) more zero_type is = absurd cc

pub count_back : (column : Column) (cells : List Value) → is_number 0 column.physical ≡ true → list_all (is_cell column) cells ≡ true → count_by (λ level. level) (map has_value cells) ≡ length (truths_of cells)
count_back column [] zero_type is = refl
count_back column (value.Null ∷ cells) zero_type is = count_back column cells zero_type (both_true column.optional (list_all (is_cell column) cells) is).1
count_back column (value.Boolean truth ∷ cells) zero_type is =
    let e = count_back column cells zero_type (both_true (is_number 0 column.physical) (list_all (is_cell column) cells) is).1 in
    let step : count_by (λ level. level) (true ∷ map has_value cells) ≡ 1 + count_by (λ level. level) (map has_value cells) = sum_by-cons (λ (b : Bool). if b then 1 else 0) true (map has_value cells) in
    let one : 1 + count_by (λ level. level) (map has_value cells) ≡ suc (length (truths_of cells)) = omega (arith, e) in
    step ∙ one
count_back column (value.Int n ∷ cells) zero_type is =
    absurd (apart 0 1 column.physical (lit< tt) zero_type (both_true (is_number 1 column.physical) (list_all (is_cell column) cells) is).0)
count_back column (value.Long n ∷ cells) zero_type is =
    absurd (apart 0 2 column.physical (lit< tt) zero_type (both_true (is_number 2 column.physical) (list_all (is_cell column) cells) is).0)
count_back column (value.Bytes content ∷ cells) zero_type is =
    absurd (apart 0 6 column.physical (lit< tt) zero_type (both_true (is_number 6 column.physical) (not column.utf8) (both_true (is_number 6 column.physical && not column.utf8) (list_all (is_cell column) cells) is).0).0)
count_back column (value.Text text ∷ cells) zero_type is =
    absurd (apart 0 6 column.physical (lit< tt) zero_type (both_true (is_number 6 column.physical) column.utf8 (both_true (is_number 6 column.physical && column.utf8) (list_all (is_cell column) cells) is).0).0)
count_back column (_ ∷ cells) zero_type is = absurd cc

booleans_again : (column : Column) (cells : List Value) (rest : List ℕ) → is_number 0 column.physical ≡ true → list_all (is_cell column) cells ≡ true → booleans_at (map has_value cells) (bit_bytes (bytes_for (length (truths_of cells))) (truths_of cells) ++ rest) ≡ Ok (cells, rest)
unfolding booleans_at
booleans_again column cells rest zero_type is =
    let count : ℕ = length (truths_of cells) in
    let content : List ℕ = bit_bytes (bytes_for count) (truths_of cells) in
    let back = bits_back (bytes_for count) (truths_of cells) (omega arith) in
    ap (λ (n : ℕ). bytes_at n (content ++ rest) >>= λ found. Ok (boolean_cells (map has_value cells) (bits_of found.0), found.1)) (ap bytes_for (count_back column cells zero_type is) ∙ sym (length-bit_bytes (bytes_for count) (truths_of cells)))
    ∙ ap (λ (r : Reading (List ℕ)). r >>= λ found. Ok (boolean_cells (map has_value cells) (bits_of found.0), found.1)) (bytes_at_again content rest)
    ∙ ap (λ (t : List Bool). Ok (boolean_cells (map has_value cells) t, rest)) back.1
    ∙ ap (λ (t : List Value). Ok (t, rest)) (boolean_back column cells back.0 zero_type is)

-- ---- values and bodies

values_again : (column : Column) (cells : List Value) (rest : List ℕ) → list_all (is_cell column) cells ≡ true → AllByRecursion IsTyped cells → length (values_bytes column cells) < 2 ^ 32 → values_at column (map has_value cells) (values_bytes column cells ++ rest) ≡ Ok (cells, rest)
unfolding values_at values_bytes
values_again column cells rest is typed short = by_type (is_number 0 column.physical) refl short
  where
    by_type : (b : Bool) → is_number 0 column.physical ≡ b → length (if b then bit_bytes (bytes_for (length (truths_of cells))) (truths_of cells) else flat_map value_bytes cells) < 2 ^ 32
        → (if b then booleans_at (map has_value cells) ((if b then bit_bytes (bytes_for (length (truths_of cells))) (truths_of cells) else flat_map value_bytes cells) ++ rest) else cells_at column (map has_value cells) ((if b then bit_bytes (bytes_for (length (truths_of cells))) (truths_of cells) else flat_map value_bytes cells) ++ rest)) ≡ Ok (cells, rest)
    by_type true e le = booleans_again column cells rest e is
    by_type false e le = cells_again column cells rest e is typed (shorts cells le)

pub no_nulls : (column : Column) (cells : List Value) → column.optional ≡ false → list_all (is_cell column) cells ≡ true → map has_value cells ≡ replicate (length cells) true
no_nulls column [] required is = refl
no_nulls column (value.Null ∷ cells) required is = absurd (let null = (both_true column.optional (list_all (is_cell column) cells) is).0 in let no : false ≡ true = sym required ∙ null in cc)
no_nulls column (cell ∷ cells) required is = ap (λ (t : List Bool). true ∷ t) (no_nulls column cells required (both_true (is_cell column cell) (list_all (is_cell column) cells) is).1)

body_again : (column : Column) (cells : List Value) (rest : List ℕ) → list_all (is_cell column) cells ≡ true → AllByRecursion IsTyped cells → length cells < 2 ^ 31 → length (body_bytes column cells) < 2 ^ 31 → body_at column (length cells) (body_bytes column cells ++ rest) ≡ Ok (cells, rest)
unfolding body_at
body_again column cells rest is typed few short = by_optional column.optional refl
  where
    levels : List Bool
    levels = map has_value cells

    values : List ℕ
    values = values_bytes column cells

    sizes : length (body_bytes column cells) ≡ length (let l : List ℕ = if column.optional then levels_bytes levels else [] in l) + length values
    sizes = length-append (let l : List ℕ = if column.optional then levels_bytes levels else [] in l) values

    read : values_at column levels (values ++ rest) ≡ Ok (cells, rest)
    read = values_again column cells rest is typed (omega (arith, sizes))

    by_optional : (b : Bool) → column.optional ≡ b → (if b then (levels_at (length cells) (((if b then levels_bytes levels else []) ++ values) ++ rest) >>= λ found. values_at column found.0 found.1) else values_at column (replicate (length cells) true) (((if b then levels_bytes levels else []) ++ values) ++ rest)) ≡ Ok (cells, rest)
    by_optional true e =
        let long : length levels ≡ length cells = length-map cells has_value in
        ap (λ (b : List ℕ). levels_at (length cells) b >>= λ found. values_at column found.0 found.1) (append_assoc (levels_bytes levels) values rest)
        ∙ ap (λ (n : ℕ). levels_at n (levels_bytes levels ++ (values ++ rest)) >>= λ found. values_at column found.0 found.1) (sym long)
        ∙ ap (λ (r : Reading (List Bool)). r >>= λ found. values_at column found.0 found.1) (levels_again levels (values ++ rest) (omega arith) (omega (arith, levels_le column cells e)))
        ∙ read
    by_optional false e = ap (λ (t : List Bool). values_at column t (values ++ rest)) (sym (no_nulls column cells e is)) ∙ read

-- ---- pages

header_typed : (size count : ℕ) → size < 2 ^ 31 → count < 2 ^ 31 → IsTypedHeader (header_of size count)
header_typed size count small few = record {
  kind = omega (arith, ints);
  uncompressed = omega (arith, ints);
  compressed = omega (arith, ints);
  values = omega (arith, ints);
  encoding = omega (arith, ints);
  def_encoding = omega (arith, ints);
  rep_encoding = omega (arith, ints);
}

no_strange : (column : Column) (size count : ℕ) → strange_encoding column (header_of size count) ≡ None
no_strange column size count = by_optional column.optional
  where
    by_optional : (b : Bool) → (let o : Option ℤ = if b && false then Some (pos 3) else None in o) ≡ None
    by_optional true = refl
    by_optional false = refl

size_back : (size count available : ℕ) → size ≤ available → body_size (header_of size count) available ≡ Some size
size_back size count available le =
    ap (λ (b : Bool). let o : Option ℕ = if b then (if nat_le size available then Some size else None) else None in o) (int_eq_equiv.refl (pos size))
    ∙ ap (λ (b : Bool). let o : Option ℕ = if b then Some size else None in o) (le-leb size available le)

page_cells_back : (column : Column) (cells : List Value) (rest : List ℕ) → FitsPage column cells → AllByRecursion IsTyped cells → length (body_bytes column cells) < 2 ^ 31 → page_cells column (header_of (length (body_bytes column cells)) (length cells)) (body_bytes column cells ++ rest) ≡ Some (cells, length (body_bytes column cells))
unfolding page_cells
page_cells_back column cells rest fits typed small =
    let body : List ℕ = body_bytes column cells in
    let size : ℕ = length body in
    let read : body_at column (length cells) (take size (body ++ rest)) ≡ Ok (cells, []) = ap (body_at column (length cells)) (take-append_seam body rest ∙ sym (append-nil body)) ∙ body_again column cells [] fits.each typed fits.count small in
    ap (λ (o : Option ℕ). option_and_then (λ n. option_and_then (λ found. Some (found, n)) (whole (body_at column (length cells) (take n (body ++ rest))))) o) (size_back size (length cells) (length (body ++ rest)) (omega (arith, length-append body rest)))
    ∙ ap (λ (r : Reading (List Value)). option_and_then (λ found. Some (found, size)) (whole r)) read

pub page_again : (column : Column) (cells : List Value) (rest : List ℕ) → FitsPage column cells → AllByRecursion IsTyped cells → page_at column (page_bytes column cells ++ rest) ≡ Ok (cells, length (page_bytes column cells))
page_again column cells rest fits typed =
    let body : List ℕ = body_bytes column cells in
    let h : PageHeader = header_of (length body) (length cells) in
    let header : List ℕ = page_header_bytes h in
    let sizes : length (page_bytes column cells) ≡ length header + length body = length-append header body in
    let small : length body < 2 ^ 31 = omega (arith, sizes, fits.size) in
    let total : ℕ = length (page_bytes column cells ++ rest) in
    let long : total ≡ length (page_bytes column cells) + length rest = length-append (page_bytes column cells) rest in
    let behind : length (body ++ rest) ≡ length body + length rest = length-append body rest in
    let start : total - length (body ++ rest) ≡ length header = omega arith in
    let read : page_header_at (page_bytes column cells ++ rest) ≡ Ok (h, body ++ rest) = ap page_header_at (append_assoc header body rest) ∙ page_header_again h (body ++ rest) (header_typed (length body) (length cells) small fits.count) in
    ap (page_behind column total) read
    ∙ ap (behind_header column (total - length (body ++ rest)) h (body ++ rest)) (no_strange column (length body) (length cells))
    ∙ ap (λ (o : Option (List Value × ℕ)). cells_or (total - length (body ++ rest)) o) (page_cells_back column cells rest fits typed small)
    ∙ ap (λ (n : ℕ). Ok (cells, n)) (let e : total - length (body ++ rest) + length body ≡ length (page_bytes column cells) = omega arith in e)
