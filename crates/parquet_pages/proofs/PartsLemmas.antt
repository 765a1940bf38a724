-- Parts of pages.
use Rattle.std.proofs.Common.{◌≡◌, ℕ, ◌+◌, ◌<◌, ◌≤◌, ◌^◌, Bool, true, false, List, [], ◌∷◌, ◌++◌, length, take, map, get_or, refl, sym, ap, ◌∙◌, arith}
use Rattle.std.specs.Prelude.{if◌then◌else◌, ℤ, pos, negsuc, ◌&&◌}
use Rattle.std.specs.List.{flat_map, list_all}
use Rattle.std.proofs.lemmas.Bool.{eqb-true}
use Rattle.std.proofs.lemmas.List.{map-append, flat_map_more, length-append, take_more}
use Rattle.std.proofs.lemmas.List.Elements.{filter_map-append}
use Rattle.byteorder.specs.Endian.{little_bytes}
use Rattle.byte_fields.specs.Prefixed.{with_length}
use Rattle.column_cells.specs.Cells.{is_cell, is_number}
use Rattle.hudi_base.specs.declared.column.Column.{Column}
use Rattle.hudi_base.specs.declared.value.Value.{Value}
use Rattle.hudi_base.specs.declared.value.Value.TheVariants as value
use Rattle.parquet_pages.specs.Levels.{levels_body, levels_bytes}
use Rattle.parquet_pages.specs.Plain.{value_bytes, truth_of, truths_of, bit_bytes, bytes_for, values_bytes}
use Rattle.parquet_pages.specs.Pages.{has_value, header_of, body_bytes, page_bytes, FitsPage}
use Rattle.parquet_meta.specs.Written.{page_header_bytes}
use Rattle.parquet_pages.proofs.BitsLemmas.{take_all}
use Rattle.parquet_pages.specs.Parts.{Parts, part_with, parts_of, parts_values, parts_body, parts_page}

pub parts_same : (a b : Parts) → a.levels ≡ b.levels → a.truths ≡ b.truths → a.values ≡ b.values → a ≡ b
parts_same a b p q r =
    let made : List Bool → List Bool → List ℕ → Parts = λ levels truths values. record { levels = levels; truths = truths; values = values } in
    ap (λ (x : List Bool). made x a.truths a.values) p ∙ ap (λ (x : List Bool). made b.levels x a.values) q ∙ ap (λ (x : List ℕ). made b.levels b.truths x) r

-- ---- one cell more

pub no_parts : (column : Column) → parts_of column [] ≡ record { levels = []; truths = []; values = [] }
no_parts column = parts_same (parts_of column []) (record { levels = []; truths = []; values = [] }) (none column.optional) refl refl
  where
    none : (b : Bool) → (let levels : List Bool = if b then [] else [] in levels) ≡ []
    none true = refl
    none false = refl

levels_more : (optional : Bool) (cells : List Value) (cell : Value)
    → (let old : List Bool = if optional then map has_value cells else [] in if optional then old ++ has_value cell ∷ [] else old) ≡ (if optional then map has_value (cells ++ cell ∷ []) else [])
levels_more true cells cell = sym (map-append has_value cells (cell ∷ []))
levels_more false cells cell = refl

pub parts_more : (column : Column) (cells : List Value) (cell : Value) → part_with column cell (parts_of column cells) ≡ parts_of column (cells ++ cell ∷ [])
parts_more column cells cell =
    parts_same (part_with column cell (parts_of column cells)) (parts_of column (cells ++ cell ∷ []))
    (levels_more column.optional cells cell)
    (sym (filter_map-append truth_of cells (cell ∷ [])))
    (flat_map_more value_bytes [] cells cell)

-- the cells so far
pub parts_next : (column : Column) (i : ℕ) (cells : List Value) (cell : Value) (old new : Parts) → i < length cells → cell ≡ get_or cells i cell → old ≡ parts_of column (take i cells) → new ≡ part_with column cell old → new ≡ parts_of column (take (i + 1) cells)
parts_next column i cells cell old new lt is e f =
    f ∙ ap (part_with column cell) e ∙ parts_more column (take i cells) cell
    ∙ ap (parts_of column) (ap (λ (x : Value). take i cells ++ x ∷ []) is ∙ sym (take_more cells i cell lt))

pub parts_end : (column : Column) (i : ℕ) (cells : List Value) (parts : Parts) → length cells ≤ i → parts ≡ parts_of column (take i cells) → parts ≡ parts_of column cells
parts_end column i cells parts past e = e ∙ ap (parts_of column) (take_all i cells past)

-- ---- the page

-- the levels of a body are a part of it
pub level_part : (column : Column) (parts : Parts) → column.optional ≡ true → length (levels_body parts.levels) ≤ length (parts_body column parts)
unfolding with_length
level_part column parts is =
    let body : List ℕ = levels_body parts.levels in
    let both : parts_body column parts ≡ levels_bytes parts.levels ++ parts_values column parts = ap (λ (b : Bool). (if b then levels_bytes parts.levels else []) ++ parts_values column parts) is in
    omega (arith, ap length both, length-append (levels_bytes parts.levels) (parts_values column parts), length-append (little_bytes 4 (length body)) body)

pub same_body : (column : Column) (cells : List Value) → parts_body column (parts_of column cells) ≡ body_bytes column cells
unfolding values_bytes
same_body column cells = by_optional column.optional
  where
    by_optional : (b : Bool) → (if b then levels_bytes (if b then map has_value cells else []) else []) ++ values_bytes column cells ≡ (if b then levels_bytes (map has_value cells) else []) ++ values_bytes column cells
    by_optional true = refl
    by_optional false = refl

pub same_page : (column : Column) (cells : List Value) → parts_page column (length cells) (parts_of column cells) ≡ page_bytes column cells
same_page column cells =
    ap (λ (body : List ℕ). page_header_bytes (header_of (length body) (length cells)) ++ body) (same_body column cells)

-- ---- the values of booleans take no bytes but those of their bits

no_number : (z : ℤ) (k n : ℕ) → is_number k z ≡ true → is_number n z ≡ true → k ≡ n
no_number (pos z) k n e f = sym (eqb-true z k e) ∙ eqb-true z n f
no_number (negsuc z) k n e f = absurd cc

and_left : (a b : Bool) → (a && b) ≡ true → a ≡ true
and_left true b e = refl
and_left false b e = e

no_bytes : (column : Column) (cell : Value) → is_number 0 column.physical ≡ true → is_cell column cell ≡ true → length (value_bytes cell) ≡ 0
no_bytes column (value.Int n) e f = absurd (let same : 0 ≡ 1 = no_number column.physical 0 1 e f in omega arith)
no_bytes column (value.Long n) e f = absurd (let same : 0 ≡ 2 = no_number column.physical 0 2 e f in omega arith)
no_bytes column (value.Bytes content) e f = absurd (let same : 0 ≡ 6 = no_number column.physical 0 6 e (and_left (is_number 6 column.physical) _ f) in omega arith)
no_bytes column (value.Text text) e f = absurd (let same : 0 ≡ 6 = no_number column.physical 0 6 e (and_left (is_number 6 column.physical) _ f) in omega arith)
no_bytes column _ e f = refl

and_right : (a b : Bool) → (a && b) ≡ true → b ≡ true
and_right true b e = e
and_right false b e = absurd cc

no_plain : (column : Column) (cells : List Value) → is_number 0 column.physical ≡ true → list_all (is_cell column) cells ≡ true → length (flat_map value_bytes cells) ≡ 0
no_plain column [] e all = refl
no_plain column (cell ∷ cells) e all =
    omega (arith, length-append (value_bytes cell) (flat_map value_bytes cells), no_bytes column cell e (and_left (is_cell column cell) (list_all (is_cell column) cells) all), no_plain column cells e (and_right (is_cell column cell) (list_all (is_cell column) cells) all))

-- ---- cells that fit a page

pub body_short : (column : Column) (cells : List Value) → FitsPage column cells → length (parts_body column (parts_of column cells)) < 2 ^ 31
body_short column cells fits =
    let body = body_bytes column cells in
    omega (arith, fits.size, length-append (page_header_bytes (header_of (length body) (length cells))) body, ap (length {A = ℕ}) (same_body column cells))

pub plain_short : (column : Column) (cells : List Value) → FitsPage column cells → length (flat_map value_bytes cells) < 2 ^ 31
unfolding values_bytes
plain_short column cells fits = by_type (is_number 0 column.physical) refl
  where
    by_type : (b : Bool) → is_number 0 column.physical ≡ b → length (flat_map value_bytes cells) < 2 ^ 31
    by_type true e = omega (arith, no_plain column cells e fits.each)
    by_type false e =
        let levels : List ℕ = if column.optional then levels_bytes (map has_value cells) else [] in
        let values : values_bytes column cells ≡ flat_map value_bytes cells = ap (λ (b : Bool). if b then bit_bytes (bytes_for (length (truths_of cells))) (truths_of cells) else flat_map value_bytes cells) e in
        let body = body_bytes column cells in
        omega (arith, fits.size, length-append (page_header_bytes (header_of (length body) (length cells))) body, length-append levels (values_bytes column cells), ap (length {A = ℕ}) values)
