-- The cells of a row group fit pages.
use Rattle.std.proofs.Common.{◌≡◌, ℕ, zero, suc, ◌+◌, ◌*◌, ◌-◌, ◌<◌, ◌≤◌, Bool, true, List, [], ◌∷◌, length, drop, map, get_or, refl, sym, ap, subst, ◌∙◌, arith}
use Rattle.std.specs.Prelude.{◌&&◌}
use Rattle.std.specs.Int.{w32, w64, cast_unsigned}
use Rattle.std.specs.List.{AllByRecursion, list_all, flat_map, range_with_len}
use Rattle.std.proofs.lemmas.Bool.{leb-true}
use Rattle.std.proofs.lemmas.List.{length-append, length-map, length-drop, get_or-drop, drop-drop}
use Rattle.byteorder.specs.Endian.{little_bytes}
use Rattle.byte_fields.specs.Prefixed.{with_length}
use Rattle.byte_fields.proofs.NumberLemmas.{little4, little8}
use Rattle.hudi_base.specs.declared.column.Column.{Column}
use Rattle.hudi_base.specs.declared.value.Value.{Value}
use Rattle.hudi_base.specs.declared.value.Value.TheVariants as value
use Rattle.column_cells.specs.Cells.{is_cell, is_short, AreCellsOf}
use Rattle.parquet_pages.specs.Plain.{value_bytes}
use Rattle.parquet_pages.specs.Pages.{FitsPage}
use Rattle.parquet_pages.proofs.SizeLemmas.{pages_short}
use Rattle.base_cells.specs.Turned.{cells_at, turned}
use Rattle.base_writer.specs.Fitting.{AreGroupOf, FitColumns}

-- as many cells as columns
cells_long : (columns : List Column) (cells : List Value) → AreCellsOf columns cells → length cells ≡ length columns
cells_long [] [] are = refl
cells_long [] (cell ∷ cells) are = absurd are
cells_long (column ∷ columns) [] are = absurd are
cells_long (column ∷ columns) (cell ∷ cells) are = ap suc (cells_long columns cells are.2)

pub rows_long : (columns : List Column) (rows : List (List Value)) → AllByRecursion (AreCellsOf columns) rows → AllByRecursion (λ cells. length cells ≡ length columns) rows
rows_long columns [] are = tt
rows_long columns (cells ∷ rows) are = (cells_long columns cells are.0, rows_long columns rows are.1)

-- ---- the cells of one column

column_of : (columns : List Column) (cells : List Value) (i : ℕ) (d : Column) → i < length columns → AreCellsOf columns cells → (is_cell (get_or columns i d) (get_or cells i value.Null) ≡ true) × (is_short (get_or cells i value.Null) ≡ true)
column_of [] cells i d lt are = absurd (omega arith)
column_of (column ∷ columns) [] i d lt are = absurd are
column_of (column ∷ columns) (cell ∷ cells) zero d lt are = (are.0, are.1)
column_of (column ∷ columns) (cell ∷ cells) (suc i) d lt are = column_of columns cells i d (omega arith) are.2

each_is : (columns : List Column) (rows : List (List Value)) (i : ℕ) (d : Column) → i < length columns → AllByRecursion (AreCellsOf columns) rows → list_all (is_cell (get_or columns i d)) (cells_at rows i) ≡ true
each_is columns [] i d lt are = refl
each_is columns (cells ∷ rows) i d lt are = ap (λ (b : Bool). b && list_all (is_cell (get_or columns i d)) (cells_at rows i)) (column_of columns cells i d lt are.0).0 ∙ each_is columns rows i d lt are.1

pub value_le : (cell : Value) → is_short cell ≡ true → length (value_bytes cell) ≤ 65540
unfolding with_length
value_le (value.Int n) short = omega (arith, little4.length_bytes (cast_unsigned w32 n))
value_le (value.Long n) short = omega (arith, little8.length_bytes (cast_unsigned w64 n))
value_le (value.Bytes content) short = omega (arith, leb-true (length content) 65536 short, length-append (little_bytes 4 (length content)) content, little4.length_bytes (length content))
value_le (value.Text text) short = omega (arith, leb-true (length text) 65536 short, length-append (little_bytes 4 (length text)) text, little4.length_bytes (length text))
value_le _ short = omega arith

values_le : (columns : List Column) (rows : List (List Value)) (i : ℕ) (d : Column) → i < length columns → AllByRecursion (AreCellsOf columns) rows → length (flat_map value_bytes (cells_at rows i)) ≤ 65540 * length rows
values_le columns [] i d lt are = omega arith
values_le columns (cells ∷ rows) i d lt are =
    let cell = get_or cells i value.Null in
    omega (arith, length-append (value_bytes cell) (flat_map value_bytes (cells_at rows i)), value_le cell (column_of columns cells i d lt are.0).1, values_le columns rows i d lt are.1)

fits_page : (columns : List Column) (rows : List (List Value)) (i : ℕ) (d : Column) → i < length columns → AreGroupOf columns rows → FitsPage (get_or columns i d) (cells_at rows i)
fits_page columns rows i d lt are =
    let count : length (cells_at rows i) ≡ length rows = length-map rows (λ (cells : List Value). get_or cells i value.Null) in
    let few = are.few in
    record {
      each = each_is columns rows i d lt are.each;
      count = omega arith;
      size = omega (arith, pages_short (get_or columns i d) (cells_at rows i), values_le columns rows i d lt are.each);
    }

columns_from : (columns : List Column) (rows : List (List Value)) (i : ℕ) (rest : List Column) → drop i columns ≡ rest → AreGroupOf columns rows → FitColumns rest (map (cells_at rows) (range_with_len i (length rest)))
columns_from columns rows i [] e are = tt
columns_from columns rows i (column ∷ rest) e are =
    let len : length columns - i ≡ suc (length rest) = sym (length-drop i columns) ∙ ap (length {A = Column}) e in
    let lt : i < length columns = omega arith in
    let here : get_or columns i column ≡ column = ap (λ (k : ℕ). get_or columns k column) (omega arith) ∙ sym (get_or-drop i columns 0 column) ∙ ap (λ (cs : List Column). get_or cs 0 column) e in
    let next : drop (i + 1) columns ≡ rest = sym (drop-drop 1 i columns) ∙ ap (drop 1) e in (
      subst (λ (c : Column). FitsPage c (cells_at rows i)) here (fits_page columns rows i column lt are),
      columns_from columns rows (i + 1) rest next are,
    )

-- the columns of a row group fit pages
pub columns_fit : (columns : List Column) (rows : List (List Value)) → AreGroupOf columns rows → FitColumns columns (turned (length columns) rows)
unfolding turned
columns_fit columns rows are = columns_from columns rows 0 columns refl are
