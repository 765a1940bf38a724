-- Written pages, chunks and row groups are read back.
use Rattle.std.proofs.Common.{◌≡◌, ℕ, zero, suc, ◌+◌, ◌-◌, ◌<◌, ◌≤◌, Bool, List, [], ◌∷◌, ◌++◌, length, take, drop, map, get_or, Result, Ok, Err, refl, sym, ap, ◌∙◌, append_assoc, arith}
use Rattle.std.specs.Prelude.{if◌then◌else◌}
use Rattle.std.specs.List.{AllByRecursion, flat_map, range_with_len}
use Rattle.std.proofs.lemmas.Bool.{le-leb, lt-ltb}
use Rattle.std.proofs.lemmas.List.{append-nil, length-append, length-map, length-drop, length-take, drop-drop, get_or-map, ext_get_or, take-append-drop}
use Rattle.std.proofs.lemmas.List.FromFn.{get_or-map-range_with_len, length-map-range_with_len}
use Rattle.std.proofs.Math.Seq.{drop-append_seam}
use Rattle.hudi_base.specs.declared.column.Column.{Column}
use Rattle.hudi_base.specs.declared.value.Value.{Value}
use Rattle.hudi_base.specs.declared.value.Value.TheVariants as value
use Rattle.column_cells.specs.Cells.{AreCellsOf}
use Rattle.parquet_pages.specs.declared.page_error.PageError.{PageError}
use Rattle.parquet_pages.specs.Pages.{FitsPage, IsTyped, page_at, page_bytes}
use Rattle.parquet_pages.proofs.WholeAgainLemmas.{page_again}
use Rattle.base_cells.specs.declared.base_error.BaseError.{BaseError}
use Rattle.base_cells.specs.declared.base_error.BaseError.TheVariants.{BadBase}
use Rattle.base_cells.specs.declared.base_error.BaseCause.TheVariants as cause
use Rattle.base_cells.specs.Binding.{◌>>=◌, behind}
use Rattle.base_cells.specs.Cells.{page_or, pages_at, chunk_at, chunks_at, group_at, groups_at}
use Rattle.base_cells.specs.Turned.{cells_at, turned}
use Rattle.base_cells.specs.Written.{pages_of, group_pages, groups_pages, chunk_of, chunks_of, group_of, groups_of, group_len, grouped}
use Rattle.base_cells.proofs.PageLemmas.{page_positive}
use Rattle.base_writer.specs.Fitting.{AreGroupOf, FitColumns}
use Rattle.base_writer.proofs.FitLemmas.{columns_fit, rows_long}

-- ---- one page

abbrev pub AreTyped : List Value → Type 0
AreTyped cells = AllByRecursion IsTyped cells

one_page : (steps : ℕ) (column : Column) (at : ℕ) (bytes rest : List ℕ) (cells : List Value) → 0 < length cells → drop at bytes ≡ page_bytes column cells ++ rest → FitsPage column cells → AreTyped cells → pages_at (suc steps) column (length cells) at bytes ≡ Ok cells
unfolding pages_at
one_page steps column at bytes rest [] some e fits typed = absurd (omega arith)
one_page steps column at bytes rest (cell ∷ cells) some e fits typed =
    ap (λ (r : Result (List Value × ℕ) PageError). after (page_or at (length (cell ∷ cells)) r)) (ap (page_at column) e ∙ page_again column (cell ∷ cells) rest fits typed)
    ∙ ap (λ (b : Bool). after (if b then Ok read else Err (BadBase cause.Page at))) (le-leb (length (cell ∷ cells)) (length (cell ∷ cells)) (omega arith))
    ∙ ap (λ (k : ℕ). behind (cell ∷ cells) (pages_at steps column k (at + n) bytes)) none
    ∙ ap (λ (xs : List Value). Ok xs) (append-nil (cell ∷ cells))
  where
    n : ℕ
    n = length (page_bytes column (cell ∷ cells))

    read : List Value × ℕ
    read = (cell ∷ cells, n)

    none : length (cell ∷ cells) - length (cell ∷ cells) ≡ 0
    none = omega arith

    after : Result (List Value × ℕ) BaseError → Result (List Value) BaseError
    after r = r >>= λ page. behind page.0 (pages_at steps column (length (cell ∷ cells) - length page.0) (at + page.1) bytes)

page_some : (column : Column) (cells : List Value) → FitsPage column cells → AreTyped cells → 0 < length (page_bytes column cells)
page_some column cells fits typed = page_positive column (page_bytes column cells ++ []) cells (length (page_bytes column cells)) (page_again column cells [] fits typed)

inside : (at : ℕ) (bytes page rest : List ℕ) → 0 < length page → drop at bytes ≡ page ++ rest → at < length bytes
inside at bytes page rest some e = omega (arith, length-drop at bytes, ap (length {A = ℕ}) e, length-append page rest)

one_chunk : (at : ℕ) (column : Column) (cells : List Value) (bytes rest : List ℕ) → 0 < length cells → drop at bytes ≡ page_bytes column cells ++ rest → FitsPage column cells → AreTyped cells → chunk_at column bytes (chunk_of at column cells) ≡ Ok cells
unfolding chunk_at
one_chunk at column cells bytes rest some e fits typed =
    ap (λ (b : Bool). if b then pages_at (suc (length bytes)) column (length cells) at bytes else Err (BadBase cause.Page at)) (lt-ltb at (length bytes) (inside at bytes (page_bytes column cells) rest (page_some column cells fits typed) e))
    ∙ one_page (length bytes) column at bytes rest cells some e fits typed

-- ---- the chunks of a row group

abbrev pub IsList : ℕ → List Value → Type 0
IsList n cells = (length cells ≡ n) × AreTyped cells

passed : (at : ℕ) (bytes page more rest : List ℕ) → drop at bytes ≡ (page ++ more) ++ rest → drop (at + length page) bytes ≡ more ++ rest
passed at bytes page more rest e = sym (drop-drop (length page) at bytes) ∙ ap (drop (length page)) (e ∙ append_assoc page more rest) ∙ drop-append_seam page (more ++ rest)

chunks_again : (n at : ℕ) (columns : List Column) (lists : List (List Value)) (bytes rest : List ℕ) → 0 < n → length columns ≡ length lists → drop at bytes ≡ pages_of columns lists ++ rest → FitColumns columns lists → AllByRecursion (IsList n) lists → chunks_at bytes columns (chunks_of at columns lists) ≡ Ok lists
unfolding chunks_at
chunks_again n at [] [] bytes rest some long e fit are = refl
chunks_again n at [] (cells ∷ lists) bytes rest some long e fit are = absurd (omega arith)
chunks_again n at (column ∷ columns) [] bytes rest some long e fit are = absurd (omega arith)
chunks_again n at (column ∷ columns) (cells ∷ lists) bytes rest some long e fit are =
    let first : drop at bytes ≡ page_bytes column cells ++ (pages_of columns lists ++ rest) = e ∙ append_assoc (page_bytes column cells) (pages_of columns lists) rest in
    let size = length (page_bytes column cells) in
    let more = chunks_again n (at + size) columns lists bytes rest some (omega arith) (passed at bytes (page_bytes column cells) (pages_of columns lists) rest e) fit.1 are.1 in
    let count = are.0.0 in
    ap (λ (r : Result (List Value) BaseError). r >>= λ cells. behind (cells ∷ []) (chunks_at bytes columns (chunks_of (at + size) columns lists))) (one_chunk at column cells bytes (pages_of columns lists ++ rest) (omega arith) first fit.0 are.0.1)
    ∙ ap (behind (cells ∷ [])) more

-- ---- columns of rows, and rows of them again

cell_typed : (cells : List Value) (i : ℕ) → AreTyped cells → IsTyped (get_or cells i value.Null)
cell_typed [] i are = tt
cell_typed (cell ∷ cells) zero are = are.0
cell_typed (cell ∷ cells) (suc i) are = cell_typed cells i are.1

column_typed : (rows : List (List Value)) (i : ℕ) → AllByRecursion AreTyped rows → AreTyped (cells_at rows i)
column_typed [] i are = tt
column_typed (cells ∷ rows) i are = (cell_typed cells i are.0, column_typed rows i are.1)

columns_typed : (rows : List (List Value)) (a n : ℕ) → AllByRecursion AreTyped rows → AllByRecursion (IsList (length rows)) (map (cells_at rows) (range_with_len a n))
columns_typed rows a zero are = tt
columns_typed rows a (suc n) are = ((length-map rows (λ (cells : List Value). get_or cells a value.Null), column_typed rows a are), columns_typed rows (a + 1) n are)

row_long : (n i : ℕ) (rows : List (List Value)) → i < length rows → AllByRecursion (λ cells. length cells ≡ n) rows → length (get_or rows i []) ≡ n
row_long n i [] lt all = absurd (omega arith)
row_long n zero (cells ∷ rows) lt all = all.0
row_long n (suc i) (cells ∷ rows) lt all = row_long n i rows (omega arith) all.1

row_again : (n i : ℕ) (rows : List (List Value)) → i < length rows → AllByRecursion (λ cells. length cells ≡ n) rows → cells_at (turned n rows) i ≡ get_or rows i []
unfolding turned
row_again n i rows lt all = ext_get_or value.Null (cells_at (turned n rows) i) (get_or rows i []) (long ∙ sym (row_long n i rows lt all)) each
  where
    columns : List (List Value)
    columns = map (cells_at rows) (range_with_len 0 n)

    long : length (cells_at columns i) ≡ n
    long = length-map columns (λ (cells : List Value). get_or cells i value.Null) ∙ length-map-range_with_len (cells_at rows) 0 n

    each : (j : ℕ) → j < length (cells_at columns i) → get_or (cells_at columns i) j value.Null ≡ get_or (get_or rows i []) j value.Null
    each j less =
        let wide : length columns ≡ n = length-map-range_with_len (cells_at rows) 0 n in
        let l = long in
        get_or-map (λ (cells : List Value). get_or cells i value.Null) columns j [] value.Null (omega arith)
        ∙ ap (λ (cells : List Value). get_or cells i value.Null) (get_or-map-range_with_len (cells_at rows) 0 n j j [] (omega arith) (omega arith))
        ∙ get_or-map (λ (cells : List Value). get_or cells j value.Null) rows i [] value.Null lt

turned_twice : (n : ℕ) (rows : List (List Value)) → AllByRecursion (λ cells. length cells ≡ n) rows → turned (length rows) (turned n rows) ≡ rows
unfolding turned
turned_twice n rows all = ext_get_or [] (turned (length rows) (turned n rows)) rows long each
  where
    long : length (map (cells_at (turned n rows)) (range_with_len 0 (length rows))) ≡ length rows
    long = length-map-range_with_len (cells_at (turned n rows)) 0 (length rows)

    each : (i : ℕ) → i < length (map (cells_at (turned n rows)) (range_with_len 0 (length rows))) → get_or (map (cells_at (turned n rows)) (range_with_len 0 (length rows))) i [] ≡ get_or rows i []
    each i less =
        let l = long in
        get_or-map-range_with_len (cells_at (turned n rows)) 0 (length rows) i i [] (omega arith) (omega arith) ∙ row_again n i rows (omega arith) all

-- ---- row groups

pub record IsGroup (columns : List Column) (rows : List (List Value)) : Type 0 where
  pub some : 0 < length rows
  pub group : AreGroupOf columns rows
  pub typed : AllByRecursion AreTyped rows

pub columns_long : (columns : List Column) (rows : List (List Value)) → length columns ≡ length (turned (length columns) rows)
unfolding turned
columns_long columns rows = sym (length-map-range_with_len (cells_at rows) 0 (length columns))

pub lists_of : (columns : List Column) (rows : List (List Value)) → AllByRecursion AreTyped rows → AllByRecursion (IsList (length rows)) (turned (length columns) rows)
unfolding turned
lists_of columns rows are = columns_typed rows 0 (length columns) are

group_again : (at : ℕ) (columns : List Column) (rows : List (List Value)) (bytes rest : List ℕ) → IsGroup columns rows → drop at bytes ≡ group_pages columns rows ++ rest → group_at columns bytes (group_of at columns rows) ≡ Ok rows
unfolding group_at
group_again at columns rows bytes rest is e =
    ap (λ (r : Result (List (List Value)) BaseError). r >>= λ cells. Ok (turned (length rows) cells)) (chunks_again (length rows) at columns (turned (length columns) rows) bytes rest is.some (columns_long columns rows) e (columns_fit columns rows is.group) (lists_of columns rows is.typed))
    ∙ ap (λ (xs : List (List Value)). Ok xs) (turned_twice (length columns) rows (rows_long columns rows is.group.each))

abbrev pub all_of : List (List (List Value)) → List (List Value)
all_of groups = flat_map (λ rows. rows) groups

pub groups_again : (at : ℕ) (columns : List Column) (groups : List (List (List Value))) (bytes rest : List ℕ) → AllByRecursion (IsGroup columns) groups → drop at bytes ≡ groups_pages columns groups ++ rest → groups_at columns bytes (groups_of at columns groups) ≡ Ok (all_of groups)
unfolding groups_at
groups_again at columns [] bytes rest are e = refl
groups_again at columns (rows ∷ groups) bytes rest are e =
    let size = length (group_pages columns rows) in
    ap (λ (r : Result (List (List Value)) BaseError). r >>= λ rows. behind rows (groups_at columns bytes (groups_of (at + size) columns groups))) (group_again at columns rows bytes (groups_pages columns groups ++ rest) are.0 (e ∙ append_assoc (group_pages columns rows) (groups_pages columns groups) rest))
    ∙ ap (behind rows) (groups_again (at + size) columns groups bytes rest are.1 (passed at bytes (group_pages columns rows) (groups_pages columns groups) rest e))

-- ---- rows in groups

take_all_by : {A : Type 0} (P : A → Type 0) (n : ℕ) (xs : List A) → AllByRecursion P xs → AllByRecursion P (take n xs)
take_all_by P zero xs all = tt
take_all_by P (suc n) [] all = tt
take_all_by P (suc n) (x ∷ xs) all = (all.0, take_all_by P n xs all.1)

drop_all_by : {A : Type 0} (P : A → Type 0) (n : ℕ) (xs : List A) → AllByRecursion P xs → AllByRecursion P (drop n xs)
drop_all_by P zero xs all = all
drop_all_by P (suc n) [] all = tt
drop_all_by P (suc n) (x ∷ xs) all = drop_all_by P n xs all.1

pub grouped_again : (steps : ℕ) (rows : List (List Value)) → length rows ≤ steps → all_of (grouped steps rows) ≡ rows
unfolding grouped
grouped_again zero [] le = refl
grouped_again zero (row ∷ rows) le = absurd (omega arith)
grouped_again (suc steps) [] le = refl
grouped_again (suc steps) (row ∷ rows) le =
    ap (λ (xs : List (List Value)). take group_len (row ∷ rows) ++ xs) (grouped_again steps (drop group_len (row ∷ rows)) (omega (arith, length-drop group_len (row ∷ rows)))) ∙ take-append-drop group_len (row ∷ rows)

pub grouped_are : (columns : List Column) (steps : ℕ) (rows : List (List Value)) → AllByRecursion (AreCellsOf columns) rows → AllByRecursion AreTyped rows → AllByRecursion (IsGroup columns) (grouped steps rows)
unfolding grouped
grouped_are columns zero rows are typed = tt
grouped_are columns (suc steps) [] are typed = tt
grouped_are columns (suc steps) (row ∷ rows) are typed =
    let len = length-take group_len (row ∷ rows) in (
      record {
        some = omega (arith, len);
        group = record { each = take_all_by (AreCellsOf columns) group_len (row ∷ rows) are; few = omega (arith, len) };
        typed = take_all_by AreTyped group_len (row ∷ rows) typed;
      },
      grouped_are columns steps (drop group_len (row ∷ rows)) (drop_all_by (AreCellsOf columns) group_len (row ∷ rows) are) (drop_all_by AreTyped group_len (row ∷ rows) typed),
    )
