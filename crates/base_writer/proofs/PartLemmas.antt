-- The pages of a row group, a row at a time.
use Rattle.std.proofs.Common.{◌≡◌, ℕ, zero, suc, ◌+◌, ◌-◌, ◌<◌, ◌≤◌, List, [], ◌∷◌, ◌++◌, length, take, drop, map, get_or, set, replicate, min, refl, sym, ap, subst, ◌∙◌, append_assoc, arith}
use Rattle.std.specs.Prelude.{pos}
use Rattle.std.specs.List.{range_with_len}
use Rattle.std.proofs.Math.Seq.{take-suc}
use Rattle.std.proofs.lemmas.List.{length-append, length-map, map-append, take-append-drop, get_or-drop, drop-drop, replicate-append-replicate}
use Rattle.hudi_base.specs.declared.column.Column.{Column}
use Rattle.hudi_base.specs.declared.value.Value.{Value}
use Rattle.hudi_base.specs.declared.value.Value.TheVariants.{Null}
use Rattle.column_cells.specs.Cells.{AreCellsOf}
use Rattle.parquet_meta.specs.declared.chunk.Chunk.{Chunk}
use Rattle.parquet_meta.specs.declared.row_group.RowGroup.{RowGroup}
use Rattle.parquet_pages.specs.Pages.{page_bytes}
use Rattle.parquet_pages.specs.Plain.{value_bytes}
use Rattle.parquet_pages.specs.Parts.{Parts, parts_of, part_with, parts_page}
use Rattle.parquet_pages.proofs.PartsLemmas.{no_parts, parts_more, body_short, same_page}
use Rattle.base_cells.specs.Turned.{cells_at, turned}
use Rattle.base_cells.specs.Written.{pages_of, group_pages, chunk_with, chunk_of, chunks_of, group_of}
use Rattle.base_writer.specs.Fitting.{AreGroupOf, FitColumns}
use Rattle.base_writer.specs.GroupParts.{parts_from, group_parts, parts_with, ArePagesOf, FitParts, parts_pages, parts_chunks}
use Rattle.base_writer.proofs.FitLemmas.{value_le, columns_fit}

-- ---- no rows

abbrev pub no_part : Parts
no_part = record { levels = []; truths = []; values = [] }

none_from : (i : ℕ) (columns : List Column) → parts_from i columns [] ≡ replicate (length columns) no_part
none_from i [] = refl
none_from i (column ∷ columns) = ap (λ (first : Parts). first ∷ parts_from (i + 1) columns []) (no_parts column) ∙ ap (λ (more : List Parts). no_part ∷ more) (none_from (i + 1) columns)

-- one page more
pub none_more : (n : ℕ) (pages more : List Parts) (page : Parts) → pages ≡ replicate n no_part → page ≡ record { levels = []; truths = []; values = [] } → more ≡ pages ++ page ∷ [] → more ≡ replicate (n + 1) no_part
none_more n pages more page e f g = g ∙ ap (λ (x : List Parts). x ++ page ∷ []) e ∙ ap (λ (x : Parts). replicate n no_part ++ x ∷ []) f ∙ replicate-append-replicate n 1 no_part

pub none_all : (n : ℕ) (columns : List Column) (pages : List Parts) → n ≡ length columns → pages ≡ replicate n no_part → pages ≡ group_parts columns []
none_all n columns pages e f = f ∙ ap (λ (k : ℕ). replicate k no_part) e ∙ sym (none_from 0 columns)

-- ---- a cell of a row

pub cell_le : (columns : List Column) (cells : List Value) (i : ℕ) (d : Value) → i < length cells → AreCellsOf columns cells → length (value_bytes (get_or cells i d)) ≤ 65540
cell_le [] [] i d lt are = absurd (omega arith)
cell_le [] (cell ∷ cells) i d lt are = absurd are
cell_le (column ∷ columns) [] i d lt are = absurd are
cell_le (column ∷ columns) (cell ∷ cells) zero d lt are = value_le cell are.1
cell_le (column ∷ columns) (cell ∷ cells) (suc i) d lt are = cell_le columns cells i d (omega arith) are.2

-- ---- a list that is written from its beginning on

both_get : {X : Type 0} (i : ℕ) (new old : List X) (d : X) → length new ≡ length old → i < length old → get_or (take i new ++ drop i old) i d ≡ get_or old i d
both_get zero new old d len lt = refl
both_get (suc i) new [] d len lt = absurd (omega arith)
both_get (suc i) [] (x ∷ old) d len lt = absurd (omega arith)
both_get (suc i) (y ∷ new) (x ∷ old) d len lt = both_get i new old d (omega arith) (omega arith)

both_set : {X : Type 0} (i : ℕ) (new old : List X) (y : X) → length new ≡ length old → i < length old → set (take i new ++ drop i old) i y ≡ take i new ++ y ∷ drop (suc i) old
both_set {X = X} i new [] y len lt = absurd (omega arith)
both_set {X = X} zero new (x ∷ old) y len lt = refl
both_set {X = X} (suc i) [] (x ∷ old) y len lt = absurd (omega arith)
both_set {X = X} (suc i) (z ∷ new) (x ∷ old) y len lt = ap (λ (xs : List X). z ∷ xs) (both_set i new old y (omega arith) (omega arith))

both_next : {X : Type 0} (i : ℕ) (new old : List X) (y : X) → length new ≡ length old → i < length old → y ≡ get_or new i y → set (take i new ++ drop i old) i y ≡ take (i + 1) new ++ drop (i + 1) old
both_next {X = X} i new old y len lt is =
    let next : i + 1 ≡ suc i = omega arith in
    let within : i < length new = omega arith in
    both_set i new old y len lt ∙ ap (λ (x : X). take i new ++ x ∷ drop (suc i) old) is ∙ sym (append_assoc (take i new) (get_or new i y ∷ []) (drop (suc i) old))
    ∙ ap (λ (xs : List X). xs ++ drop (suc i) old) (sym (take-suc new i y within))
    ∙ ap (λ (k : ℕ). take k new ++ drop k old) (sym next)

-- ---- one row more

pub with_long : (columns : List Column) (cells : List Value) (parts : List Parts) → length (parts_with columns cells parts) ≡ length parts
with_long [] cells parts = refl
with_long (column ∷ columns) [] parts = refl
with_long (column ∷ columns) (cell ∷ cells) [] = refl
with_long (column ∷ columns) (cell ∷ cells) (first ∷ more) = ap suc (with_long columns cells more)

with_at : (i : ℕ) (columns : List Column) (cells : List Value) (parts : List Parts) (c : Column) (v : Value) (d e : Parts) → i < length columns → i < length cells → i < length parts → get_or (parts_with columns cells parts) i e ≡ part_with (get_or columns i c) (get_or cells i v) (get_or parts i d)
with_at i [] cells parts c v d e lt in_cells in_parts = absurd (omega arith)
with_at i (column ∷ columns) [] parts c v d e lt in_cells in_parts = absurd (omega arith)
with_at i (column ∷ columns) (cell ∷ cells) [] c v d e lt in_cells in_parts = absurd (omega arith)
with_at zero (column ∷ columns) (cell ∷ cells) (first ∷ more) c v d e lt in_cells in_parts = refl
with_at (suc i) (column ∷ columns) (cell ∷ cells) (first ∷ more) c v d e lt in_cells in_parts = with_at i columns cells more c v d e (omega arith) (omega arith) (omega arith)

-- the loop over the columns
pub part_next : (i : ℕ) (columns : List Column) (cells : List Value) (old now more : List Parts) (column : Column) (cell : Value) (part next : Parts) → i < length columns → i < length cells → i < length old
    → column ≡ get_or columns i column → cell ≡ get_or cells i cell → part ≡ get_or now i part → next ≡ part_with column cell part → more ≡ set now i next
    → now ≡ take i (parts_with columns cells old) ++ drop i old → more ≡ take (i + 1) (parts_with columns cells old) ++ drop (i + 1) old
part_next i columns cells old now more column cell part next lt in_cells in_old column_is cell_is part_is next_is more_is is =
    let new = parts_with columns cells old in
    let len : length new ≡ length old = with_long columns cells old in
    let was : part ≡ get_or old i part = part_is ∙ ap (λ (parts : List Parts). get_or parts i part) is ∙ both_get i new old part len in_old in
    let put : next ≡ get_or new i next =
    next_is ∙ ap (λ (x : Column). part_with x cell part) column_is ∙ ap (λ (x : Value). part_with (get_or columns i column) x part) cell_is
    ∙ ap (λ (x : Parts). part_with (get_or columns i column) (get_or cells i cell) x) was ∙ sym (with_at i columns cells old column cell part next lt in_cells in_old) in
    more_is ∙ ap (λ (parts : List Parts). set parts i next) is ∙ both_next i new old next len in_old put

pub parts_done : (i : ℕ) (columns : List Column) (cells : List Value) (old : List Parts) → min (min (length columns) (length cells)) (length old) ≤ i → take i (parts_with columns cells old) ++ drop i old ≡ parts_with columns cells old
parts_done i [] cells old le = take-append-drop i old
parts_done i (column ∷ columns) [] old le = take-append-drop i old
parts_done i (column ∷ columns) (cell ∷ cells) [] le = take-append-drop i []
parts_done zero (column ∷ columns) (cell ∷ cells) (first ∷ more) le = absurd (omega arith)
parts_done (suc i) (column ∷ columns) (cell ∷ cells) (first ∷ more) le = ap (λ (parts : List Parts). part_with column cell first ∷ parts) (parts_done i columns cells more (omega arith))

row_from : (i : ℕ) (columns : List Column) (whole cells : List Value) (rows : List (List Value)) → drop i whole ≡ cells → AreCellsOf columns cells → parts_with columns cells (parts_from i columns rows) ≡ parts_from i columns (rows ++ whole ∷ [])
row_from i [] whole [] rows e are = refl
row_from i [] whole (cell ∷ cells) rows e are = absurd are
row_from i (column ∷ columns) whole [] rows e are = absurd are
row_from i (column ∷ columns) whole (cell ∷ cells) rows e are =
    let at : get_or whole i Null ≡ cell = ap (λ (k : ℕ). get_or whole k Null) (omega arith) ∙ sym (get_or-drop i whole 0 Null) ∙ ap (λ (cs : List Value). get_or cs 0 Null) e in
    let next : drop (i + 1) whole ≡ cells = sym (drop-drop 1 i whole) ∙ ap (drop 1) e in
    let here : part_with column cell (parts_of column (cells_at rows i)) ≡ parts_of column (cells_at (rows ++ whole ∷ []) i) =
    parts_more column (cells_at rows i) cell
    ∙ ap (parts_of column) (ap (λ (x : Value). cells_at rows i ++ x ∷ []) (sym at) ∙ sym (map-append (λ (cells : List Value). get_or cells i Null) rows (whole ∷ []))) in
    ap (λ (first : Parts). first ∷ parts_with columns cells (parts_from (i + 1) columns rows)) here
    ∙ ap (λ (more : List Parts). parts_of column (cells_at (rows ++ whole ∷ []) i) ∷ more) (row_from (i + 1) columns whole cells rows next are.2)

pub row_added : (columns : List Column) (cells : List Value) (rows : List (List Value)) (old new : List Parts) → AreCellsOf columns cells → new ≡ parts_with columns cells old → old ≡ group_parts columns rows → new ≡ group_parts columns (rows ++ cells ∷ [])
row_added columns cells rows old new are e f = e ∙ ap (parts_with columns cells) f ∙ row_from 0 columns cells cells rows refl are

-- the same, where the row and the parts were handed on
pub row_added_in : (columns cs : List Column) (cells vs : List Value) (rows : List (List Value)) (old new ps : List Parts) → cs ≡ columns → vs ≡ cells → ps ≡ old → AreCellsOf columns cells → new ≡ parts_with cs vs ps → old ≡ group_parts columns rows → new ≡ group_parts columns (rows ++ cells ∷ [])
row_added_in columns cs cells vs rows old new ps e f g are is all =
    row_added columns cells rows old new are (is ∙ ap (λ (xs : List Column). parts_with xs vs ps) e ∙ ap (λ (xs : List Value). parts_with columns xs ps) f ∙ ap (parts_with columns cells) g) all

-- ---- the pages of the rows

parts_fit_from : (i : ℕ) (columns : List Column) (rows : List (List Value)) → FitColumns columns (map (cells_at rows) (range_with_len i (length columns))) → FitParts columns (parts_from i columns rows)
parts_fit_from i [] rows fit = tt
parts_fit_from i (column ∷ columns) rows fit = (body_short column (cells_at rows i) fit.0, parts_fit_from (i + 1) columns rows fit.1)

pub parts_fit : (columns : List Column) (rows : List (List Value)) (count : ℕ) (parts : List Parts) → ArePagesOf columns rows count parts → AreGroupOf columns rows → FitParts columns parts
unfolding turned
parts_fit columns rows count parts pages are = subst (FitParts columns) (sym pages.are) (parts_fit_from 0 columns rows (columns_fit columns rows are))

-- the same, where the columns and the parts were handed on
pub parts_fit_in : (columns cs : List Column) (rows : List (List Value)) (count : ℕ) (parts ps : List Parts) → cs ≡ columns → ps ≡ parts → ArePagesOf columns rows count parts → AreGroupOf columns rows → FitParts cs ps
parts_fit_in columns cs rows count parts ps e f pages are =
    subst (λ (xs : List Column). FitParts xs ps) (sym e) (subst (λ (xs : List Parts). FitParts columns xs) (sym f) (parts_fit columns rows count parts pages are))

counted_at : (i : ℕ) (rows : List (List Value)) → length rows ≡ length (cells_at rows i)
counted_at i rows = sym (length-map rows (λ (cells : List Value). get_or cells i Null))

page_from : (i : ℕ) (column : Column) (rows : List (List Value)) → parts_page column (length rows) (parts_of column (cells_at rows i)) ≡ page_bytes column (cells_at rows i)
page_from i column rows = ap (λ (n : ℕ). parts_page column n (parts_of column (cells_at rows i))) (counted_at i rows) ∙ same_page column (cells_at rows i)

pages_from : (i : ℕ) (columns : List Column) (rows : List (List Value)) → parts_pages columns (length rows) (parts_from i columns rows) ≡ pages_of columns (map (cells_at rows) (range_with_len i (length columns)))
pages_from i [] rows = refl
pages_from i (column ∷ columns) rows =
    ap (λ (x : List ℕ). x ++ parts_pages columns (length rows) (parts_from (i + 1) columns rows)) (page_from i column rows)
    ∙ ap (λ (x : List ℕ). page_bytes column (cells_at rows i) ++ x) (pages_from (i + 1) columns rows)

chunks_from : (at i : ℕ) (columns : List Column) (rows : List (List Value)) → parts_chunks at columns (length rows) (parts_from i columns rows) ≡ chunks_of at columns (map (cells_at rows) (range_with_len i (length columns)))
chunks_from at i [] rows = refl
chunks_from at i (column ∷ columns) rows =
    let more : ℕ → List Chunk = λ size. parts_chunks (at + size) columns (length rows) (parts_from (i + 1) columns rows) in
    ap (λ (page : List ℕ). chunk_with at column (length rows) (length page) ∷ more (length page)) (page_from i column rows)
    ∙ ap (λ (n : ℕ). chunk_with at column n (length (page_bytes column (cells_at rows i))) ∷ more (length (page_bytes column (cells_at rows i)))) (counted_at i rows)
    ∙ ap (λ (x : List Chunk). chunk_of at column (cells_at rows i) ∷ x) (chunks_from (at + length (page_bytes column (cells_at rows i))) (i + 1) columns rows)

pub pages_put : (columns : List Column) (rows : List (List Value)) (count : ℕ) (parts : List Parts) → ArePagesOf columns rows count parts → parts_pages columns count parts ≡ group_pages columns rows
unfolding turned
pages_put columns rows count parts pages =
    ap (parts_pages columns count) pages.are ∙ ap (λ (n : ℕ). parts_pages columns n (group_parts columns rows)) pages.counted ∙ pages_from 0 columns rows

pub chunks_put : (at : ℕ) (columns : List Column) (rows : List (List Value)) (count : ℕ) (parts : List Parts) → ArePagesOf columns rows count parts → parts_chunks at columns count parts ≡ chunks_of at columns (turned (length columns) rows)
unfolding turned
chunks_put at columns rows count parts pages =
    ap (parts_chunks at columns count) pages.are ∙ ap (λ (n : ℕ). parts_chunks at columns n (group_parts columns rows)) pages.counted ∙ chunks_from at 0 columns rows

-- the same, where the columns and the parts were handed on
pub bytes_put : (columns cs : List Column) (rows : List (List Value)) (count : ℕ) (parts ps : List Parts) (old new : List ℕ) → cs ≡ columns → ps ≡ parts → new ≡ old ++ parts_pages cs count ps → ArePagesOf columns rows count parts → new ≡ old ++ group_pages columns rows
bytes_put columns cs rows count parts ps old new e f g pages =
    g ∙ ap (λ (xs : List Column). old ++ parts_pages xs count ps) e ∙ ap (λ (xs : List Parts). old ++ parts_pages columns count xs) f
    ∙ ap (λ (xs : List ℕ). old ++ xs) (pages_put columns rows count parts pages)

pub chunks_put_in : (at : ℕ) (columns cs : List Column) (rows : List (List Value)) (count : ℕ) (parts ps : List Parts) (none chunks : List Chunk) → cs ≡ columns → ps ≡ parts → none ≡ [] → chunks ≡ none ++ parts_chunks at cs count ps → ArePagesOf columns rows count parts → chunks ≡ chunks_of at columns (turned (length columns) rows)
chunks_put_in at columns cs rows count parts ps none chunks e f empty g pages =
    g ∙ ap (λ (xs : List Chunk). xs ++ parts_chunks at cs count ps) empty ∙ ap (λ (xs : List Column). parts_chunks at xs count ps) e
    ∙ ap (parts_chunks at columns count) f ∙ chunks_put at columns rows count parts pages

pub group_put : (at : ℕ) (columns : List Column) (rows : List (List Value)) (chunks : List Chunk) (size count : ℕ) → chunks ≡ chunks_of at columns (turned (length columns) rows) → size ≡ length (group_pages columns rows) → count ≡ length rows
    → ◌≡◌ {A = RowGroup} (record { columns = chunks; total_size = pos size; num_rows = pos count }) (group_of at columns rows)
group_put at columns rows chunks size count e f g = rw (e, f, g) refl

pub size_put : (columns : List Column) (rows : List (List Value)) (old new : List ℕ) (before after : ℕ) → new ≡ old ++ group_pages columns rows → before ≡ length old → after ≡ length new → after - before ≡ length (group_pages columns rows)
size_put columns rows old new before after e f g = omega (arith, length-append old (group_pages columns rows), ap (length {A = ℕ}) e)
