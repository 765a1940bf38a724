-- Pages, chunks and row groups by their form are read.
use Rattle.std.proofs.Common.{◌≡◌, ℕ, zero, suc, ◌+◌, ◌-◌, ◌<◌, pos, Bool, List, [], ◌∷◌, ◌++◌, length, drop, Result, Ok, Err, refl, sym, ap, subst, ◌∙◌, arith}
use Rattle.std.specs.Prelude.{if◌then◌else◌, not}
use Rattle.std.specs.Ordering.{int_eq}
use Rattle.std.proofs.lemmas.Bool.{le-leb, lt-ltb}
use Rattle.std.proofs.lemmas.List.{length-append, length-drop, drop-drop}
use Rattle.std.proofs.Math.Seq.{drop-append_seam}
use Rattle.byte_fields.specs.Prefixed.{nonnegative}
use Rattle.hudi_base.specs.declared.column.Column.{Column}
use Rattle.hudi_base.specs.declared.value.Value.{Value}
use Rattle.parquet_meta.specs.declared.chunk.Chunk.{Chunk}
use Rattle.parquet_meta.specs.declared.row_group.RowGroup.{RowGroup}
use Rattle.parquet_pages.specs.declared.page_error.PageError.{PageError}
use Rattle.parquet_pages.specs.Pages.{page_at}
use Rattle.parquet_pages.proofs.PageFormLemmas.{page_back}
use Rattle.base_cells.specs.declared.base_error.BaseError.{BaseError}
use Rattle.base_cells.specs.declared.base_error.BaseError.TheVariants.{BadBase}
use Rattle.base_cells.specs.declared.base_error.BaseCause.TheVariants as cause
use Rattle.base_cells.specs.Binding.{◌>>=◌, behind}
use Rattle.base_cells.specs.Columns.{number_or_0, rows_of}
use Rattle.base_cells.specs.Cells.{page_or, pages_at, cells_from, chunk_at, chunks_at, group_at, groups_at}
use Rattle.base_cells.specs.Turned.{turned}
use Rattle.base_cells.proofs.PageLemmas.{page_positive, pages_none}
use Rattle.base_laws.specs.BaseForm.{ArePages, all_cells, IsChunk, AreChunks, IsRowGroup, AreRowGroups}

no_cells : (cells : List Value) → length cells ≡ 0 → [] ≡ cells
no_cells [] e = refl
no_cells (cell ∷ cells) e = absurd (omega arith)

passed : (at : ℕ) (bytes page rest : List ℕ) → drop at bytes ≡ page ++ rest → drop (at + length page) bytes ≡ rest
passed at bytes page rest e = sym (drop-drop (length page) at bytes) ∙ ap (drop (length page)) e ∙ drop-append_seam page rest

pub pages_back : (steps : ℕ) (column : Column) (left at : ℕ) (bytes : List ℕ) (pages : List (List Value)) → ArePages column pages (drop at bytes) → length (all_cells pages) ≡ left → length (drop at bytes) < steps
    → pages_at steps column left at bytes ≡ Ok (all_cells pages)
unfolding pages_at
pages_back steps column zero at bytes pages are long less = pages_none steps column at bytes ∙ ap (λ (xs : List Value). Ok xs) (no_cells (all_cells pages) long)
pages_back zero column (suc left) at bytes pages are long less = absurd (omega arith)
pages_back (suc steps) column (suc left) at bytes [] are long less = absurd (omega arith)
pages_back (suc steps) column (suc left) at bytes (cells ∷ more) are long less =
    ap (λ (r : Result (List Value × ℕ) PageError). after (page_or at (suc left) r)) read
    ∙ ap (λ (b : Bool). after (if b then Ok (cells, size) else Err (BadBase cause.Page at))) (le-leb (length cells) (suc left) (omega (arith, both)))
    ∙ ap (behind cells) (pages_back steps column (suc left - length cells) (at + size) bytes more later (omega (arith, both)) (omega (arith, less, ap (length {A = ℕ}) parts, length-append page rest, some, ap (length {A = ℕ}) behind_it)))
  where
    page : List ℕ
    page = are.0

    rest : List ℕ
    rest = are.1

    parts : drop at bytes ≡ page ++ rest
    parts = are.2

    size : ℕ
    size = length page

    read : page_at column (drop at bytes) ≡ Ok (cells, size)
    read = ap (page_at column) parts ∙ page_back column cells page rest are.3

    some : 0 < size
    some = page_positive column (drop at bytes) cells size read

    both : length cells + length (all_cells more) ≡ suc left
    both = sym (length-append cells (all_cells more)) ∙ long

    behind_it : drop (at + size) bytes ≡ rest
    behind_it = passed at bytes page rest parts

    later : ArePages column more (drop (at + size) bytes)
    later = subst (ArePages column more) (sym behind_it) are.4

    after : Result (List Value × ℕ) BaseError → Result (List Value) BaseError
    after r = r >>= λ page. behind page.0 (pages_at steps column (suc left - length page.0) (at + page.1) bytes)

pub chunk_back : (column : Column) (bytes : List ℕ) (chunk : Chunk) (cells : List Value) → IsChunk column bytes chunk cells → chunk_at column bytes chunk ≡ Ok cells
unfolding chunk_at
chunk_back column bytes chunk cells is =
    ap (λ z. if not (int_eq z (pos 0)) then Err (BadBase (cause.Compressed z) (number_or_0 chunk.data_offset)) else cells_from column bytes (number_or_0 chunk.num_values) (nonnegative chunk.data_offset)) is.plain
    ∙ ap (λ z. cells_from column bytes (number_or_0 z) (nonnegative chunk.data_offset)) is.count
    ∙ ap (λ z. cells_from column bytes (length cells) (nonnegative z)) is.told
    ∙ ap (λ (b : Bool). if b then pages_at (suc (length bytes)) column (length cells) is.offset bytes else Err (BadBase cause.Page is.offset)) (lt-ltb is.offset (length bytes) is.within)
    ∙ pages_back (suc (length bytes)) column (length cells) is.offset bytes is.pages is.are_pages (ap (length {A = Value}) is.all) (omega (arith, length-drop is.offset bytes))
    ∙ ap (λ (xs : List Value). Ok xs) is.all

pub chunks_back : (bytes : List ℕ) (columns : List Column) (chunks : List Chunk) (lists : List (List Value)) → AreChunks bytes columns chunks lists → chunks_at bytes columns chunks ≡ Ok lists
unfolding chunks_at
chunks_back bytes [] [] [] are = refl
chunks_back bytes [] [] (cells ∷ lists) are = absurd are
chunks_back bytes [] (chunk ∷ chunks) lists are = absurd are
chunks_back bytes (column ∷ columns) [] lists are = absurd are
chunks_back bytes (column ∷ columns) (chunk ∷ chunks) [] are = absurd are
chunks_back bytes (column ∷ columns) (chunk ∷ chunks) (cells ∷ lists) are =
    ap (λ (r : Result (List Value) BaseError). r >>= λ cells. behind (cells ∷ []) (chunks_at bytes columns chunks)) (chunk_back column bytes chunk cells are.0)
    ∙ ap (behind (cells ∷ [])) (chunks_back bytes columns chunks lists are.1)

group_back : (columns : List Column) (bytes : List ℕ) (group : RowGroup) (rows : List (List Value)) → IsRowGroup columns bytes group rows → group_at columns bytes group ≡ Ok rows
unfolding group_at
group_back columns bytes group rows is =
    ap (λ (r : Result (List (List Value)) BaseError). r >>= λ cells. Ok (turned (rows_of group) cells)) (chunks_back bytes columns group.columns is.lists is.chunks)
    ∙ ap (λ (xs : List (List Value)). Ok xs) (sym is.rows_are)

pub groups_back : (columns : List Column) (bytes : List ℕ) (groups : List RowGroup) (rows : List (List Value)) → AreRowGroups columns bytes groups rows → groups_at columns bytes groups ≡ Ok rows
unfolding groups_at
groups_back columns bytes [] rows are = ap (λ (xs : List (List Value)). Ok xs) (sym are)
groups_back columns bytes (group ∷ groups) rows are =
    ap (λ (r : Result (List (List Value)) BaseError). r >>= λ rows. behind rows (groups_at columns bytes groups)) (group_back columns bytes group are.0 are.3)
    ∙ ap (behind are.0) (groups_back columns bytes groups are.1 are.4)
    ∙ ap (λ (xs : List (List Value)). Ok xs) (sym are.2)
