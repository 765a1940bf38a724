-- What is read of pages, chunks and row groups has their form.
use Rattle.std.proofs.Common.{◌≡◌, ℕ, ℤ, zero, suc, ◌+◌, ◌-◌, pos, negsuc, Bool, true, false, List, [], ◌∷◌, ◌++◌, length, drop, Option, Some, None, Result, Ok, Err, refl, sym, ap, subst, ◌∙◌}
use Rattle.std.specs.Prelude.{if◌then◌else◌, ◌&&◌, nat_lt, nat_le, not, is_some}
use Rattle.std.specs.Ordering.{int_eq}
use Rattle.std.specs.List.{list_all}
use Rattle.parquet_pages.proofs.PageAgainLemmas.{both_true}
use Rattle.base_cells.proofs.CountLemmas.{int_eq-true}
use Rattle.std.proofs.lemmas.Bool.{ltb-true}
use Rattle.std.proofs.lemmas.List.{drop-drop}
use Rattle.std.proofs.Math.Seq.{drop-append_seam}
use Rattle.byte_fields.specs.Prefixed.{nonnegative}
use Rattle.byte_fields.proofs.ReadingLemmas.{IsBytes, IsBytes-drop}
use Rattle.hudi_base.specs.declared.column.Column.{Column}
use Rattle.hudi_base.specs.declared.value.Value.{Value}
use Rattle.parquet_meta.specs.declared.chunk.Chunk.{Chunk}
use Rattle.parquet_meta.specs.declared.row_group.RowGroup.{RowGroup}
use Rattle.parquet_pages.specs.declared.page_error.PageError.{PageError}
use Rattle.parquet_pages.specs.declared.page_error.PageError.TheVariants.{Memory, BadPage, Encoding}
use Rattle.parquet_pages.specs.Pages.{page_at}
use Rattle.parquet_pages.proofs.PageTookLemmas.{page_took}
use Rattle.base_cells.specs.declared.base_error.BaseError.{BaseError}
use Rattle.base_cells.specs.declared.base_error.BaseError.TheVariants.{BadBase}
use Rattle.base_cells.specs.declared.base_error.BaseCause.TheVariants as cause
use Rattle.base_cells.specs.Binding.{◌>>=◌, behind}
use Rattle.base_cells.specs.Columns.{number_or_0, rows_of, is_chunk_of, are_chunks, is_group_of, is_path}
use Rattle.base_cells.specs.Cells.{page_or, pages_at, cells_from, chunk_at, chunks_at, group_at, groups_at}
use Rattle.base_cells.specs.Turned.{turned}
use Rattle.base_cells.proofs.PageLemmas.{same_Ok, pages_count, told_count}
use Rattle.base_laws.specs.BaseForm.{ArePages, all_cells, IsChunk, AreChunks, IsRowGroup, AreRowGroups}

-- cells in pages from a place on
abbrev AreCellsAt : Column → ℕ → List ℕ → List Value → Type 0
AreCellsAt column at bytes cells = (pages : List (List Value)) × ArePages column pages (drop at bytes) × (all_cells pages ≡ cells)

pages_found : (steps : ℕ) (column : Column) (left at : ℕ) (bytes : List ℕ) (cells : List Value) → IsBytes bytes → pages_at steps column left at bytes ≡ Ok cells → AreCellsAt column at bytes cells
unfolding pages_at
pages_found zero column zero at bytes cells fits e = ([], tt, same_Ok [] cells e)
pages_found (suc steps) column zero at bytes cells fits e = ([], tt, same_Ok [] cells e)
pages_found zero column (suc left) at bytes cells fits e = absurd cc
pages_found (suc steps) column (suc left) at bytes cells fits e = by_page (λ page n more f. pages_found steps column (suc left - length page) (at + n) bytes more fits f) (page_at column (drop at bytes)) refl e
  where
    IsAgain : Type 0
    IsAgain = (page : List Value) (n : ℕ) (more : List Value) → pages_at steps column (suc left - length page) (at + n) bytes ≡ Ok more → AreCellsAt column (at + n) bytes more

    joined : (page more : List Value) (n : ℕ) → page_at column (drop at bytes) ≡ Ok (page, n) → AreCellsAt column (at + n) bytes more → page ++ more ≡ cells → AreCellsAt column at bytes cells
    joined page more n is later same =
        let took = page_took column (drop at bytes) page n (IsBytes-drop at bytes fits) is in
        let rest : drop (at + n) bytes ≡ took.1 =
        sym (drop-drop n at bytes) ∙ ap (drop n) took.2 ∙ ap (λ (k : ℕ). drop k (took.0 ++ took.1)) (sym took.3) ∙ drop-append_seam took.0 took.1 in
        (page ∷ later.0, (took.0, took.1, took.2, took.4, subst (ArePages column later.0) rest later.1), ap (λ (xs : List Value). page ++ xs) later.2 ∙ same)

    by_more : IsAgain → (page : List Value) (n : ℕ) → page_at column (drop at bytes) ≡ Ok (page, n) → (r : Result (List Value) BaseError) → pages_at steps column (suc left - length page) (at + n) bytes ≡ r → behind page r ≡ Ok cells → AreCellsAt column at bytes cells
    by_more again page n is (Ok more) f g = joined page more n is (again page n more f) (same_Ok (page ++ more) cells g)
    by_more again page n is (Err error) f g = absurd cc

    by_test : IsAgain → (b : Bool) (page : List Value × ℕ) → page_at column (drop at bytes) ≡ Ok page
        → ((if b then Ok page else Err (BadBase cause.Page at)) >>= λ page. behind page.0 (pages_at steps column (suc left - length page.0) (at + page.1) bytes)) ≡ Ok cells → AreCellsAt column at bytes cells
    by_test again true page is f = by_more again page.0 page.1 is (pages_at steps column (suc left - length page.0) (at + page.1) bytes) refl f
    by_test again false page is f = absurd cc

    by_page : IsAgain → (r : Result (List Value × ℕ) PageError) → page_at column (drop at bytes) ≡ r → (page_or at (suc left) r >>= λ page. behind page.0 (pages_at steps column (suc left - length page.0) (at + page.1) bytes)) ≡ Ok cells → AreCellsAt column at bytes cells
    by_page again (Ok page) is f = by_test again (nat_le (length page.0) (suc left)) page is f
    by_page again (Err Memory) is f = absurd cc
    by_page again (Err (BadPage offset)) is f = absurd cc
    by_page again (Err (Encoding n)) is f = absurd cc

-- ---- chunks

told_number : (z : ℤ) → is_some (nonnegative z) ≡ true → z ≡ pos (number_or_0 z)
told_number (pos n) e = refl
told_number (negsuc n) e = absurd cc

chunk_found : (rows : ℤ) (column : Column) (bytes : List ℕ) (chunk : Chunk) (cells : List Value) → IsBytes bytes → is_some (nonnegative rows) ≡ true → is_chunk_of rows column chunk ≡ true → chunk_at column bytes chunk ≡ Ok cells → IsChunk column bytes chunk cells
unfolding chunk_at
chunk_found rows column bytes chunk cells fits some of e = by_codec (int_eq chunk.codec (pos 0)) refl e
  where
    count : ℕ
    count = number_or_0 chunk.num_values

    values : chunk.num_values ≡ rows
    values = int_eq-true chunk.num_values rows ((both_true (int_eq chunk.physical column.physical && is_path column.name chunk.path) (int_eq chunk.num_values rows) of).1)

    counted : chunk.num_values ≡ pos count
    counted = told_number chunk.num_values (ap (λ (z : ℤ). is_some (nonnegative z)) values ∙ some)

    by_place : (b : Bool) (at : ℕ) → chunk.codec ≡ pos 0 → chunk.data_offset ≡ pos at → nat_lt at (length bytes) ≡ b → (if b then pages_at (suc (length bytes)) column count at bytes else Err (BadBase cause.Page at)) ≡ Ok cells → IsChunk column bytes chunk cells
    by_place true at plain told within f =
        let found = pages_found (suc (length bytes)) column count at bytes cells fits f in
        record {
          plain = plain;
          count = counted ∙ ap (λ (k : ℕ). pos k) (sym (pages_count (suc (length bytes)) column count at bytes cells f));
          offset = at;
          told = told;
          within = ltb-true at (length bytes) within;
          pages = found.0;
          are_pages = found.1;
          all = found.2;
        }
    by_place false at plain told within f = absurd cc

    by_offset : (o : Option ℕ) → chunk.codec ≡ pos 0 → nonnegative chunk.data_offset ≡ o → cells_from column bytes count o ≡ Ok cells → IsChunk column bytes chunk cells
    by_offset (Some at) plain told f = by_place (nat_lt at (length bytes)) at plain (told_count chunk.data_offset at (sym told)) refl f
    by_offset None plain told f = absurd cc

    by_codec : (b : Bool) → int_eq chunk.codec (pos 0) ≡ b → (if not b then Err (BadBase (cause.Compressed chunk.codec) (number_or_0 chunk.data_offset)) else cells_from column bytes count (nonnegative chunk.data_offset)) ≡ Ok cells → IsChunk column bytes chunk cells
    by_codec true is f = by_offset (nonnegative chunk.data_offset) (int_eq-true chunk.codec (pos 0) is) refl f
    by_codec false is f = absurd cc

chunks_found : (rows : ℤ) (bytes : List ℕ) (columns : List Column) (chunks : List Chunk) (lists : List (List Value)) → IsBytes bytes → is_some (nonnegative rows) ≡ true → are_chunks rows columns chunks ≡ true → chunks_at bytes columns chunks ≡ Ok lists → AreChunks bytes columns chunks lists
unfolding chunks_at
chunks_found rows bytes [] [] lists fits some are e = subst (AreChunks bytes [] []) (same_Ok [] lists e) tt
chunks_found rows bytes [] (chunk ∷ chunks) lists fits some are e = absurd cc
chunks_found rows bytes (column ∷ columns) [] lists fits some are e = absurd cc
chunks_found rows bytes (column ∷ columns) (chunk ∷ chunks) lists fits some are e = by_first (λ more f. chunks_found rows bytes columns chunks more fits some parts.1 f) (chunk_at column bytes chunk) refl e
  where
    parts : (is_chunk_of rows column chunk ≡ true) × (are_chunks rows columns chunks ≡ true)
    parts = both_true (is_chunk_of rows column chunk) (are_chunks rows columns chunks) are

    IsAgain : Type 0
    IsAgain = (more : List (List Value)) → chunks_at bytes columns chunks ≡ Ok more → AreChunks bytes columns chunks more

    by_more : IsAgain → (first : List Value) → chunk_at column bytes chunk ≡ Ok first → (r : Result (List (List Value)) BaseError) → chunks_at bytes columns chunks ≡ r → behind (first ∷ []) r ≡ Ok lists → AreChunks bytes (column ∷ columns) (chunk ∷ chunks) lists
    by_more again first is (Ok more) f g = subst (AreChunks bytes (column ∷ columns) (chunk ∷ chunks)) (same_Ok (first ∷ more) lists g) (chunk_found rows column bytes chunk first fits some parts.0 is, again more f)
    by_more again first is (Err error) f g = absurd cc

    by_first : IsAgain → (r : Result (List Value) BaseError) → chunk_at column bytes chunk ≡ r → (r >>= λ cells. behind (cells ∷ []) (chunks_at bytes columns chunks)) ≡ Ok lists → AreChunks bytes (column ∷ columns) (chunk ∷ chunks) lists
    by_first again (Ok first) is f = by_more again first is (chunks_at bytes columns chunks) refl f
    by_first again (Err error) is f = absurd cc

-- ---- row groups

group_found : (columns : List Column) (bytes : List ℕ) (group : RowGroup) (rows : List (List Value)) → IsBytes bytes → is_group_of columns group ≡ true → group_at columns bytes group ≡ Ok rows → IsRowGroup columns bytes group rows
unfolding group_at
group_found columns bytes group rows fits of e = by_lists (chunks_at bytes columns group.columns) refl e
  where
    parts : (is_some (nonnegative group.num_rows) ≡ true) × (are_chunks group.num_rows columns group.columns ≡ true)
    parts = both_true (is_some (nonnegative group.num_rows)) (are_chunks group.num_rows columns group.columns) of

    by_lists : (r : Result (List (List Value)) BaseError) → chunks_at bytes columns group.columns ≡ r → (r >>= λ cells. Ok (turned (rows_of group) cells)) ≡ Ok rows → IsRowGroup columns bytes group rows
    by_lists (Ok lists) is f = record {
      lists = lists;
      chunks = chunks_found group.num_rows bytes columns group.columns lists fits parts.0 parts.1 is;
      rows_are = sym (same_Ok (turned (rows_of group) lists) rows f);
    }
    by_lists (Err error) is f = absurd cc

pub groups_found : (columns : List Column) (bytes : List ℕ) (groups : List RowGroup) (rows : List (List Value)) → IsBytes bytes → list_all (is_group_of columns) groups ≡ true → groups_at columns bytes groups ≡ Ok rows → AreRowGroups columns bytes groups rows
unfolding groups_at
groups_found columns bytes [] rows fits of e = sym (same_Ok [] rows e)
groups_found columns bytes (group ∷ groups) rows fits of e = by_first (λ more f. groups_found columns bytes groups more fits parts.1 f) (group_at columns bytes group) refl e
  where
    parts : (is_group_of columns group ≡ true) × (list_all (is_group_of columns) groups ≡ true)
    parts = both_true (is_group_of columns group) (list_all (is_group_of columns) groups) of

    IsAgain : Type 0
    IsAgain = (more : List (List Value)) → groups_at columns bytes groups ≡ Ok more → AreRowGroups columns bytes groups more

    by_more : IsAgain → (first : List (List Value)) → group_at columns bytes group ≡ Ok first → (r : Result (List (List Value)) BaseError) → groups_at columns bytes groups ≡ r → behind first r ≡ Ok rows → AreRowGroups columns bytes (group ∷ groups) rows
    by_more again first is (Ok more) f g = (first, more, sym (same_Ok (first ++ more) rows g), group_found columns bytes group first fits parts.0 is, again more f)
    by_more again first is (Err error) f g = absurd cc

    by_first : IsAgain → (r : Result (List (List Value)) BaseError) → group_at columns bytes group ≡ r → (r >>= λ rows. behind rows (groups_at columns bytes groups)) ≡ Ok rows → AreRowGroups columns bytes (group ∷ groups) rows
    by_first again (Ok first) is f = by_more again first is (groups_at columns bytes groups) refl f
    by_first again (Err error) is f = absurd cc
