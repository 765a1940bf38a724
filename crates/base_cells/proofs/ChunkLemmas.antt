-- The chunks of a row group.
use Rattle.std.proofs.Common.{◌≡◌, ℕ, ℤ, pos, suc, Bool, true, false, List, [], ◌∷◌, length, Option, Some, None, Result, Ok, Err, refl, sym, ap, subst, ◌∙◌}
use Rattle.std.specs.Prelude.{is_some, not, ◌&&◌, nat_lt, if◌then◌else◌}
use Rattle.std.specs.List.{AllByRecursion}
use Rattle.std.specs.Ordering.{int_eq}
use Rattle.byte_fields.specs.Prefixed.{nonnegative}
use Rattle.hudi_base.specs.declared.column.Column.{Column}
use Rattle.hudi_base.specs.declared.value.Value.{Value}
use Rattle.parquet_meta.specs.declared.chunk.Chunk.{Chunk}
use Rattle.parquet_meta.specs.declared.row_group.RowGroup.{RowGroup}
use Rattle.parquet_pages.proofs.PageAgainLemmas.{both_true}
use Rattle.base_cells.specs.declared.base_error.BaseError.{BaseError}
use Rattle.base_cells.specs.declared.base_error.BaseError.TheVariants.{BadBase}
use Rattle.base_cells.specs.declared.base_error.BaseCause.TheVariants as cause
use Rattle.base_cells.specs.Binding.{◌>>=◌, behind}
use Rattle.base_cells.specs.Columns.{number_or_0, is_path, is_chunk_of, are_chunks, is_group_of, rows_of}
use Rattle.base_cells.specs.Cells.{pages_at, cells_from, chunk_at, chunks_at, group_at}
use Rattle.base_cells.specs.Turned.{turned}
use Rattle.base_cells.proofs.CountLemmas.{int_eq-true}
use Rattle.base_cells.proofs.PageLemmas.{pages_count, same_Ok}

chunk_count : (column : Column) (bytes : List ℕ) (chunk : Chunk) (cells : List Value) → chunk_at column bytes chunk ≡ Ok cells → length cells ≡ number_or_0 chunk.num_values
unfolding chunk_at
chunk_count column bytes chunk cells e = by_codec (not (int_eq chunk.codec (pos 0))) e
  where
    count : ℕ
    count = number_or_0 chunk.num_values

    by_place : (b : Bool) (at : ℕ) → (if b then pages_at (suc (length bytes)) column count at bytes else Err (BadBase cause.Page at)) ≡ Ok cells → length cells ≡ count
    by_place true at f = pages_count (suc (length bytes)) column count at bytes cells f
    by_place false at f = absurd cc

    by_offset : (o : Option ℕ) → cells_from column bytes count o ≡ Ok cells → length cells ≡ count
    by_offset (Some at) f = by_place (nat_lt at (length bytes)) at f
    by_offset None f = absurd cc

    by_codec : (b : Bool) → (if b then Err (BadBase (cause.Compressed chunk.codec) (number_or_0 chunk.data_offset)) else cells_from column bytes count (nonnegative chunk.data_offset)) ≡ Ok cells → length cells ≡ count
    by_codec true f = absurd cc
    by_codec false f = by_offset (nonnegative chunk.data_offset) f

-- each column of a row group has as many cells as the group has rows
pub chunks_count : (rows : ℤ) (bytes : List ℕ) (columns : List Column) (chunks : List Chunk) (cells : List (List Value)) → are_chunks rows columns chunks ≡ true → chunks_at bytes columns chunks ≡ Ok cells
    → AllByRecursion (λ cells. length cells ≡ number_or_0 rows) cells
unfolding chunks_at
chunks_count rows bytes [] [] cells are e = subst (λ (xs : List (List Value)). AllByRecursion (λ (cells : List Value). length cells ≡ number_or_0 rows) xs) (same_Ok [] cells e) tt
chunks_count rows bytes [] (chunk ∷ chunks) cells are e = absurd cc
chunks_count rows bytes (column ∷ columns) [] cells are e = absurd cc
chunks_count rows bytes (column ∷ columns) (chunk ∷ chunks) cells are e = by_first (λ more f. chunks_count rows bytes columns chunks more parts.1 f) (chunk_at column bytes chunk) refl e
  where
    parts : (is_chunk_of rows column chunk ≡ true) × (are_chunks rows columns chunks ≡ true)
    parts = both_true (is_chunk_of rows column chunk) (are_chunks rows columns chunks) are

    values : chunk.num_values ≡ rows
    values =
        let is = parts.0 in
        int_eq-true chunk.num_values rows ((both_true (int_eq chunk.physical column.physical && is_path column.name chunk.path) (int_eq chunk.num_values rows) is).1)

    by_more : ((more : List (List Value)) → chunks_at bytes columns chunks ≡ Ok more → AllByRecursion (λ (cells : List Value). length cells ≡ number_or_0 rows) more) → (first : List Value) → chunk_at column bytes chunk ≡ Ok first → (r : Result (List (List Value)) BaseError) → chunks_at bytes columns chunks ≡ r → behind (first ∷ []) r ≡ Ok cells → AllByRecursion (λ (cells : List Value). length cells ≡ number_or_0 rows) cells
    by_more again first is (Ok more) f g =
        subst (λ (xs : List (List Value)). AllByRecursion (λ (cells : List Value). length cells ≡ number_or_0 rows) xs) (same_Ok (first ∷ more) cells g)
        (chunk_count column bytes chunk first is ∙ ap number_or_0 values, again more f)
    by_more again first is (Err error) f g = absurd cc

    by_first : ((more : List (List Value)) → chunks_at bytes columns chunks ≡ Ok more → AllByRecursion (λ (cells : List Value). length cells ≡ number_or_0 rows) more) → (r : Result (List Value) BaseError) → chunk_at column bytes chunk ≡ r → (r >>= λ cells. behind (cells ∷ []) (chunks_at bytes columns chunks)) ≡ Ok cells → AllByRecursion (λ (cells : List Value). length cells ≡ number_or_0 rows) cells
    by_first again (Ok first) is f = by_more again first is (chunks_at bytes columns chunks) refl f
    by_first again (Err error) is f = absurd cc

-- ---- a row group

behind_nil : {A : Type 0} (r : Result (List A) BaseError) → behind [] r ≡ r
behind_nil (Ok more) = refl
behind_nil (Err error) = refl

chunks_read : (columns cs : List Column) (bytes : List ℕ) (group : RowGroup) (chunks : List Chunk) (before : List (List Value)) → cs ≡ columns → chunks ≡ group.columns → before ≡ [] → behind before (chunks_at bytes cs chunks) ≡ chunks_at bytes columns group.columns
chunks_read columns cs bytes group chunks before e f g =
    ap (λ (x : List (List Value)). behind x (chunks_at bytes cs chunks)) g ∙ behind_nil (chunks_at bytes cs chunks)
    ∙ ap (λ (x : List Column). chunks_at bytes x chunks) e ∙ ap (chunks_at bytes columns) f

pub group_Err : (columns cs : List Column) (bytes : List ℕ) (group : RowGroup) (chunks : List Chunk) (before : List (List Value)) (error : BaseError) → cs ≡ columns → chunks ≡ group.columns → before ≡ []
    → behind before (chunks_at bytes cs chunks) ≡ Err error → group_at columns bytes group ≡ Err error
unfolding group_at
group_Err columns cs bytes group chunks before error e f g is =
    ap (λ (r : Result (List (List Value)) BaseError). r >>= λ cells. Ok (turned (rows_of group) cells)) (sym (chunks_read columns cs bytes group chunks before e f g) ∙ is)

pub group_long : (columns cs : List Column) (bytes : List ℕ) (group : RowGroup) (chunks : List Chunk) (before cells : List (List Value)) (n : ℕ) → cs ≡ columns → chunks ≡ group.columns → before ≡ []
    → behind before (chunks_at bytes cs chunks) ≡ Ok cells → is_group_of columns group ≡ true → n ≡ rows_of group → AllByRecursion (λ cells. length cells ≡ n) cells
group_long columns cs bytes group chunks before cells n e f g is of count =
    subst (λ (k : ℕ). AllByRecursion (λ (cells : List Value). length cells ≡ k) cells) (sym count)
    (chunks_count group.num_rows bytes columns group.columns cells (both_true (is_some (nonnegative group.num_rows)) (are_chunks group.num_rows columns group.columns) of).1 (sym (chunks_read columns cs bytes group chunks before e f g) ∙ is))

pub group_read : (columns cs : List Column) (bytes : List ℕ) (group : RowGroup) (chunks : List Chunk) (before cells rows : List (List Value)) (n : ℕ) → cs ≡ columns → chunks ≡ group.columns → before ≡ []
    → behind before (chunks_at bytes cs chunks) ≡ Ok cells → n ≡ rows_of group → rows ≡ turned n cells → group_at columns bytes group ≡ Ok rows
unfolding group_at
group_read columns cs bytes group chunks before cells rows n e f g is count are =
    ap (λ (r : Result (List (List Value)) BaseError). r >>= λ cells. Ok (turned (rows_of group) cells)) (sym (chunks_read columns cs bytes group chunks before e f g) ∙ is)
    ∙ ap (λ (k : ℕ). Ok (turned k cells)) (sym count) ∙ ap (λ (xs : List (List Value)). Ok xs) (sym are)
