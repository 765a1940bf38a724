-- Rows of cells one after another.
use Rattle.std.proofs.Common.{◌≡◌, ℕ, ◌+◌, ◌<◌, ◌≤◌, List, [], ◌∷◌, ◌++◌, length, drop, get_or, Option, Some, None, Result, Ok, Err, refl, sym, ap, ◌∙◌, append_assoc}
use Rattle.std.specs.Option.{option_and_then}
use Rattle.std.specs.Result.{result_ok}
use Rattle.std.proofs.lemmas.List.{append-nil, drop_more, drop_all}
use Rattle.hudi_base.specs.declared.column.Column.{Column}
use Rattle.hudi_base.specs.declared.value.Value.{Value}
use Rattle.parquet_meta.specs.declared.row_group.RowGroup.{RowGroup}
use Rattle.payload_merge.specs.declared.row.Row.{Row}
use Rattle.payload_merge.specs.Contents.{CellsReading}
use Rattle.base_cells.specs.declared.base_error.BaseError.{BaseError}
use Rattle.base_cells.specs.Binding.{◌>>=◌, behind}
use Rattle.base_cells.specs.Cells.{group_at, groups_at}
use Rattle.base_file.specs.BaseFiles.{rows_behind, rows_of_cells}
use Rattle.base_file.specs.Loops.{then_rows, rows_of_groups}

rows_behind_twice : (a b : List Row) (found : Option (List Row)) → rows_behind a (rows_behind b found) ≡ rows_behind (a ++ b) found
rows_behind_twice a b (Some rows) = ap (λ (xs : List Row). Some xs) (sym (append_assoc a b rows))
rows_behind_twice a b None = refl

-- ---- one row group after another

rows_of_both : (reading : CellsReading) (partition : List ℕ) (a b : List (List Value)) → rows_of_cells reading partition (a ++ b) ≡ option_and_then (λ rows. rows_behind rows (rows_of_cells reading partition b)) (rows_of_cells reading partition a)
unfolding rows_of_cells
rows_of_both reading partition [] b = rows_behind_nil (rows_of_cells reading partition b)
  where
    rows_behind_nil : (found : Option (List Row)) → found ≡ rows_behind [] found
    rows_behind_nil (Some rows) = refl
    rows_behind_nil None = refl
rows_of_both reading partition (cells ∷ a) b = by_row (result_ok (reading partition cells)) (rows_of_both reading partition a b)
  where
    by_rows : (row : Row) (found : Option (List Row)) → rows_behind (row ∷ []) (option_and_then (λ rows. rows_behind rows (rows_of_cells reading partition b)) found) ≡ option_and_then (λ rows. rows_behind rows (rows_of_cells reading partition b)) (rows_behind (row ∷ []) found)
    by_rows row (Some rows) = rows_behind_twice (row ∷ []) rows (rows_of_cells reading partition b)
    by_rows row None = refl

    by_row : (o : Option Row) → rows_of_cells reading partition (a ++ b) ≡ option_and_then (λ rows. rows_behind rows (rows_of_cells reading partition b)) (rows_of_cells reading partition a)
        → option_and_then (λ row. rows_behind (row ∷ []) (rows_of_cells reading partition (a ++ b))) o
        ≡ option_and_then (λ rows. rows_behind rows (rows_of_cells reading partition b)) (option_and_then (λ row. rows_behind (row ∷ []) (rows_of_cells reading partition a)) o)
    by_row (Some row) again = ap (rows_behind (row ∷ [])) again ∙ by_rows row (rows_of_cells reading partition a)
    by_row None again = refl

then_both : (reading : CellsReading) (partition : List ℕ) (before : Option (List Row)) (a b : List (List Value)) → then_rows reading partition before (a ++ b) ≡ then_rows reading partition (then_rows reading partition before a) b
then_both reading partition (Some rows) a b = ap (rows_behind rows) (rows_of_both reading partition a b) ∙ by_rows (rows_of_cells reading partition a)
  where
    by_rows : (found : Option (List Row)) → rows_behind rows (option_and_then (λ more. rows_behind more (rows_of_cells reading partition b)) found) ≡ then_rows reading partition (rows_behind rows found) b
    by_rows (Some more) = rows_behind_twice rows more (rows_of_cells reading partition b)
    by_rows None = refl
then_both reading partition None a b = refl

next_group : (columns : List Column) (bytes : List ℕ) (i : ℕ) (groups : List RowGroup) (group : RowGroup) → i < length groups → group ≡ get_or groups i group
    → groups_at columns bytes (drop i groups) ≡ (group_at columns bytes group >>= λ rows. behind rows (groups_at columns bytes (drop (i + 1) groups)))
unfolding groups_at
next_group columns bytes i groups group lt is = ap (groups_at columns bytes) (drop_more groups i group lt ∙ ap (λ (x : RowGroup). x ∷ drop (i + 1) groups) (sym is))

pub group_next : (columns : List Column) (reading : CellsReading) (partition bytes : List ℕ) (i : ℕ) (groups : List RowGroup) (group : RowGroup) (before after : Option (List Row)) (cells : List (List Value)) (whole : Result (Option (List Row)) BaseError)
    → i < length groups → group ≡ get_or groups i group → group_at columns bytes group ≡ Ok cells → after ≡ then_rows reading partition before cells
    → whole ≡ rows_of_groups columns reading partition bytes before (drop i groups) → whole ≡ rows_of_groups columns reading partition bytes after (drop (i + 1) groups)
group_next columns reading partition bytes i groups group before after cells whole lt is read e w =
    w ∙ ap (λ (r : Result (List (List Value)) BaseError). r >>= λ cells. Ok (then_rows reading partition before cells)) (next_group columns bytes i groups group lt is
    ∙ ap (λ (r : Result (List (List Value)) BaseError). r >>= λ rows. behind rows (groups_at columns bytes (drop (i + 1) groups))) read)
    ∙ by_rest (groups_at columns bytes (drop (i + 1) groups))
    ∙ ap (λ (rows : Option (List Row)). rows_of_groups columns reading partition bytes rows (drop (i + 1) groups)) (sym e)
  where
    by_rest : (r : Result (List (List Value)) BaseError) → (behind cells r >>= λ cells. Ok (then_rows reading partition before cells)) ≡ (r >>= λ more. Ok (then_rows reading partition (then_rows reading partition before cells) more))
    by_rest (Ok more) = ap (λ (rows : Option (List Row)). Ok rows) (then_both reading partition before cells more)
    by_rest (Err error) = refl

pub group_refused : (columns : List Column) (reading : CellsReading) (partition bytes : List ℕ) (i : ℕ) (groups : List RowGroup) (group : RowGroup) (before : Option (List Row)) (error : BaseError) (whole : Result (Option (List Row)) BaseError)
    → i < length groups → group ≡ get_or groups i group → group_at columns bytes group ≡ Err error → whole ≡ rows_of_groups columns reading partition bytes before (drop i groups) → whole ≡ Err error
group_refused columns reading partition bytes i groups group before error whole lt is read w =
    w ∙ ap (λ (r : Result (List (List Value)) BaseError). r >>= λ cells. Ok (then_rows reading partition before cells)) (next_group columns bytes i groups group lt is
    ∙ ap (λ (r : Result (List (List Value)) BaseError). r >>= λ rows. behind rows (groups_at columns bytes (drop (i + 1) groups))) read)

pub groups_end : (columns : List Column) (reading : CellsReading) (partition bytes : List ℕ) (i : ℕ) (groups : List RowGroup) (before : Option (List Row)) (whole : Result (Option (List Row)) BaseError) → length groups ≤ i
    → whole ≡ rows_of_groups columns reading partition bytes before (drop i groups) → whole ≡ Ok before
unfolding groups_at rows_of_cells
groups_end columns reading partition bytes i groups before whole le w =
    w ∙ ap (λ (xs : List RowGroup). rows_of_groups columns reading partition bytes before xs) (drop_all i groups le) ∙ by_before before
  where
    by_before : (before : Option (List Row)) → (let r : Result (Option (List Row)) BaseError = Ok (then_rows reading partition before []) in r) ≡ Ok before
    by_before (Some rows) = ap (λ (xs : List Row). Ok (Some xs)) (append-nil rows)
    by_before None = refl
