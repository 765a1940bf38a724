-- Rows of columns of cells, from the last row on.
use Rattle.std.proofs.Common.{◌≡◌, ℕ, zero, suc, ◌+◌, ◌-◌, ◌<◌, ◌≤◌, List, [], ◌∷◌, ◌++◌, take, map, reverse, Option, Some, None, refl, sym, ap, ◌∙◌, arith}
use Rattle.std.specs.List.{range_with_len}
use Rattle.std.specs.Option.{option_and_then}
use Rattle.std.specs.Result.{result_ok}
use Rattle.std.proofs.lemmas.List.{reverse-append}
use Rattle.hudi_base.specs.declared.value.Value.{Value}
use Rattle.payload_merge.specs.declared.row.Row.{Row}
use Rattle.payload_merge.specs.Contents.{CellsReading}
use Rattle.base_cells.specs.Turned.{cells_at, turned}
use Rattle.base_cells.proofs.TurnedLemmas.{cells_at-takes}
use Rattle.base_file.specs.BaseFiles.{rows_behind, rows_of_cells}

-- the rows of cells from a place on
abbrev pub cells_from : List (List Value) → ℕ → ℕ → List (List Value)
cells_from columns left count = map (cells_at columns) (range_with_len left (count - left))

cells_before : (columns : List (List Value)) (left count : ℕ) → 0 < left → left ≤ count → cells_from columns (left - 1) count ≡ cells_at columns (left - 1) ∷ cells_from columns left count
cells_before columns left count some le =
    let n : count - (left - 1) ≡ suc (count - left) = omega arith in
    let k : left - 1 + 1 ≡ left = omega arith in
    ap (λ (m : ℕ). map (cells_at columns) (range_with_len (left - 1) m)) n
    ∙ ap (λ (m : ℕ). cells_at columns (left - 1) ∷ map (cells_at columns) (range_with_len m (count - left))) k

pub rows_started : (reading : CellsReading) (partition : List ℕ) (columns : List (List Value)) (count : ℕ) (rows : List Row) → rows ≡ [] → rows_of_cells reading partition (cells_from columns count count) ≡ Some (reverse rows)
unfolding rows_of_cells
rows_started reading partition columns count rows none =
    let zero_left : count - count ≡ 0 = omega arith in
    ap (λ (m : ℕ). rows_of_cells reading partition (map (cells_at columns) (range_with_len count m))) zero_left ∙ ap (λ (xs : List Row). Some (reverse xs)) (sym none)

-- what the last cells of columns of which some were taken stand for
row_at : (reading : CellsReading) (partition : List ℕ) (columns now : List (List Value)) (left count : ℕ) (cells : List Value) → 0 < left → left ≤ count → now ≡ map (take left) columns → cells ≡ cells_at now (left - 1)
    → rows_of_cells reading partition (cells_from columns (left - 1) count) ≡ option_and_then (λ row. rows_behind (row ∷ []) (rows_of_cells reading partition (cells_from columns left count))) (result_ok (reading partition cells))
unfolding rows_of_cells
row_at reading partition columns now left count cells some le e is =
    let cell : cells ≡ cells_at columns (left - 1) = is ∙ ap (λ (xs : List (List Value)). cells_at xs (left - 1)) e ∙ cells_at-takes (left - 1) left columns (omega arith) in
    ap (rows_of_cells reading partition) (cells_before columns left count some le ∙ ap (λ (x : List Value). x ∷ cells_from columns left count) (sym cell))

pub row_before : (reading : CellsReading) (partition : List ℕ) (columns now : List (List Value)) (left count : ℕ) (cells : List Value) (row : Row) (rows longer : List Row) → 0 < left → left ≤ count → now ≡ map (take left) columns → cells ≡ cells_at now (left - 1)
    → Some row ≡ result_ok (reading partition cells) → longer ≡ rows ++ row ∷ [] → rows_of_cells reading partition (cells_from columns left count) ≡ Some (reverse rows)
    → rows_of_cells reading partition (cells_from columns (left - 1) count) ≡ Some (reverse longer)
row_before reading partition columns now left count cells row rows longer some le e is read more all =
    row_at reading partition columns now left count cells some le e is
    ∙ ap (option_and_then (λ (row : Row). rows_behind (row ∷ []) (rows_of_cells reading partition (cells_from columns left count)))) (sym read)
    ∙ ap (rows_behind (row ∷ [])) all
    ∙ ap (λ (xs : List Row). Some xs) (sym (ap (reverse {A = Row}) more ∙ reverse-append rows (row ∷ [])))

none_more : (reading : CellsReading) (partition : List ℕ) (cells : List Value) (more : List (List Value)) → rows_of_cells reading partition more ≡ None → rows_of_cells reading partition (cells ∷ more) ≡ None
unfolding rows_of_cells
none_more reading partition cells more e =
    ap (λ (found : Option (List Row)). option_and_then (λ row. rows_behind (row ∷ []) found) (result_ok (reading partition cells))) e ∙ none (result_ok (reading partition cells))
  where
    none : (o : Option Row) → option_and_then (λ row. rows_behind (row ∷ []) None) o ≡ None
    none (Some row) = refl
    none None = refl

none_before : (reading : CellsReading) (partition : List ℕ) (columns : List (List Value)) (left count : ℕ) → left ≤ count → rows_of_cells reading partition (cells_from columns left count) ≡ None → rows_of_cells reading partition (cells_from columns 0 count) ≡ None
none_before reading partition columns zero count le e = e
none_before reading partition columns (suc left) count le e =
    let one : left ≡ suc left - 1 = omega arith in
    none_before reading partition columns left count (omega arith)
    (ap (λ (k : ℕ). rows_of_cells reading partition (cells_from columns k count)) one
    ∙ ap (rows_of_cells reading partition) (cells_before columns (suc left) count (omega arith) le)
    ∙ none_more reading partition (cells_at columns (suc left - 1)) (cells_from columns (suc left) count) e)

whole : (reading : CellsReading) (partition : List ℕ) (columns : List (List Value)) (count : ℕ) → rows_of_cells reading partition (cells_from columns 0 count) ≡ rows_of_cells reading partition (turned count columns)
unfolding turned
whole reading partition columns count = ap (λ (k : ℕ). rows_of_cells reading partition (map (cells_at columns) (range_with_len 0 k))) (let n : count - 0 ≡ count = omega arith in n)

pub no_row : (reading : CellsReading) (partition : List ℕ) (columns now : List (List Value)) (left count : ℕ) (cells : List Value) → 0 < left → left ≤ count → now ≡ map (take left) columns → cells ≡ cells_at now (left - 1)
    → None ≡ result_ok (reading partition cells) → None ≡ rows_of_cells reading partition (turned count columns)
no_row reading partition columns now left count cells some le e is read =
    let within : left - 1 ≤ count = omega arith in
    sym (sym (whole reading partition columns count)
    ∙ none_before reading partition columns (left - 1) count within
    (row_at reading partition columns now left count cells some le e is
    ∙ ap (option_and_then (λ (row : Row). rows_behind (row ∷ []) (rows_of_cells reading partition (cells_from columns left count)))) (sym read)))

pub rows_ended : (reading : CellsReading) (partition : List ℕ) (columns : List (List Value)) (left count : ℕ) (rows : List Row) → left ≤ 0 → rows_of_cells reading partition (cells_from columns left count) ≡ Some (reverse rows) → Some (reverse rows) ≡ rows_of_cells reading partition (turned count columns)
rows_ended reading partition columns left count rows none all =
    let zero_left : left ≡ 0 = omega arith in
    sym all ∙ ap (λ (k : ℕ). rows_of_cells reading partition (cells_from columns k count)) zero_left ∙ whole reading partition columns count
