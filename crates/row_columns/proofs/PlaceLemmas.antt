-- The place of the first bad cell.
use Rattle.std.proofs.Common.{◌≡◌, ℕ, zero, suc, ◌+◌, ◌<◌, ◌≤◌, Bool, true, false, ◌&&◌, if◌then◌else◌, List, [], ◌∷◌, length, get_or, drop, Some, None, slice_get, refl, sym, ap, ◌∙◌, arith}
use Rattle.hudi_base.specs.declared.column.Column.{Column}
use Rattle.hudi_base.specs.declared.value.Value.{Value}
use Rattle.column_cells.specs.Cells.{is_cell, is_short}
use Rattle.row_columns.specs.Base.{bad_cell}
use Rattle.row_columns.specs.Readers.{is_good}

no_cell : (k i : ℕ) (columns : List Column) → i < length columns → bad_cell k (drop i columns) [] ≡ Some k
unfolding bad_cell
no_cell k i [] below = absurd (omega arith)
no_cell k zero (c ∷ columns) below = refl
no_cell k (suc i) (c ∷ columns) below = no_cell k i columns (omega arith)

drop_none : (i : ℕ) → drop {A = Value} i [] ≡ []
drop_none zero = refl
drop_none (suc i) = refl

pub bad_here : (k i : ℕ) (columns : List Column) (cells : List Value) (column : Column) → i < length columns → column ≡ get_or columns i column → is_good column (slice_get cells i) ≡ false
    → bad_cell k (drop i columns) (drop i cells) ≡ Some k
unfolding bad_cell
bad_here k i [] cells column below is bad = absurd (omega arith)
bad_here k zero (c ∷ columns) [] column below is bad = refl
bad_here k zero (c ∷ columns) (v ∷ cells) column below is bad =
    let here : (is_cell c v && is_short v) ≡ false = ap (λ (d : Column). is_cell d v && is_short v) (sym is) ∙ bad in
    ap (λ (b : Bool). if b then bad_cell (suc k) columns cells else Some k) here
bad_here k (suc i) (c ∷ columns) [] column below is bad = no_cell k i columns (omega arith)
bad_here k (suc i) (c ∷ columns) (v ∷ cells) column below is bad = bad_here k i columns cells column (omega arith) is bad

pub bad_more : (k i : ℕ) (columns : List Column) (cells : List Value) (column : Column) → i < length columns → column ≡ get_or columns i column → is_good column (slice_get cells i) ≡ true
    → bad_cell (suc k) (drop (suc i) columns) (drop (suc i) cells) ≡ bad_cell k (drop i columns) (drop i cells)
unfolding bad_cell
bad_more k i [] cells column below is good = absurd (omega arith)
bad_more k i (c ∷ columns) [] column below is good = absurd cc
bad_more k zero (c ∷ columns) (v ∷ cells) column below is good =
    let here : (is_cell c v && is_short v) ≡ true = ap (λ (d : Column). is_cell d v && is_short v) (sym is) ∙ good in
    sym (ap (λ (b : Bool). if b then bad_cell (suc k) columns cells else Some k) here)
bad_more k (suc i) (c ∷ columns) (v ∷ cells) column below is good = bad_more k i columns cells column (omega arith) is good

columns_end : (i : ℕ) (columns : List Column) → length columns ≤ i → drop i columns ≡ []
columns_end zero [] over = refl
columns_end zero (c ∷ columns) over = absurd (omega arith)
columns_end (suc i) [] over = refl
columns_end (suc i) (c ∷ columns) over = columns_end i columns (omega arith)

left_over : (k i : ℕ) (cells : List Value) → i < length cells → bad_cell k [] (drop i cells) ≡ Some k
unfolding bad_cell
left_over k i [] below = absurd (omega arith)
left_over k zero (v ∷ cells) below = refl
left_over k (suc i) (v ∷ cells) below = left_over k i cells (omega arith)

none_left : (k i : ℕ) (cells : List Value) → length cells ≤ i → bad_cell k [] (drop i cells) ≡ None
unfolding bad_cell
none_left k zero [] over = refl
none_left k zero (v ∷ cells) over = absurd (omega arith)
none_left k (suc i) [] over = refl
none_left k (suc i) (v ∷ cells) over = none_left k i cells (omega arith)

pub bad_over : (k i : ℕ) (columns : List Column) (cells : List Value) → length columns ≤ i → i < length cells → bad_cell k (drop i columns) (drop i cells) ≡ Some k
bad_over k i columns cells over below = ap (λ (cs : List Column). bad_cell k cs (drop i cells)) (columns_end i columns over) ∙ left_over k i cells below

pub bad_none : (k i : ℕ) (columns : List Column) (cells : List Value) → length columns ≤ i → length cells ≤ i → bad_cell k (drop i columns) (drop i cells) ≡ None
bad_none k i columns cells over short = ap (λ (cs : List Column). bad_cell k cs (drop i cells)) (columns_end i columns over) ∙ none_left k i cells short

pub bad_next : (i : ℕ) (columns : List Column) (cells : List Value) (column : Column) → i < length columns → column ≡ get_or columns i column → is_good column (slice_get cells i) ≡ true
    → bad_cell (i + 1) (drop (i + 1) columns) (drop (i + 1) cells) ≡ bad_cell i (drop i columns) (drop i cells)
bad_next i columns cells column below is good =
    let more : i + 1 ≡ suc i = omega arith in
    ap (λ (n : ℕ). bad_cell n (drop n columns) (drop n cells)) more ∙ bad_more i i columns cells column below is good
