-- Sums of rows.
use Rattle.std.proofs.Common.{◌≡◌, ℕ, ℤ, pos, ◌+◌, ◌-◌, ◌<◌, ◌≤◌, true, List, take, length, get_or, ap, ◌∙◌, arith, sum_by}
use Rattle.std.specs.Ordering.{int_eq}
use Rattle.std.proofs.lemmas.List.Sums.{sum_by_more}
use Rattle.std.proofs.lemmas.Bool.Decides.{Decides-int_eq}
use Rattle.parquet_meta.specs.declared.row_group.RowGroup.{RowGroup}
use Rattle.base_cells.specs.Columns.{rows_of}

-- one group more
pub rows_more : (rows : ℤ) (groups : List RowGroup) (i left n : ℕ) (group : RowGroup) → rows ≡ pos (sum_by rows_of (take i groups) + left) → i < length groups → rows_of (get_or groups i group) ≡ n → n ≤ left
    → rows ≡ pos (sum_by rows_of (take (i + 1) groups) + (left - n))
rows_more rows groups i left n group e lt is le = e ∙ ap (λ (k : ℕ). pos k) (omega (arith, sum_by_more rows_of groups i group lt, is))

pub int_eq-true : (x y : ℤ) → int_eq x y ≡ true → x ≡ y
int_eq-true x y e = (Decides-int_eq x y).0 e
