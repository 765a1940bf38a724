-- What is read of contents are rows of the table and of their place, each by itself.
use Rattle.std.proofs.Common.{◌≡◌, ℕ, List, [], ◌∷◌, All, Result, Ok, Err, IfOk}
use Rattle.std.proofs.lemmas.List.Elements.{All-nil, All-cons, All-head, All-tail}
use Rattle.payload_merge.specs.declared.row.Row.{Row}
use Rattle.payload_merge.specs.Contents.{AreRowsOf, DataPlace}
use Rattle.row_values.specs.declared.row_layout.RowLayout.{RowLayout}
use Rattle.row_values.specs.RowCells.{IsOwnRow}
use Rattle.row_records.specs.Records.{rows_in}
use Rattle.row_records.proofs.PlaceLemmas.{IsOfPlace, rows_told}

module _ (P Q : Row → Type 0) (weaker : (row : Row) → P row → Q row) where
  each : (rows : List Row) → All P rows → All Q rows
  each [] all = All-nil Q
  each (row ∷ rows) all = All-cons Q row rows (weaker row (All-head P row rows all)) (each rows (All-tail P row rows all))

  if_read : (r : Result (List Row) ℕ) → IfOk r (All P) → IfOk r (All Q)
  if_read (Ok rows) all = each rows all
  if_read (Err place) all = tt

pub own_rows : (layout : RowLayout) (place : DataPlace) (content : List ℕ) → IfOk (rows_in layout place content) (All (IsOwnRow layout))
own_rows layout place content = if_read (IsOfPlace layout place) (IsOwnRow layout) (λ row is. is.0) (rows_in layout place content) (rows_told layout place content)

pub rows_of_place : (layout : RowLayout) (place : DataPlace) (content : List ℕ) → IfOk (rows_in layout place content) (AreRowsOf place.instant place.partition)
rows_of_place layout place content =
    if_read (IsOfPlace layout place) (λ row. (row.commit ≡ place.instant) × (row.partition ≡ place.partition)) (λ row is. (is.1, is.2)) (rows_in layout place content) (rows_told layout place content)
