-- The text of rows, as it is written one after another.
use Rattle.std.proofs.Common.{◌≡◌, ℕ, ◌+◌, ◌<◌, ◌≤◌, Bool, true, false, ltb, length, take, drop, get_or, List, [], ◌∷◌, ◌++◌, map, All, refl, sym, ap, ◌∙◌, subst, append_assoc, Result, arith}
use Rattle.std.specs.Prelude.{IsErr, Option, unwrap_or}
use Rattle.std.specs.Result.{result_ok}
use Rattle.byte_fields.specs.declared.field_error.FieldError.{FieldError}
use Rattle.std.proofs.lemmas.Bool.{lt-ltb}
use Rattle.std.proofs.lemmas.List.{drop_more, drop_all}
use Rattle.hudi_base.specs.declared.value.Value.{Value}
use Rattle.payload_merge.specs.declared.row.Row.{Row}
use Rattle.serde_json.specs.View.{items_of}
use Rattle.serde_json.specs.Written.{comma_if, compact_text, items_text}
use Rattle.row_values.specs.RowCells.{AreCellsOf, IsOwnRow}
use Rattle.row_values.specs.declared.row_layout.RowLayout.{RowLayout}
use Rattle.row_records.specs.Records.{cells_at}
use Rattle.row_records.proofs.CellLemmas.{cells_again}
use Rattle.row_codec.specs.JsonOutput.{row_text}
use Rattle.table_core.specs.declared.job_reply.JobReply.{JobReply}
use Rattle.table_core.specs.declared.job_reply.JobReply.TheVariants.{Rows}
use Rattle.script_texts.specs.Putting.{Puts}
use Rattle.script_texts.specs.Texts.{HasOwnRows, OwnRowsHaveTheirCells, cells_of, row_value, rows_text}
use Rattle.script_texts.proofs.PutParts.{begins_longer, puts_failed, puts_then}

-- ---- the cells of a row

-- the cells of a row of the table are found in its body
pub cells_found : (layout : RowLayout) (row : Row) (cells : List Value) → AreCellsOf layout row cells → cells_of layout row ≡ cells
cells_found layout row cells are =
    ap (λ (bytes : List ℕ). unwrap_or (result_ok (cells_at layout.fields bytes)) []) are.body
    ∙ ap (λ (read : Result (List Value) FieldError). unwrap_or (result_ok read) []) (cells_again layout.fields cells are.fit)

pub their_cells : OwnRowsHaveTheirCells
their_cells layout row (cells, are) = subst (AreCellsOf layout row) (sym (cells_found layout row cells are)) are

pub row_written : (layout : RowLayout) (row : Row) (text : List ℕ) → IsOwnRow layout row → ((cells : List Value) → AreCellsOf layout row cells → text ≡ row_text layout row cells)
    → text ≡ compact_text (row_value layout row)
unfolding row_text
row_written layout row text own told = told (cells_of layout row) (their_cells layout row own)

-- the rows of an answer, which has own rows
pub own_among : (layout : RowLayout) (reply : JobReply) (time : Option ℕ) (rows listed : List Row) → reply ≡ Rows time rows → listed ≡ rows → HasOwnRows layout reply → All (IsOwnRow layout) listed
own_among layout reply time rows listed is same own =
    subst (λ (found : List Row). All (IsOwnRow layout) found) (sym same) (subst (HasOwnRows layout) is own)

-- ---- rows one after another

-- the text of the rows that are left, with the closing bracket
unfoldable pub rest_text : RowLayout → Bool → List Row → List ℕ
rest_text layout later rows = items_text later (items_of (map (row_value layout) rows))

pub rows_opened : (layout : RowLayout) (rows : List Row) → rows_text layout rows ≡ 91 ∷ rest_text layout false rows
unfolding rest_text rows_text
rows_opened layout rows = refl

rest_cons : (layout : RowLayout) (later : Bool) (row : Row) (rows : List Row)
    → rest_text layout later (row ∷ rows) ≡ comma_if later ++ (compact_text (row_value layout row) ++ rest_text layout true rows)
unfolding rest_text
rest_cons layout later row rows = refl

rest_nil : (layout : RowLayout) (later : Bool) → rest_text layout later [] ≡ 93 ∷ []
unfolding rest_text
rest_nil layout later = refl

-- one row more
pub rest_more : (layout : RowLayout) (later : Bool) (rows : List Row) (i : ℕ) (row : Row) → i < length rows → row ≡ get_or rows i row
    → rest_text layout later (drop i rows) ≡ (comma_if later ++ compact_text (row_value layout row)) ++ rest_text layout true (drop (i + 1) rows)
rest_more layout later rows i row within is =
    ap (λ (left : List Row). rest_text layout later left) (drop_more rows i row within)
    ∙ ap (λ (one : Row). rest_text layout later (one ∷ drop (i + 1) rows)) (sym is)
    ∙ rest_cons layout later row (drop (i + 1) rows)
    ∙ sym (append_assoc (comma_if later) (compact_text (row_value layout row)) (rest_text layout true (drop (i + 1) rows)))

-- no row is left
pub rest_end : (layout : RowLayout) (later : Bool) (rows : List Row) (i : ℕ) → length rows ≤ i → rest_text layout later (drop i rows) ≡ 93 ∷ []
rest_end layout later rows i past = ap (λ (left : List Row). rest_text layout later left) (drop_all i rows past) ∙ rest_nil layout later

-- What was written so far, behind what stood there: the array up to a row, which the rest makes whole.
pub record SoFar (layout : RowLayout) (rows : List Row) (i : ℕ) (old out : List ℕ) : Type 0 where
  pub written : List ℕ
  pub added : out ≡ old ++ written
  pub left : written ++ rest_text layout (ltb 0 i) (drop i rows) ≡ rows_text layout rows

pub begun : (layout : RowLayout) (rows : List Row) (old out : List ℕ) → out ≡ old ++ 91 ∷ [] → SoFar layout rows 0 old out
begun layout rows old out is = record {
  written = 91 ∷ [];
  added = is;
  left = sym (rows_opened layout rows);
}

pub row_more : (layout : RowLayout) (rows : List Row) (i : ℕ) (row : Row) (old out more : List ℕ) → SoFar layout rows i old out → i < length rows → row ≡ get_or rows i row
    → more ≡ out ++ (comma_if (ltb 0 i) ++ compact_text (row_value layout row)) → SoFar layout rows (i + 1) old more
row_more layout rows i row old out more so_far within row_is is =
    let text = comma_if (ltb 0 i) ++ compact_text (row_value layout row) in
    let after : (later : Bool) → later ≡ true → rest_text layout later (drop (i + 1) rows) ≡ rest_text layout true (drop (i + 1) rows) =
    λ later e. ap (λ (b : Bool). rest_text layout b (drop (i + 1) rows)) e in
    let positive : 0 < i + 1 = omega arith in record {
      written = so_far.written ++ text;
      added = is ∙ ap (λ (front : List ℕ). front ++ text) so_far.added ∙ append_assoc old so_far.written text;
      left =
          append_assoc so_far.written text (rest_text layout (ltb 0 (i + 1)) (drop (i + 1) rows))
          ∙ ap (λ (rest : List ℕ). so_far.written ++ (text ++ rest)) (after (ltb 0 (i + 1)) (lt-ltb 0 (i + 1) positive))
          ∙ ap (λ (rest : List ℕ). so_far.written ++ rest) (sym (rest_more layout (ltb 0 i) rows i row within row_is))
          ∙ so_far.left;
    }

-- a row that couldn't be written whole
pub row_failed : {E : Type 0} (r : Result (Unit {0}) E) (layout : RowLayout) (rows : List Row) (i : ℕ) (old out new text : List ℕ) → SoFar layout rows i old out → IsErr r → take (length out) new ≡ out → Puts r old new text
row_failed r layout rows i old out new text so_far failed is =
    puts_failed r old new text failed (begins_longer old so_far.written new (subst (λ (front : List ℕ). take (length front) new ≡ front) so_far.added is))

pub rows_closed : {E : Type 0} (r : Result (Unit {0}) E) (layout : RowLayout) (rows : List Row) (i : ℕ) (old out new : List ℕ) → SoFar layout rows i old out → length rows ≤ i → Puts r out new (93 ∷ [])
    → Puts r old new (rows_text layout rows)
rows_closed r layout rows i old out new so_far past then =
    let whole : so_far.written ++ 93 ∷ [] ≡ rows_text layout rows =
    ap (λ (rest : List ℕ). so_far.written ++ rest) (sym (rest_end layout (ltb 0 i) rows i past)) ∙ so_far.left in
    subst (Puts r old new) whole (puts_then r old out new so_far.written (93 ∷ []) so_far.added then)
