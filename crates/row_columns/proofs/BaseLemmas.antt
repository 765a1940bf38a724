-- The cells of base files and their row, in both directions.
use Rattle.std.proofs.Common.{◌≡◌, inl, inr, ℕ, zero, suc, ◌<◌, ◌≤◌, ◌^◌, nat_le, ℤ, pos, negsuc, Bool, true, false, ◌&&◌, if◌then◌else◌, List, [], ◌∷◌, ◌++◌, length, drop, map, All, Option, Some, None, option_and_then, slice_get, codes, Result, Ok, Err, IfOk, IsTrue, refl, sym, ap, subst, ◌∙◌, arith}
use Rattle.std.specs.List.{list_all}
use Rattle.std.specs.Prelude.{FitsSigned}
use Rattle.std.specs.Int.{w32, w64}
use Rattle.std.proofs.lemmas.Bool.{and_parts, ltb-true, lt-ltb, leb-true, le-leb}
use Rattle.std.proofs.lemmas.List.Elements.{All-nil, All-cons, All-head, All-tail}
use Rattle.std.proofs.lemmas.Str.{IsUtf8-from_is_utf8, is_utf8-from_IsUtf8}
use Rattle.hudi_base.specs.InstantTime.{IsTime, civil_at, time_of, time_text}
use Rattle.hudi_base.proofs.Times.{goes_wrong-time_text, length-time_text, time_text-civil_at, time_text_injective}
use Rattle.hudi_base.specs.Calendar.{civil_ms}
use Rattle.hudi_base.specs.declared.column.Column.{Column}
use Rattle.hudi_base.specs.declared.value.Value.{Value, Null, Text}
use Rattle.hudi_base.specs.declared.value.Value.TheVariants as value
use Rattle.column_cells.specs.Cells.{has_known_type, is_cell, is_short}
use Rattle.column_cells.specs.Cells as column
use Rattle.payload_merge.specs.declared.row.Row.{Row}
use Rattle.row_values.specs.declared.flat_field.CellType.{CellType}
use Rattle.row_values.specs.declared.flat_field.CellType.TheVariants as types
use Rattle.row_values.specs.declared.flat_field.FlatField.{FlatField}
use Rattle.row_values.specs.declared.row_layout.RowLayout.{RowLayout}
use Rattle.row_values.specs.Fields.{is_text_cell}
use Rattle.row_values.specs.Cells.{AreCells, IsCellOf, IsShortCell}
use Rattle.row_values.specs.RowCells.{IsOwnRow, seqno_text, text_at}
use Rattle.row_records.specs.Records.{meta_cells, record_fields, row_in, text_field, with_agreed}
use Rattle.row_records.proofs.HeadLemmas.{seqno_short}
use Rattle.row_records.proofs.RecordLemmas.{TellRow, row_again, row_told, short_text}
use Rattle.row_columns.specs.Base.{bad_cell, base_row, column_of, columns_of, has_limit, is_held, physical_of, with_good}
use Rattle.row_columns.specs.Readers.{AreGood, HasBaseCells, plain_of, timed_row}

-- ---- good cells

picked : (b : Bool) (o : Option ℕ) (place : ℕ) → (if b then o else Some place) ≡ None → (b ≡ true) × (o ≡ None)
picked true o place e = (refl, e)
picked false o place e = absurd cc

pub good_cells : (place : ℕ) (columns : List Column) (cells : List Value) → bad_cell place columns cells ≡ None → AreGood columns cells
unfolding bad_cell
good_cells place [] [] e = tt
good_cells place [] (c ∷ cells) e = absurd cc
good_cells place (column ∷ columns) [] e = absurd cc
good_cells place (column ∷ columns) (c ∷ cells) e =
    let p = picked (is_cell column c && is_short c) (bad_cell (suc place) columns cells) place e in
    (and_parts (is_cell column c) (is_short c) p.0, good_cells (suc place) columns cells p.1)

pub none_bad : (place : ℕ) (columns : List Column) (cells : List Value) → AreGood columns cells → bad_cell place columns cells ≡ None
unfolding bad_cell
none_bad place [] [] good = refl
none_bad place [] (c ∷ cells) good = absurd good
none_bad place (column ∷ columns) [] good = absurd good
none_bad place (column ∷ columns) (c ∷ cells) good = rw (good.0.0, good.0.1) (none_bad (suc place) columns cells good.1)

-- ---- cells of a field's column

time_again : (t : ℕ) → IsTime t → time_of (time_text t) ≡ Some t
unfolding time_of
time_again t drawn =
    let right = goes_wrong-time_text t drawn in
    rw right (ap (λ (n : ℕ). Some n) (time_text_injective (civil_ms (civil_at (time_text t))) t (time_text-civil_at (time_text t) right).0 drawn (time_text-civil_at (time_text t) right).1))

fits32 : (z : ℤ) → has_limit (2 ^ 31) z ≡ true → FitsSigned w32 z
fits32 (pos n) e = record { sfits = ltb-true n (2 ^ 31) e }
fits32 (negsuc n) e = record { sfits = ltb-true n (2 ^ 31) e }

fits64 : (z : ℤ) → has_limit (2 ^ 63) z ≡ true → FitsSigned w64 z
fits64 (pos n) e = record { sfits = ltb-true n (2 ^ 63) e }
fits64 (negsuc n) e = record { sfits = ltb-true n (2 ^ 63) e }

limit32 : (z : ℤ) → FitsSigned w32 z → has_limit (2 ^ 31) z ≡ true
limit32 (pos n) fits = lt-ltb n (2 ^ 31) fits.sfits
limit32 (negsuc n) fits = lt-ltb n (2 ^ 31) fits.sfits

limit64 : (z : ℤ) → FitsSigned w64 z → has_limit (2 ^ 63) z ≡ true
limit64 (pos n) fits = lt-ltb n (2 ^ 63) fits.sfits
limit64 (negsuc n) fits = lt-ltb n (2 ^ 63) fits.sfits

abbrev typed_column : List ℕ → Bool → CellType → Column
typed_column name nullable type = record { name = name; physical = physical_of type; optional = nullable; utf8 = is_text_cell type }

cell_told : (name : List ℕ) (n : Bool) (t : CellType) (c : Value) → is_cell (typed_column name n t) c ≡ true → is_short c ≡ true → is_held c ≡ true → IsCellOf n t c
cell_told name n t value.Null told short held = inl (refl, told)
cell_told name n types.Boolean (value.Boolean b) told short held = inr (b, refl)
cell_told name n types.Int (value.Boolean b) told short held = absurd cc
cell_told name n types.Long (value.Boolean b) told short held = absurd cc
cell_told name n types.Bytes (value.Boolean b) told short held = absurd cc
cell_told name n types.Text (value.Boolean b) told short held = absurd cc
cell_told name n types.Boolean (value.Int z) told short held = absurd cc
cell_told name n types.Int (value.Int z) told short held = inr (z, refl, fits32 z held)
cell_told name n types.Long (value.Int z) told short held = absurd cc
cell_told name n types.Bytes (value.Int z) told short held = absurd cc
cell_told name n types.Text (value.Int z) told short held = absurd cc
cell_told name n types.Boolean (value.Long z) told short held = absurd cc
cell_told name n types.Int (value.Long z) told short held = absurd cc
cell_told name n types.Long (value.Long z) told short held = inr (z, refl, fits64 z held)
cell_told name n types.Bytes (value.Long z) told short held = absurd cc
cell_told name n types.Text (value.Long z) told short held = absurd cc
cell_told name n types.Boolean (value.Bytes content) told short held = absurd cc
cell_told name n types.Int (value.Bytes content) told short held = absurd cc
cell_told name n types.Long (value.Bytes content) told short held = absurd cc
cell_told name n types.Bytes (value.Bytes content) told short held = inr (content, refl, long)
  where
    long : length content < 2 ^ 63
    long = let le = leb-true (length content) 65536 short in omega (arith, le)
cell_told name n types.Text (value.Bytes content) told short held = absurd cc
cell_told name n types.Boolean (value.Text text) told short held = absurd cc
cell_told name n types.Int (value.Text text) told short held = absurd cc
cell_told name n types.Long (value.Text text) told short held = absurd cc
cell_told name n types.Bytes (value.Text text) told short held = absurd cc
cell_told name n types.Text (value.Text text) told short held = inr (text, refl, long, IsUtf8-from_is_utf8 text held)
  where
    long : length text < 2 ^ 63
    long = let le = leb-true (length text) 65536 short in omega (arith, le)
cell_told name n t _ told short held = absurd cc

-- the other way
null_good : (name : List ℕ) (n : Bool) (t : CellType) (c : Value) → c ≡ Null → n ≡ true → is_cell (typed_column name n t) c ≡ true
null_good name n t c e may = subst (λ (v : Value). is_cell (typed_column name n t) v ≡ true) (sym e) may

pub cell_good : (name : List ℕ) (n : Bool) (t : CellType) (c : Value) → IsCellOf n t c → is_cell (typed_column name n t) c ≡ true
cell_good name n t c (inl (e, may)) = null_good name n t c e may
cell_good name n types.Boolean c (inr (b, e)) = subst (λ (v : Value). is_cell (typed_column name n types.Boolean) v ≡ true) (sym e) refl
cell_good name n types.Int c (inr (z, e, f)) = subst (λ (v : Value). is_cell (typed_column name n types.Int) v ≡ true) (sym e) refl
cell_good name n types.Long c (inr (z, e, f)) = subst (λ (v : Value). is_cell (typed_column name n types.Long) v ≡ true) (sym e) refl
cell_good name n types.Bytes c (inr (content, e, f)) = subst (λ (v : Value). is_cell (typed_column name n types.Bytes) v ≡ true) (sym e) refl
cell_good name n types.Text c (inr (text, e, f, u)) = subst (λ (v : Value). is_cell (typed_column name n types.Text) v ≡ true) (sym e) refl

pub cell_held : (n : Bool) (t : CellType) (c : Value) → IsCellOf n t c → is_held c ≡ true
cell_held n t c (inl (e, may)) = subst (λ (v : Value). is_held v ≡ true) (sym e) refl
cell_held n types.Boolean c (inr (b, e)) = subst (λ (v : Value). is_held v ≡ true) (sym e) refl
cell_held n types.Int c (inr (z, e, f)) = subst (λ (v : Value). is_held v ≡ true) (sym e) (limit32 z f)
cell_held n types.Long c (inr (z, e, f)) = subst (λ (v : Value). is_held v ≡ true) (sym e) (limit64 z f)
cell_held n types.Bytes c (inr (content, e, f)) = subst (λ (v : Value). is_held v ≡ true) (sym e) refl
cell_held n types.Text c (inr (text, e, f, u)) = subst (λ (v : Value). is_held v ≡ true) (sym e) (is_utf8-from_IsUtf8 text u)

pub short_is : (c : Value) → IsShortCell c → is_short c ≡ true
short_is (value.Bytes content) short = le-leb (length content) 65536 short
short_is (value.Text text) short = le-leb (length text) 65536 short
short_is _ short = refl

short_cell : (c : Value) → is_short c ≡ true → IsShortCell c
short_cell (value.Bytes content) e = leb-true (length content) 65536 e
short_cell (value.Text text) e = leb-true (length text) 65536 e
short_cell _ e = omega arith

-- ---- all cells

-- good cells that are held fit their fields
pub cells_told : (fields : List FlatField) (cells : List Value) → AreGood (map column_of fields) cells → list_all is_held cells ≡ true → AreCells fields cells
cells_told [] [] good held = tt
cells_told [] (c ∷ cells) good held = absurd good
cells_told (f ∷ fields) [] good held = absurd good
cells_told (f ∷ fields) (c ∷ cells) good held =
    let parts = and_parts (is_held c) (list_all is_held cells) held in
    (cell_told f.name f.nullable f.cell c good.0.0 good.0.1 parts.0, cells_told fields cells good.1 parts.1)

pub cells_good : (fields : List FlatField) (cells : List Value) → AreCells fields cells → All IsShortCell cells → AreGood (map column_of fields) cells
cells_good [] [] fit short = tt
cells_good [] (c ∷ cells) fit short = absurd fit
cells_good (f ∷ fields) [] fit short = absurd fit
cells_good (f ∷ fields) (c ∷ cells) fit short =
    ((cell_good f.name f.nullable f.cell c fit.0, short_is c (All-head IsShortCell c cells short)), cells_good fields cells fit.1 (All-tail IsShortCell c cells short))

pub cells_held : (fields : List FlatField) (cells : List Value) → AreCells fields cells → list_all is_held cells ≡ true
cells_held [] [] fit = refl
cells_held [] (c ∷ cells) fit = absurd fit
cells_held (f ∷ fields) [] fit = absurd fit
cells_held (f ∷ fields) (c ∷ cells) fit = rw (cell_held f.nullable f.cell c fit.0) (cells_held fields cells fit.1)

pub short_cells : (columns : List Column) (cells : List Value) → AreGood columns cells → All IsShortCell cells
short_cells [] [] good = All-nil IsShortCell
short_cells [] (c ∷ cells) good = absurd good
short_cells (column ∷ columns) [] good = absurd good
short_cells (column ∷ columns) (c ∷ cells) good = All-cons IsShortCell c cells (short_cell c good.0.1) (short_cells columns cells good.1)

pub of_columns : (columns : List Column) (cells : List Value) → AreGood columns cells → column.AreCellsOf columns cells
of_columns [] [] good = tt
of_columns [] (c ∷ cells) good = absurd good
of_columns (column ∷ columns) [] good = absurd good
of_columns (column ∷ columns) (c ∷ cells) good = (good.0.0, good.0.1, of_columns columns cells good.1)

pub held_drop : (n : ℕ) (cells : List Value) → list_all is_held cells ≡ true → list_all is_held (drop n cells) ≡ true
held_drop zero cells held = held
held_drop (suc n) [] held = refl
held_drop (suc n) (c ∷ cells) held = held_drop n cells (and_parts (is_held c) (list_all is_held cells) held).1

-- a good cell is plain
plain_cell : (column : Column) (c : Value) → is_cell column c ≡ true → plain_of c ≡ c
plain_cell column value.Null e = refl
plain_cell column (value.Boolean b) e = refl
plain_cell column (value.Int z) e = refl
plain_cell column (value.Long z) e = refl
plain_cell column (value.Bytes content) e = refl
plain_cell column (value.Text text) e = refl
plain_cell column _ e = absurd cc

pub plain_cells : (columns : List Column) (cells : List Value) → AreGood columns cells → map plain_of cells ≡ cells
plain_cells [] [] good = refl
plain_cells [] (c ∷ cells) good = absurd good
plain_cells (column ∷ columns) [] good = absurd good
plain_cells (column ∷ columns) (c ∷ cells) good =
    ap (λ (v : Value). v ∷ map plain_of cells) (plain_cell column c good.0.0) ∙ ap (λ (vs : List Value). c ∷ vs) (plain_cells columns cells good.1)

-- ---- the row of a base file

-- a cell of a column of texts
record IsText (c : Value) : Type 0 where
  text : List ℕ
  is : c ≡ Text text

text_told : (name : List ℕ) (c : Value) → is_cell (column_of (text_field name)) c ≡ true → IsText c
text_told name value.Null e = absurd cc
text_told name (value.Boolean b) e = absurd cc
text_told name (value.Int z) e = absurd cc
text_told name (value.Long z) e = absurd cc
text_told name (value.Bytes content) e = absurd cc
text_told name (value.Text text) e = record { text = text; is = refl }
text_told name _ e = absurd cc

-- five texts stand before own cells
record HasTexts (fields : List FlatField) (cells : List Value) : Type 0 where
  commit : List ℕ
  seqno : List ℕ
  key : List ℕ
  path : List ℕ
  file : List ℕ
  own : List Value
  whole : cells ≡ Text commit ∷ Text seqno ∷ Text key ∷ Text path ∷ Text file ∷ own
  good : AreGood (map column_of fields) own

texts_told : (fields : List FlatField) (cells : List Value) → AreGood (map column_of (record_fields fields)) cells → HasTexts fields cells
unfolding record_fields
texts_told fields [] good = absurd good
texts_told fields (a ∷ []) good = absurd good.1
texts_told fields (a ∷ b ∷ []) good = absurd good.1.1
texts_told fields (a ∷ b ∷ c ∷ []) good = absurd good.1.1.1
texts_told fields (a ∷ b ∷ c ∷ d ∷ []) good = absurd good.1.1.1.1
texts_told fields (a ∷ b ∷ c ∷ d ∷ e ∷ own) good =
    let ta = text_told (codes "_hoodie_commit_time") a good.0.0 in
    let tb = text_told (codes "_hoodie_commit_seqno") b good.1.0.0 in
    let tc = text_told (codes "_hoodie_record_key") c good.1.1.0.0 in
    let td = text_told (codes "_hoodie_partition_path") d good.1.1.1.0.0 in
    let te = text_told (codes "_hoodie_file_name") e good.1.1.1.1.0.0 in
    record {
      commit = ta.text;
      seqno = tb.text;
      key = tc.text;
      path = td.text;
      file = te.text;
      own = own;
      whole =
          ap (λ (v : Value). v ∷ b ∷ c ∷ d ∷ e ∷ own) ta.is
          ∙ ap (λ (v : Value). Text ta.text ∷ v ∷ c ∷ d ∷ e ∷ own) tb.is
          ∙ ap (λ (v : Value). Text ta.text ∷ Text tb.text ∷ v ∷ d ∷ e ∷ own) tc.is
          ∙ ap (λ (v : Value). Text ta.text ∷ Text tb.text ∷ Text tc.text ∷ v ∷ e ∷ own) td.is
          ∙ ap (λ (v : Value). Text ta.text ∷ Text tb.text ∷ Text tc.text ∷ Text td.text ∷ v ∷ own) te.is;
      good = good.1.1.1.1.1;
    }

with_good-Ok : (bad : Option ℕ) (next : Result Row ℕ) (row : Row) → with_good bad next ≡ Ok row → (bad ≡ None) × (next ≡ Ok row)
with_good-Ok None next row e = (refl, e)
with_good-Ok (Some place) next row e = absurd cc

chosen : (b : Bool) (next : Result Row ℕ) (row : Row) → (if b then next else Err 0) ≡ Ok row → (b ≡ true) × (next ≡ Ok row)
chosen true next row e = (refl, e)
chosen false next row e = absurd cc

agreed : (o : Option ℕ) (next : ℕ → Result Row ℕ) (row : Row) → with_agreed 0 o next ≡ Ok row → (x : ℕ) × (o ≡ Some x) × (next x ≡ Ok row)
agreed (Some x) next row e = (x, refl, e)
agreed None next row e = absurd cc

own_row_told : (layout : RowLayout) (instant : ℕ) (partition : List ℕ) (cells : List Value) (row : Row) → AreGood (columns_of layout) cells → list_all is_held (drop 5 cells) ≡ true
    → row_in layout instant partition cells ≡ Ok row → IsOwnRow layout row × (row.partition ≡ partition)
own_row_told layout instant partition cells row good held e =
    let t = texts_told layout.fields cells good in
    let own-held : list_all is_held t.own ≡ true = subst (λ (cs : List Value). list_all is_held (drop 5 cs) ≡ true) t.whole held in
    let told = row_told layout instant partition t.commit t.seqno t.key t.path t.file t.own row (subst (λ (cs : List Value). row_in layout instant partition cs ≡ Ok row) t.whole e) in (
      (
        t.own,
        record {
          fit = cells_told layout.fields t.own t.good own-held;
          short = short_cells (map column_of layout.fields) t.own t.good;
          body = told.body;
          key = told.own_key;
          partition = told.own_partition;
          rank = told.rank;
        },
      ),
      told.partition_is,
    )

-- what is read of a base file are rows of the table and of the partition
pub base_row_told : (layout : RowLayout) (partition : List ℕ) (cells : List Value) → IfOk (base_row layout partition cells) (λ row. IsOwnRow layout row × (row.partition ≡ partition))
unfolding base_row
base_row_told layout partition cells = told (base_row layout partition cells) refl
  where
    told : (r : Result Row ℕ) → base_row layout partition cells ≡ r → IfOk r (λ row. IsOwnRow layout row × (row.partition ≡ partition))
    told (Ok row) e =
        let g = with_good-Ok (bad_cell 0 (columns_of layout) cells) (if list_all is_held (drop 5 cells) then timed_row layout partition cells else Err 0) row e in
        let h = chosen (list_all is_held (drop 5 cells)) (timed_row layout partition cells) row g.1 in
        let t = agreed (option_and_then time_of (text_at 0 cells)) (λ instant. row_in layout instant partition cells) row h.1 in
        own_row_told layout t.0 partition cells row (good_cells 0 (columns_of layout) cells g.0) h.0 t.2
    told (Err place) e = tt

-- good cells that are held make the row that they tell
pub base_is_timed : (layout : RowLayout) (partition : List ℕ) (cells : List Value) → bad_cell 0 (columns_of layout) cells ≡ None → list_all is_held cells ≡ true → base_row layout partition cells ≡ timed_row layout partition cells
unfolding base_row
base_is_timed layout partition cells none held =
    ap (λ (bad : Option ℕ). with_good bad (if list_all is_held (drop 5 cells) then timed_row layout partition cells else Err 0)) none
    ∙ ap (λ (b : Bool). let r : Result Row ℕ = if b then timed_row layout partition cells else Err 0 in r) (held_drop 5 cells held)

pub base_is_bad : (layout : RowLayout) (partition : List ℕ) (cells : List Value) (place : ℕ) → bad_cell 0 (columns_of layout) cells ≡ Some place → base_row layout partition cells ≡ Err place
unfolding base_row
base_is_bad layout partition cells place bad =
    ap (λ (o : Option ℕ). with_good o (if list_all is_held (drop 5 cells) then timed_row layout partition cells else Err 0)) bad

-- ---- any file is read

file_tested : (place : ℕ) (columns : List Column) (before : List Value) (file other : List ℕ) (after : List Value) → length file ≤ 65536 → length other ≤ 65536
    → bad_cell place columns (before ++ Text file ∷ after) ≡ bad_cell place columns (before ++ Text other ∷ after)
unfolding bad_cell
file_tested place [] [] file other after one two = refl
file_tested place [] (b ∷ before) file other after one two = refl
file_tested place (column ∷ columns) [] file other after one two =
    let first : nat_le (length file) 65536 ≡ true = le-leb (length file) 65536 one in
    let second : nat_le (length other) 65536 ≡ true = le-leb (length other) 65536 two in
    rw (first, second) refl
file_tested place (column ∷ columns) (b ∷ before) file other after one two =
    ap (λ (o : Option ℕ). if is_cell column b && is_short b then o else Some place) (file_tested (suc place) columns before file other after one two)

pub any_file : (layout : RowLayout) (partition file other : List ℕ) (before after : List Value) → length before ≡ 4 → length file ≤ 65536 → length other ≤ 65536
    → base_row layout partition (before ++ Text file ∷ after) ≡ base_row layout partition (before ++ Text other ∷ after)
unfolding base_row row_in
any_file layout partition file other [] after long one two = absurd (omega (arith, long))
any_file layout partition file other (a ∷ []) after long one two = absurd (omega (arith, long))
any_file layout partition file other (a ∷ b ∷ []) after long one two = absurd (omega (arith, long))
any_file layout partition file other (a ∷ b ∷ c ∷ []) after long one two = absurd (omega (arith, long))
any_file layout partition file other (a ∷ b ∷ c ∷ d ∷ []) after long one two =
    ap (λ (bad : Option ℕ). with_good bad (if list_all is_held after then timed_row layout partition (a ∷ b ∷ c ∷ d ∷ Text other ∷ after) else Err 0))
    (file_tested 0 (columns_of layout) (a ∷ b ∷ c ∷ d ∷ []) file other after one two)
any_file layout partition file other (a ∷ b ∷ c ∷ d ∷ e ∷ before) after long one two = absurd (omega (arith, long))

-- ---- the cells of a row are read back

module _ (layout : RowLayout) (row : Row) (file_id : List ℕ) (cells : List Value) (has : HasBaseCells layout row file_id cells) (short_id : length file_id ≤ 65536) where
  whole_good : AreGood (columns_of layout) (meta_cells file_id row ++ has.own)
  unfolding record_fields
  whole_good =
      let key-short = short_text layout.key has.own row.key has.own_are.short has.own_are.key in
      let path-short = short_text layout.partition has.own row.partition has.own_are.short has.own_are.partition in
      let time-short : length (time_text row.commit) ≤ 65536 = omega (arith, length-time_text row.commit) in (
        (refl, le-leb (length (time_text row.commit)) 65536 time-short),
        (
          (refl, le-leb (length (seqno_text row.commit row.seq)) 65536 (seqno_short row.commit row.seq has.known.fits)),
          (
            (refl, le-leb (length row.key) 65536 key-short),
            ((refl, le-leb (length row.partition) 65536 path-short), ((refl, le-leb (length file_id) 65536 short_id), cells_good layout.fields has.own has.own_are.fit has.own_are.short)),
          ),
        ),
      )

  pub base_good : AreGood (columns_of layout) cells
  base_good = subst (AreGood (columns_of layout)) (sym has.cells_are) whole_good

  told : TellRow layout row.commit row.partition (seqno_text row.commit row.seq) row.key row.partition has.own row
  told = record {
    seqno_is = refl;
    key_is = refl;
    path_is = refl;
    commit = refl;
    partition_is = refl;
    seq = has.known.fits;
    body = has.own_are.body;
    own_key = has.own_are.key;
    own_partition = has.own_are.partition;
    rank = has.own_are.rank;
  }

  pub base_again : base_row layout row.partition cells ≡ Ok row
  unfolding base_row
  base_again =
      let whole = meta_cells file_id row ++ has.own in
      let timed : time_of (time_text row.commit) ≡ Some row.commit = time_again row.commit has.known.drawn in
      ap (base_row layout row.partition) has.cells_are
      ∙ ap (λ (bad : Option ℕ). with_good bad (if list_all is_held has.own then timed_row layout row.partition whole else Err 0)) (none_bad 0 (columns_of layout) whole whole_good)
      ∙ ap (λ (b : Bool). let r : Result Row ℕ = if b then timed_row layout row.partition whole else Err 0 in r) (cells_held layout.fields has.own has.own_are.fit)
      ∙ ap (λ (o : Option ℕ). with_agreed 0 o (λ instant. row_in layout instant row.partition whole)) timed
      ∙ row_again layout row.commit row.partition (time_text row.commit) (seqno_text row.commit row.seq) row.key row.partition file_id has.own row told

  pub base_file : slice_get cells 4 ≡ Some (Text file_id)
  base_file = ap (λ (cs : List Value). slice_get cs 4) has.cells_are

-- ---- columns

pub known_types : (fields : List FlatField) → All (λ column. IsTrue (has_known_type column)) (map column_of fields)
known_types [] = All-nil (λ column. IsTrue (has_known_type column))
known_types (f ∷ fields) = All-cons (λ column. IsTrue (has_known_type column)) (column_of f) (map column_of fields) (known f.name f.nullable f.cell) (known_types fields)
  where
    known : (name : List ℕ) (n : Bool) (t : CellType) → IsTrue (has_known_type (typed_column name n t))
    known name n types.Boolean = refl
    known name n types.Int = refl
    known name n types.Long = refl
    known name n types.Bytes = refl
    known name n types.Text = refl

pub file_there : (layout : RowLayout) → 4 < length (columns_of layout)
unfolding record_fields
file_there layout = omega arith
