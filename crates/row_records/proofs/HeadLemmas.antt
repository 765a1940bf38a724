-- The row that cells make, in both directions.
use Rattle.std.proofs.Common.{◌≡◌, inl, inr, ℕ, ◌+◌, ◌<◌, ◌≤◌, ◌^◌, nat_lt, Bool, true, false, if◌then◌else◌, List, [], ◌∷◌, ◌++◌, length, take, drop, All, Option, Some, None, option_and_then, codes, Result, Ok, refl, sym, ap, subst, ◌∙◌, append_assoc, rules, arith}
use Rattle.std.specs.Str.{IsAscii, IsUtf8, bytes_eq}
use Rattle.std.proofs.lemmas.Str.{IsUtf8-append, IsUtf8-from_ascii}
use Rattle.std.specs.Fmt.{decimal}
use Rattle.std.specs.List.{list_all, drop-map}
use Rattle.std.proofs.lemmas.Bool.{and_parts, ltb-true, lt-ltb, leb-true, le-leb}
use Rattle.std.proofs.lemmas.Fmt.{length-decimal-le}
use Rattle.std.proofs.lemmas.List.{take_at, drop_at, take-append-drop, length-append}
use Rattle.std.proofs.lemmas.List.Elements.{All-nil, All-cons, All-head, All-tail}
use Rattle.std.proofs.lemmas.Slice.Eq.{bytes_eq-Decides}
use Rattle.hudi_base.specs.InstantTime.{time_text}
use Rattle.hudi_base.proofs.Times.{length-time_text}
use Rattle.hudi_base.specs.declared.value.Value.{Value, Text}
use Rattle.table_forms.specs.Decimals.{IsDecimal, decimal_of}
use Rattle.table_forms.proofs.DecimalLemmas.{IsDecimal-decimal_of, IsUtf8-decimal, decimal_of-IsDecimal}
use Rattle.row_values.specs.declared.cell_ref.CellRef.{CellRef}
use Rattle.row_values.specs.declared.flat_field.FlatField.{FlatField}
use Rattle.row_values.specs.Cells.{AreCells, IsShortCell, cell_view, cells_view}
use Rattle.row_values.specs.RowCells.{seqno_text}
use Rattle.row_records.specs.Records.{behind, is_short_cell, of_32_bits, one_text, only_text, record_fields, seq_in, text_field, with_agreed}

pub own_view : (n : ℕ) (cells : List CellRef) → cells_view (drop n cells) ≡ drop n (cells_view cells)
own_view n cells = sym (drop-map cell_view n cells)

-- ---- texts before the own cells

-- five texts stand before own cells
pub record HasTexts (fields : List FlatField) (cells : List Value) : Type 0 where
  pub commit : List ℕ
  pub seqno : List ℕ
  pub key : List ℕ
  pub path : List ℕ
  pub file : List ℕ
  pub own : List Value
  pub whole : cells ≡ Text commit ∷ Text seqno ∷ Text key ∷ Text path ∷ Text file ∷ own
  pub fit : AreCells fields own

-- a cell of strings is one
record IsText (cell : Value) : Type 0 where
  text : List ℕ
  is : cell ≡ Text text
  short : length text < 2 ^ 63
  utf8 : IsUtf8 text

text_cell : (name : List ℕ) (c : Value) → AreCells (text_field name ∷ []) (c ∷ []) → IsText c
text_cell name c (inl (e, may), more) = absurd cc
text_cell name c (inr (text, e, short, utf8), more) = record { text = text; is = e; short = short; utf8 = utf8 }

pub texts_of : (fields : List FlatField) (cells : List Value) → AreCells (record_fields fields) cells → HasTexts fields cells
unfolding record_fields
texts_of fields [] fit = absurd fit
texts_of fields (a ∷ []) fit = absurd fit.1
texts_of fields (a ∷ b ∷ []) fit = absurd fit.1.1
texts_of fields (a ∷ b ∷ c ∷ []) fit = absurd fit.1.1.1
texts_of fields (a ∷ b ∷ c ∷ d ∷ []) fit = absurd fit.1.1.1.1
texts_of fields (a ∷ b ∷ c ∷ d ∷ e ∷ own) fit =
    let ta = text_cell (codes "_hoodie_commit_time") a (fit.0, tt) in
    let tb = text_cell (codes "_hoodie_commit_seqno") b (fit.1.0, tt) in
    let tc = text_cell (codes "_hoodie_record_key") c (fit.1.1.0, tt) in
    let td = text_cell (codes "_hoodie_partition_path") d (fit.1.1.1.0, tt) in
    let te = text_cell (codes "_hoodie_file_name") e (fit.1.1.1.1.0, tt) in
    let last : e ∷ own ≡ Text te.text ∷ own = ap (λ (v : Value). v ∷ own) te.is in
    record {
      commit = ta.text;
      seqno = tb.text;
      key = tc.text;
      path = td.text;
      file = te.text;
      own = own;
      whole =
          ap (λ (v : Value). v ∷ b ∷ c ∷ d ∷ e ∷ own) ta.is
          ∙ ap (λ (v : Value). Text ta.text ∷ v ∷ c ∷ d ∷ e ∷ own) tb.is
          ∙ ap (λ (v : Value). Text ta.text ∷ Text tb.text ∷ v ∷ d ∷ e ∷ own) tc.is
          ∙ ap (λ (v : Value). Text ta.text ∷ Text tb.text ∷ Text tc.text ∷ v ∷ e ∷ own) td.is
          ∙ ap (λ (vs : List Value). Text ta.text ∷ Text tb.text ∷ Text tc.text ∷ Text td.text ∷ vs) last;
      fit = fit.1.1.1.1.1;
    }

-- ---- steps that agree

pub agreed : {A B : Type 0} (place : ℕ) (o : Option A) (next : A → Result B ℕ) (y : B) → with_agreed place o next ≡ Ok y → (x : A) × (o ≡ Some x) × (next x ≡ Ok y)
agreed place (Some x) next y e = (x, refl, e)
agreed place None next y e = absurd cc

pub agreed_is : {A B : Type 0} (place : ℕ) (o : Option A) (next : A → Result B ℕ) (x : A) → o ≡ Some x → with_agreed place o next ≡ next x
agreed_is place o next x e = ap (λ (p : Option _). with_agreed place p next) e

chained : {A B : Type 0} (o : Option A) (f : A → Option B) (y : B) → option_and_then f o ≡ Some y → (x : A) × (o ≡ Some x) × (f x ≡ Some y)
chained (Some x) f y e = (x, refl, e)
chained None f y e = absurd cc

chained_is : {A B : Type 0} (o : Option A) (f : A → Option B) (x : A) → o ≡ Some x → option_and_then f o ≡ f x
chained_is o f x e = ap (λ (p : Option _). option_and_then f p) e

tested : {A : Type 0} (b : Bool) (x y : A) → (if b then Some x else None) ≡ Some y → (b ≡ true) × (x ≡ y)
tested true x y e = (refl, cc)
tested false x y e = absurd cc

tested_is : {A : Type 0} (b : Bool) (x : A) → b ≡ true → (if b then Some x else None) ≡ Some x
tested_is b x e = ap (λ (c : Bool). if c then Some x else None) e

-- ---- seqnos

behind_is : (start text rest : List ℕ) → behind start text ≡ Some rest → text ≡ start ++ rest
behind_is start text rest e =
    let told = tested (bytes_eq (take (length start) text) start) (drop (length start) text) rest e in
    sym (take-append-drop (length start) text)
    ∙ ap (λ (bs : List ℕ). bs ++ drop (length start) text) ((bytes_eq-Decides (take (length start) text) start).0 told.0)
    ∙ ap (λ (bs : List ℕ). start ++ bs) told.1

behind_again : (start rest : List ℕ) → behind start (start ++ rest) ≡ Some rest
behind_again start rest =
    tested_is (bytes_eq (take (length start) (start ++ rest)) start) (drop (length start) (start ++ rest)) ((bytes_eq-Decides (take (length start) (start ++ rest)) start).1 (take_at start rest (length start) refl))
    ∙ ap Some (drop_at start rest (length start) refl)

pub seq_told : (instant : ℕ) (text : List ℕ) (seq : ℕ) → seq_in instant text ≡ Some seq → (text ≡ seqno_text instant seq) × (seq < 2 ^ 32)
unfolding seq_in
seq_told instant text seq e =
    let number = chained (option_and_then decimal_of (option_and_then (behind (codes "_0_")) (behind (time_text instant) text))) of_32_bits seq e in
    let digits = chained (option_and_then (behind (codes "_0_")) (behind (time_text instant) text)) decimal_of number.0 number.1 in
    let rest = chained (behind (time_text instant) text) (behind (codes "_0_")) digits.0 digits.1 in
    let small = tested (nat_lt number.0 (2 ^ 32)) number.0 seq number.2 in
    let written : digits.0 ≡ decimal seq = (IsDecimal-decimal_of number.0 digits.0 digits.2).written ∙ ap decimal small.1 in (
      behind_is (time_text instant) text rest.0 rest.1
          ∙ ap (λ (bs : List ℕ). time_text instant ++ bs) (behind_is (codes "_0_") rest.0 digits.0 rest.2 ∙ ap (λ (bs : List ℕ). codes "_0_" ++ bs) written)
          ∙ sym (append_assoc (time_text instant) (codes "_0_") (decimal seq)),
      subst (λ (n : ℕ). n < 2 ^ 32) small.1 (ltb-true number.0 (2 ^ 32) small.0),
    )

pub seq_again : (instant seq : ℕ) → seq < 2 ^ 32 → seq_in instant (seqno_text instant seq) ≡ Some seq
unfolding seq_in
seq_again instant seq fits =
    let digits = decimal seq in
    let after = codes "_0_" ++ digits in
    let one : behind (time_text instant) (time_text instant ++ after) ≡ Some after = behind_again (time_text instant) after in
    let two : option_and_then (behind (codes "_0_")) (behind (time_text instant) (time_text instant ++ after)) ≡ Some digits =
    chained_is (behind (time_text instant) (time_text instant ++ after)) (behind (codes "_0_")) after one ∙ behind_again (codes "_0_") digits in
    let own : IsDecimal seq digits = record { fits = omega arith; written = refl } in
    let three : option_and_then decimal_of (option_and_then (behind (codes "_0_")) (behind (time_text instant) (time_text instant ++ after))) ≡ Some seq =
    chained_is (option_and_then (behind (codes "_0_")) (behind (time_text instant) (time_text instant ++ after))) decimal_of digits two ∙ decimal_of-IsDecimal seq digits own in
    ap (λ (text : List ℕ). option_and_then of_32_bits (option_and_then decimal_of (option_and_then (behind (codes "_0_")) (behind (time_text instant) text)))) (append_assoc (time_text instant) (codes "_0_") digits)
    ∙ chained_is (option_and_then decimal_of (option_and_then (behind (codes "_0_")) (behind (time_text instant) (time_text instant ++ after)))) of_32_bits seq three
    ∙ tested_is (nat_lt seq (2 ^ 32)) seq (lt-ltb seq (2 ^ 32) fits)

pub seqno_short : (instant seq : ℕ) → seq < 2 ^ 32 → length (seqno_text instant seq) ≤ 65536
seqno_short instant seq fits =
    let digits = length-decimal-le 10 seq (omega arith) (omega arith) (omega arith) in
    let before : length (time_text instant ++ codes "_0_") ≡ length (time_text instant) + 3 = length-append (time_text instant) (codes "_0_") in
    omega (arith, length-append (time_text instant ++ codes "_0_") (decimal seq), before, length-time_text instant, digits)

-- ---- texts that are told twice

pub one_told : (one : List ℕ) (other : Option (List ℕ)) (x : List ℕ) → one_text (Some one) other ≡ Some x → (one ≡ x) × (other ≡ Some x)
one_told one other x e =
    let found = chained other (only_text one) x e in
    let told = tested (bytes_eq found.0 one) found.0 x found.2 in
    (sym ((bytes_eq-Decides found.0 one).0 told.0) ∙ told.1, found.1 ∙ ap Some told.1)

pub one_again : (x : List ℕ) (other : Option (List ℕ)) → other ≡ Some x → one_text (Some x) other ≡ Some x
one_again x other e = chained_is other (only_text x) x e ∙ tested_is (bytes_eq x x) x ((bytes_eq-Decides x x).1 refl)

pub only_told : (wanted : List ℕ) (o : Option (List ℕ)) (x : List ℕ) → option_and_then (only_text wanted) o ≡ Some x → (o ≡ Some wanted) × (x ≡ wanted)
only_told wanted o x e =
    let found = chained o (only_text wanted) x e in
    let told = tested (bytes_eq found.0 wanted) found.0 x found.2 in
    let same = (bytes_eq-Decides found.0 wanted).0 told.0 in
    (found.1 ∙ ap Some same, sym told.1 ∙ same)

pub only_again : (x : List ℕ) (o : Option (List ℕ)) → o ≡ Some x → option_and_then (only_text x) o ≡ Some x
only_again x o e = chained_is o (only_text x) x e ∙ tested_is (bytes_eq x x) x ((bytes_eq-Decides x x).1 refl)

-- ---- short cells

pub short_told : (cells : List Value) → list_all is_short_cell cells ≡ true → All IsShortCell cells
short_told [] told = All-nil IsShortCell
short_told (c ∷ cells) told =
    let two = and_parts (is_short_cell c) (list_all is_short_cell cells) told in
    All-cons IsShortCell c cells (leb-true _ _ two.0) (short_told cells two.1)

pub short_again : (cells : List Value) → All IsShortCell cells → list_all is_short_cell cells ≡ true
short_again [] each = refl
short_again (c ∷ cells) each =
    let here : is_short_cell c ≡ true = le-leb _ _ (All-head IsShortCell c cells each) in
    rw here (short_again cells (All-tail IsShortCell c cells each))

pub IsUtf8-seqno : (instant seq : ℕ) → IsUtf8 (time_text instant) → seq < 2 ^ 32 → IsUtf8 (seqno_text instant seq)
IsUtf8-seqno instant seq time fits =
    IsUtf8-append (time_text instant ++ codes "_0_") (decimal seq) (IsUtf8-append (time_text instant) (codes "_0_") time (IsUtf8-from_ascii (codes "_0_") ascii))
    (IsUtf8-decimal seq (decimal seq) (record { fits = omega arith; written = refl }))
  where
    ascii : IsAscii (codes "_0_")
    ascii = search rules
