-- Contents: records one behind another, read as puts, and written records that are read back.
use Rattle.std.proofs.Common.{◌≡◌, inl, inr, ℤ, ℕ, zero, suc, ◌<◌, ◌≤◌, ◌^◌, eqb, Bool, true, false, not, ◌||◌, List, [], ◌∷◌, ◌++◌, length, drop, map, All, Option, Some, None, Result, Ok, Err, refl, sym, ap, subst, ◌∙◌, arith}
use Rattle.std.specs.Str.{IsUtf8, bytes_eq}
use Rattle.std.specs.List.{AllByRecursion}
use Rattle.byteorder.specs.Endian.{big_bytes, big_number}
use Rattle.byte_fields.specs.declared.field_error.FieldError.{FieldError}
use Rattle.byte_fields.specs.declared.field_error.FieldError.TheVariants.{Bad}
use Rattle.byte_fields.specs.Reading.{Reading, ◌>>=◌, as_item, only_if, only_some}
use Rattle.byte_fields.specs.Numbers.{number_at}
use Rattle.byte_fields.specs.Prefixed.{prefixed_at}
use Rattle.payload_merge.specs.declared.row.Row.{Row}
use Rattle.payload_merge.specs.declared.row.Write.TheVariants.{Put}
use Rattle.payload_merge.specs.Contents.{AreRowsOf, DataPlace, puts_of}
use Rattle.std.proofs.lemmas.List.Elements.{All-head, All-tail}
use Rattle.std.proofs.lemmas.Slice.Eq.{bytes_eq-Decides}
use Rattle.byte_fields.proofs.NumberLemmas.{big4}
use Rattle.byte_fields.proofs.PrefixedLemmas.{number_length, prefixed_at_again}
use Rattle.byte_fields.proofs.ReadingLemmas.{as_item-Ok, bind-Ok, bind_is, only_if-Ok, only_if_is, only_some-Ok}
use Rattle.hudi_base.specs.InstantTime.{time_text}
use Rattle.hudi_base.proofs.Times.{length-time_text}
use Rattle.hudi_base.specs.declared.value.Value.{Value, Record}
use Rattle.avro_schema.specs.Written.{written}
use Rattle.row_values.specs.declared.flat_field.CellType.{CellType}
use Rattle.row_values.specs.declared.flat_field.CellType.TheVariants as types
use Rattle.row_values.specs.declared.flat_field.FlatField.{FlatField}
use Rattle.row_values.specs.declared.row_layout.RowLayout.{RowLayout}
use Rattle.row_values.specs.Cells.{AreCells, IsCellOf, record_of_cells, record_values}
use Rattle.row_values.specs.RowCells.{AreCellsOf, IsOwnRow, body_of, seqno_text, text_at, text_in}
use Rattle.block_contents.specs.Contents.{content_at, count_at, items_at, with_offset}
use Rattle.block_contents.specs.declared.read_error.ReadError.{ReadError}
use Rattle.block_contents.specs.declared.read_error.ReadError.TheVariants.{Memory, Field}
use Rattle.block_contents.specs.Readers.{Fails}
use Rattle.block_contents.proofs.ItemLemmas.{content_again}
use Rattle.row_records.specs.Records.{IsRecordOf, cells_at, meta_cells, record_at, record_bytes, record_fields, record_in, row_at, row_bytes, rows_bytes}
use Rattle.row_records.specs.Readers.{IsWritten, head_row, put_at, put_behind_length}
use Rattle.row_records.specs.declared.head.RowHead.{RowHead}
use Rattle.payload_merge.specs.declared.row_refs.RowRef.{RowRef}
use Rattle.payload_merge.specs.RowRefs as lent_as
use Rattle.row_records.proofs.CellLemmas.{cells_again, cells_fit, written_joined}
use Rattle.row_records.proofs.HeadLemmas.{seqno_short}
use Rattle.row_records.proofs.RecordLemmas.{record_again, record_told, short_text}

abbrev Pairing : Row × List ℕ → Row × List ℕ → Type 0
Pairing p q = p ≡ q

-- ---- puts

abbrev before : {A : Type 0} → List ℕ → A → Reading A
before rest x = Ok (x, rest)

abbrev with_value : {A B : Type 0} → (A → B) → A × List ℕ → Reading B
with_value f found = Ok (f found.0, found.1)

map_row : {A B : Type 0} (f : A → B) (item : List ℕ) (p : Reading (List ℕ)) (r : List ℕ → Result A FieldError)
    → (as_item item (p >>= λ content. r content.0 >>= before content.1) >>= with_value f) ≡ as_item item (p >>= λ content. r content.0 >>= λ row. before content.1 (f row))
map_row {A} {B} f item (Ok content) r = step (r content.0)
  where
    step : (x : Result A FieldError) → (as_item item (x >>= before content.1) >>= with_value f) ≡ as_item item (x >>= λ row. before content.1 (f row))
    step (Ok row) = refl
    step (Err error) = refl
map_row f item (Err error) r = refl

pub put_at_is : (written_only : Bool) (layout : RowLayout) (place : DataPlace) (bytes : List ℕ) → put_at written_only layout place bytes ≡ as_item bytes (put_behind_length written_only layout place bytes)
unfolding record_at
put_at_is written_only layout place bytes = map_row Put bytes (prefixed_at (number_at big_number 4) bytes) (record_in written_only layout place)

module _ {A B : Type 0} (f : A → B) (read : List ℕ → Reading A) where
  abbrev mapped : List ℕ → Reading B
  mapped bytes = read bytes >>= with_value f

  abbrev map_items : Reading (List A) → Reading (List B)
  map_items r = r >>= with_value (map f)

  items_step : (first : Reading A) (rest : A × List ℕ → Reading (List A)) (rest' : A × List ℕ → Reading (List B)) → ((x : A × List ℕ) → rest' x ≡ map_items (rest x))
      → (first >>= λ x. rest' x >>= with_value (λ items. f x.0 ∷ items)) ≡ map_items (first >>= λ x. rest x >>= with_value (λ items. x.0 ∷ items))
  items_step (Ok x) rest rest' each = ap (λ (r : Reading (List B)). r >>= with_value (λ items. f x.0 ∷ items)) (each x) ∙ last (rest x)
    where
      last : (r : Reading (List A)) → (map_items r >>= with_value (λ items. f x.0 ∷ items)) ≡ map_items (r >>= with_value (λ items. x.0 ∷ items))
      last (Ok items) = refl
      last (Err error) = refl
  items_step (Err error) rest rest' each = refl

  items_mapped : (count : ℕ) (bytes : List ℕ) → items_at mapped count bytes ≡ map_items (items_at read count bytes)
  unfolding items_at
  items_mapped zero bytes = refl
  items_mapped (suc count) bytes = regroup (read bytes) ∙ items_step (read bytes) (λ x. items_at read count x.1) (λ x. items_at mapped count x.1) (λ x. items_mapped count x.1)
    where
      regroup : (first : Reading A) → ((first >>= with_value f) >>= λ x. items_at mapped count x.1 >>= with_value (λ items. x.0 ∷ items))
          ≡ (first >>= λ x. items_at mapped count x.1 >>= with_value (λ items. f x.0 ∷ items))
      regroup (Ok x) = refl
      regroup (Err error) = refl

  abbrev map_whole : Result (List A) FieldError → Result (List B) FieldError
  map_whole r = r >>= λ items. Ok (map f items)

  pub content_mapped : (bytes : List ℕ) → content_at mapped bytes ≡ map_whole (content_at read bytes)
  unfolding content_at
  content_mapped bytes = counted (count_at bytes)
    where
      ended : (r : Reading (List A)) → (map_items r >>= λ found. only_if (eqb (length found.1) 0) found.1 found.0) ≡ map_whole (r >>= λ found. only_if (eqb (length found.1) 0) found.1 found.0)
      ended (Ok found) = test (eqb (length found.1) 0)
        where
          test : (b : Bool) → only_if b found.1 (map f found.0) ≡ map_whole (only_if b found.1 found.0)
          test true = refl
          test false = refl
      ended (Err error) = refl

      counted : (r : Reading ℕ) → (r >>= λ count. items_at mapped count.0 count.1 >>= λ found. only_if (eqb (length found.1) 0) found.1 found.0)
          ≡ map_whole (r >>= λ count. items_at read count.0 count.1 >>= λ found. only_if (eqb (length found.1) 0) found.1 found.0)
      counted (Ok count) =
          ap (λ (r : Reading (List B)). r >>= λ found. only_if (eqb (length found.1) 0) found.1 found.0) (items_mapped count.0 count.1) ∙ ended (items_at read count.0 count.1)
      counted (Err error) = refl

-- the puts of a content with offsets
pub puts_whole : (total : ℕ) (r : Result (List Row) FieldError) → with_offset total (r >>= λ rows. Ok (map Put rows)) ≡ puts_of (with_offset total r)
puts_whole total (Ok rows) = refl
puts_whole total (Err error) = refl

pub puts_read : (written_only : Bool) (layout : RowLayout) (place : DataPlace) (bytes : List ℕ)
    → content_at (put_at written_only layout place) bytes ≡ (content_at (record_at written_only layout place) bytes >>= λ rows. Ok (map Put rows))
puts_read written_only layout place bytes = content_mapped Put (record_at written_only layout place) bytes

-- ---- what is in its written form is read

abbrev last_step : Bool → RowLayout → List ℕ → List Value → Row → Result Row FieldError
last_step written_only layout bytes cells row =
    only_if (not written_only || bytes_eq bytes (written (record_of_cells (record_fields layout.fields) cells))) bytes row

abbrev row_step : Bool → RowLayout → DataPlace → List ℕ → List Value → Result Row FieldError
row_step written_only layout place bytes cells = only_some (row_at layout place cells) bytes >>= last_step written_only layout bytes cells

weaker_in : (layout : RowLayout) (place : DataPlace) (bytes : List ℕ) (row : Row) → record_in true layout place bytes ≡ Ok row → record_in false layout place bytes ≡ Ok row
unfolding record_in
weaker_in layout place bytes row e =
    let c = bind-Ok (cells_at (record_fields layout.fields) bytes) (row_step true layout place bytes) row e in
    let r = bind-Ok (only_some (row_at layout place c.0) bytes) (last_step true layout bytes c.0) row c.2 in
    let t = only_if-Ok (bytes_eq bytes (written (record_of_cells (record_fields layout.fields) c.0))) bytes r.0 row r.2 in
    bind_is (cells_at (record_fields layout.fields) bytes) c.0 (row_step false layout place bytes) c.1
    ∙ bind_is (only_some (row_at layout place c.0) bytes) r.0 (last_step false layout bytes c.0) r.1
    ∙ ap (λ (x : Row). let y : Result Row FieldError = Ok x in y) t.1

abbrev content_step : Bool → RowLayout → DataPlace → List ℕ × List ℕ → Reading Row
content_step written_only layout place content = record_in written_only layout place content.0 >>= before content.1

weaker_at : (layout : RowLayout) (place : DataPlace) (bytes : List ℕ) (x : Row × List ℕ) → record_at true layout place bytes ≡ Ok x → record_at false layout place bytes ≡ Ok x
unfolding record_at
weaker_at layout place bytes x e =
    let p = prefixed_at (number_at big_number 4) bytes in
    let c = bind-Ok p (content_step true layout place) x (as_item-Ok bytes (p >>= content_step true layout place) x e) in
    let r = bind-Ok (record_in true layout place c.0.0) (before c.0.1) x c.2 in
    ap (as_item bytes) (bind_is p c.0 (content_step false layout place) c.1 ∙ bind_is (record_in false layout place c.0.0) r.0 (before c.0.1) (weaker_in layout place c.0.0 r.0 r.1) ∙ r.2)

module _ {A : Type 0} (strict plain : List ℕ → Reading A) (weaker : (bytes : List ℕ) (x : A × List ℕ) → strict bytes ≡ Ok x → plain bytes ≡ Ok x) where
  weaker_items : (count : ℕ) (bytes : List ℕ) (x : List A × List ℕ) → items_at strict count bytes ≡ Ok x → items_at plain count bytes ≡ Ok x
  unfolding items_at
  weaker_items zero bytes x e = e
  weaker_items (suc count) bytes x e =
      let first = bind-Ok (strict bytes) (λ item. items_at strict count item.1 >>= with_value (λ items. item.0 ∷ items)) x e in
      let others = bind-Ok (items_at strict count first.0.1) (with_value (λ items. first.0.0 ∷ items)) x first.2 in
      bind_is (plain bytes) first.0 (λ item. items_at plain count item.1 >>= with_value (λ items. item.0 ∷ items)) (weaker bytes first.0 first.1)
      ∙ bind_is (items_at plain count first.0.1) others.0 (with_value (λ items. first.0.0 ∷ items)) (weaker_items count first.0.1 others.0 others.1)
      ∙ others.2

  abbrev end_step : List A × List ℕ → Result (List A) FieldError
  end_step items = only_if (eqb (length items.1) 0) items.1 items.0

  pub weaker_content : (bytes : List ℕ) (x : List A) → content_at strict bytes ≡ Ok x → content_at plain bytes ≡ Ok x
  unfolding content_at
  weaker_content bytes x e =
      let count = bind-Ok (count_at bytes) (λ n. items_at strict n.0 n.1 >>= end_step) x e in
      let items = bind-Ok (items_at strict count.0.0 count.0.1) end_step x count.2 in
      bind_is (count_at bytes) count.0 (λ n. items_at plain n.0 n.1 >>= end_step) count.1
      ∙ bind_is (items_at plain count.0.0 count.0.1) items.0 end_step (weaker_items count.0.0 count.0.1 items.0 items.1)
      ∙ items.2

-- what can be lent is read
pub lent_read : (layout : RowLayout) (place : DataPlace) (bytes : List ℕ) (rows : List Row) → content_at (record_at true layout place) bytes ≡ Ok rows → content_at (record_at false layout place) bytes ≡ Ok rows
lent_read layout place = weaker_content (record_at true layout place) (record_at false layout place) (weaker_at layout place)

-- ---- what is written is read back

utf8_in : (n : Bool) (type : CellType) (c : Value) (text : List ℕ) → IsCellOf n type c → text_in c ≡ Some text → IsUtf8 text
utf8_in n type c text (inl (e, may)) told = let none = ap text_in (sym e) ∙ told in absurd cc
utf8_in n types.Boolean c text (inr (b, e)) told = let none = ap text_in (sym e) ∙ told in absurd cc
utf8_in n types.Int c text (inr (z, e, f)) told = let none = ap text_in (sym e) ∙ told in absurd cc
utf8_in n types.Long c text (inr (z, e, f)) told = let none = ap text_in (sym e) ∙ told in absurd cc
utf8_in n types.Bytes c text (inr (content, e, f)) told = let none = ap text_in (sym e) ∙ told in absurd cc
utf8_in n types.Text c text (inr (content, e, f, utf8)) told =
    let same : content ≡ text = let some : Some content ≡ Some text = ap text_in (sym e) ∙ told in cc in subst IsUtf8 same utf8

pub utf8_text : (fields : List FlatField) (cells : List Value) (place : ℕ) (text : List ℕ) → AreCells fields cells → text_at place cells ≡ Some text → IsUtf8 text
utf8_text [] [] place text fit told = absurd cc
utf8_text [] (c ∷ cells) place text fit told = absurd fit
utf8_text (f ∷ fields) [] place text fit told = absurd fit
utf8_text (f ∷ fields) (c ∷ cells) zero text fit told = utf8_in f.nullable f.cell c text fit.0 told
utf8_text (f ∷ fields) (c ∷ cells) (suc place) text fit told = utf8_text fields cells place text fit.1 told

module _ (layout : RowLayout) (place : DataPlace) (row : Row) (known : IsWritten place.file_id row) (own : List Value) (is : AreCellsOf layout row own) (short_id : length place.file_id ≤ 65536) where
  abbrev all_cells : List Value
  all_cells = meta_cells place.file_id row ++ own

  all_fit : AreCells (record_fields layout.fields) all_cells
  unfolding record_fields
  all_fit =
      let time-short : length (time_text row.commit) < 2 ^ 63 = omega (arith, length-time_text row.commit) in
      let seqno-short : length (seqno_text row.commit row.seq) < 2 ^ 63 = omega (arith, seqno_short row.commit row.seq known.seqno.fits) in
      let key-short : length row.key < 2 ^ 63 = omega (arith, short_text layout.key own row.key is.short is.key) in
      let path-short : length row.partition < 2 ^ 63 = omega (arith, short_text layout.partition own row.partition is.short is.partition) in
      let file-short : length place.file_id < 2 ^ 63 = omega arith in (
        inr (time_text row.commit, refl, time-short, known.seqno.time),
        (inr (seqno_text row.commit row.seq, refl, seqno-short, known.seqno.text), (inr (row.key, refl, key-short, utf8_text layout.fields own layout.key row.key is.fit is.key), (inr (row.partition, refl, path-short, utf8_text layout.fields own layout.partition row.partition is.fit is.partition), (inr (place.file_id, refl, file-short, known.file), is.fit)))),
      )

  whole_bytes : record_bytes place.file_id row ≡ written (record_of_cells (record_fields layout.fields) all_cells)
  unfolding record_fields
  whole_bytes =
      ap (λ (bs : List ℕ). written (Record (meta_cells place.file_id row)) ++ bs) is.body
      ∙ sym (written_joined (meta_cells place.file_id row) (record_values layout.fields own))

  record_row : row.commit ≡ place.instant → row.partition ≡ place.partition → (written_only : Bool) → record_in written_only layout place (record_bytes place.file_id row) ≡ Ok row
  unfolding record_in
  record_row commit partition written_only =
      let bytes = record_bytes place.file_id row in
      let fields = record_fields layout.fields in
      let whole = written (record_of_cells fields all_cells) in
      let read : cells_at fields bytes ≡ Ok all_cells = ap (cells_at fields) whole_bytes ∙ cells_again fields all_cells all_fit in
      let told : IsRecordOf layout place row all_cells = record {
        own = own;
        own_are = is;
        cells_are = refl;
        commit = commit;
        partition = partition;
        seq = known.seqno.fits;
        short_id = short_id;
      } in
      let found : row_at layout place all_cells ≡ Some row = record_again layout place row all_cells told in
      let same : bytes_eq bytes whole ≡ true = (bytes_eq-Decides bytes whole).1 whole_bytes in
      bind_is (cells_at fields bytes) all_cells (row_step written_only layout place bytes) read
      ∙ bind_is (only_some (row_at layout place all_cells) bytes) row (last_step written_only layout bytes all_cells) (ap (λ (o : Option Row). only_some o bytes) found)
      ∙ ap (λ (b : Bool). only_if (not written_only || b) bytes row) same
      ∙ either written_only
    where
      either : (b : Bool) → only_if (not b || true) (record_bytes place.file_id row) row ≡ Ok row
      either true = refl
      either false = refl

  row_read : row.commit ≡ place.instant → row.partition ≡ place.partition → (written_only : Bool) (rest : List ℕ) → record_at written_only layout place (row_bytes place.file_id row ++ rest) ≡ Ok (row, rest)
  unfolding record_at
  row_read commit partition written_only rest =
      let content = record_bytes place.file_id row in
      let bytes = row_bytes place.file_id row ++ rest in
      ap (as_item bytes)
      (bind_is (prefixed_at (number_at big_number 4) bytes) (content, rest) (content_step written_only layout place)
      (prefixed_at_again (number_at big_number 4) (big_bytes 4) content rest (number_length big_number big_bytes 4 (length content) big4 known.short))
      ∙ bind_is (record_in written_only layout place content) row (before rest) (record_row commit partition written_only))

-- what holds of each row that is written
abbrev IsPut : RowLayout → DataPlace → Row → Type 0
IsPut layout place row = IsWritten place.file_id row × IsOwnRow layout row × (row.commit ≡ place.instant) × (row.partition ≡ place.partition)

module _ (layout : RowLayout) (place : DataPlace) (short_id : length place.file_id ≤ 65536) where
  one_read : (written_only : Bool) (row : Row) (rest : List ℕ) → IsPut layout place row → record_at written_only layout place (row_bytes place.file_id row ++ rest) ≡ Ok (row, rest)
  one_read written_only row rest is = row_read layout place row is.0 is.1.0 is.1.1 short_id is.2 is.3 written_only rest

  each_put : (rows : List Row) → All (IsWritten place.file_id) rows → All (IsOwnRow layout) rows → AreRowsOf place.instant place.partition rows → AllByRecursion (IsPut layout place) rows
  each_put [] known own placed = tt
  each_put (row ∷ rows) known own placed =
      let here = All-head (λ (r : Row). (r.commit ≡ place.instant) × (r.partition ≡ place.partition)) row rows placed in (
        (All-head (IsWritten place.file_id) row rows known, All-head (IsOwnRow layout) row rows own, here.0, here.1),
        each_put rows (All-tail (IsWritten place.file_id) row rows known) (All-tail (IsOwnRow layout) row rows own)
            (All-tail (λ (r : Row). (r.commit ≡ place.instant) × (r.partition ≡ place.partition)) row rows placed),
      )

  pub rows_read : (written_only : Bool) (rows : List Row) (content : List ℕ) → content ≡ rows_bytes place.file_id rows → length rows < 2 ^ 32 → All (IsWritten place.file_id) rows → All (IsOwnRow layout) rows
      → AreRowsOf place.instant place.partition rows → content_at (record_at written_only layout place) content ≡ Ok rows
  rows_read written_only rows content same few known own placed =
      ap (content_at (record_at written_only layout place)) same
      ∙ content_again (record_at written_only layout place) (row_bytes place.file_id) (IsPut layout place) (one_read written_only) rows few (each_put rows known own placed)

-- ---- what is read are rows of the table and of its place

pub row_of_place : (layout : RowLayout) (place : DataPlace) (bytes : List ℕ) (x : Row × List ℕ) → record_at false layout place bytes ≡ Ok x
    → IsOwnRow layout x.0 × (x.0.commit ≡ place.instant) × (x.0.partition ≡ place.partition)
unfolding record_at record_in
row_of_place layout place bytes x e =
    let p = prefixed_at (number_at big_number 4) bytes in
    let c = bind-Ok p (content_step false layout place) x (as_item-Ok bytes (p >>= content_step false layout place) x e) in
    let r = bind-Ok (record_in false layout place c.0.0) (before c.0.1) x c.2 in
    let k = bind-Ok (cells_at (record_fields layout.fields) c.0.0) (row_step false layout place c.0.0) r.0 r.1 in
    let o = bind-Ok (only_some (row_at layout place k.0) c.0.0) (last_step false layout c.0.0 k.0) r.0 k.2 in
    let found : row_at layout place k.0 ≡ Some o.0 = only_some-Ok (row_at layout place k.0) c.0.0 o.0 o.1 in
    let told = record_told layout place o.0 k.0 (cells_fit (record_fields layout.fields) c.0.0 k.0 k.1) found in
    let first : o.0 ≡ r.0 = let y : Result Row FieldError = Ok o.0 in let same : y ≡ Ok r.0 = o.2 in cc in
    let pair : Pairing (r.0, c.0.1) x = cc r.2 in
    let same : o.0 ≡ x.0 = first ∙ ap (λ (q : Row × List ℕ). q.0) pair in
    subst (λ (row : Row). IsOwnRow layout row × (row.commit ≡ place.instant) × (row.partition ≡ place.partition)) same ((told.own, told.own_are), told.commit, told.partition)

-- ---- records that are not read

pub no_cells : (written_only : Bool) (layout : RowLayout) (place : DataPlace) (bytes : List ℕ) (error : ReadError) → Fails error (cells_at (record_fields layout.fields) bytes) → Fails error (record_in written_only layout place bytes)
unfolding record_in
no_cells written_only layout place bytes Memory fails = tt
no_cells written_only layout place bytes (Field error) fails = ap (λ (r : Result (List Value) FieldError). r >>= row_step written_only layout place bytes) fails

pub no_row : (written_only : Bool) (layout : RowLayout) (place : DataPlace) (bytes : List ℕ) (cells : List Value) → cells_at (record_fields layout.fields) bytes ≡ Ok cells → row_at layout place cells ≡ None
    → record_in written_only layout place bytes ≡ Err (Bad (length bytes))
unfolding record_in
no_row written_only layout place bytes cells read none =
    bind_is (cells_at (record_fields layout.fields) bytes) cells (row_step written_only layout place bytes) read
    ∙ ap (λ (o : Option Row). only_some o bytes >>= last_step written_only layout bytes cells) none

-- a record that was found, by whether it is in its written form
pub found_row : (written_only : Bool) (layout : RowLayout) (place : DataPlace) (bytes : List ℕ) (cells : List Value) (row : Row) → cells_at (record_fields layout.fields) bytes ≡ Ok cells → row_at layout place cells ≡ Some row
    → record_in written_only layout place bytes ≡ last_step written_only layout bytes cells row
unfolding record_in
found_row written_only layout place bytes cells row read found =
    bind_is (cells_at (record_fields layout.fields) bytes) cells (row_step written_only layout place bytes) read
    ∙ ap (λ (o : Option Row). only_some o bytes >>= last_step written_only layout bytes cells) found

pub lent_row : (layout : RowLayout) (place : DataPlace) (bytes whole : List ℕ) (cells : List Value) (row : Row) → cells_at (record_fields layout.fields) bytes ≡ Ok cells → row_at layout place cells ≡ Some row
    → whole ≡ written (record_of_cells (record_fields layout.fields) cells) → bytes ≡ whole → record_in true layout place bytes ≡ Ok row
lent_row layout place bytes whole cells row read found is same =
    found_row true layout place bytes cells row read found
    ∙ only_if_is (bytes_eq bytes (written (record_of_cells (record_fields layout.fields) cells))) bytes row ((bytes_eq-Decides bytes (written (record_of_cells (record_fields layout.fields) cells))).1 (same ∙ is))

pub not_lent : (layout : RowLayout) (place : DataPlace) (bytes whole : List ℕ) (cells : List Value) (row : Row) → cells_at (record_fields layout.fields) bytes ≡ Ok cells → row_at layout place cells ≡ Some row
    → whole ≡ written (record_of_cells (record_fields layout.fields) cells) → (bytes ≡ whole → ⊥) → record_in true layout place bytes ≡ Err (Bad (length bytes))
not_lent layout place bytes whole cells row read found is other =
    found_row true layout place bytes cells row read found ∙ refused (bytes_eq bytes (written (record_of_cells (record_fields layout.fields) cells))) refl
  where
    refused : (b : Bool) → bytes_eq bytes (written (record_of_cells (record_fields layout.fields) cells)) ≡ b → only_if b bytes row ≡ Err (Bad (length bytes))
    refused true e = absurd (other ((bytes_eq-Decides bytes (written (record_of_cells (record_fields layout.fields) cells))).0 e ∙ sym is))
    refused false e = refl

-- ---- from rows to puts

pub put_found : (written_only : Bool) (layout : RowLayout) (place : DataPlace) (bytes : List ℕ) (row : Row) (rest : List ℕ) → record_at written_only layout place bytes ≡ Ok (row, rest) → put_at written_only layout place bytes ≡ Ok (Put row, rest)
put_found written_only layout place bytes row rest e = bind_is (record_at written_only layout place bytes) (row, rest) (with_value Put) e

pub put_fails : (written_only : Bool) (layout : RowLayout) (place : DataPlace) (bytes : List ℕ) (error : ReadError) → Fails error (record_at written_only layout place bytes) → Fails error (put_at written_only layout place bytes)
put_fails written_only layout place bytes Memory fails = tt
put_fails written_only layout place bytes (Field error) fails = ap (λ (r : Reading Row). r >>= with_value Put) fails

-- a row by its parts
pub same_row : (layout : RowLayout) (instant : ℕ) (partition : List ℕ) (cells : List Value) (head : RowHead) (lent : RowRef) → lent.key.now ≡ head.key.now → lent.rank ≡ head.rank → lent.commit ≡ instant → lent.seq ≡ head.seq
    → lent.body.now ≡ body_of layout (drop 5 cells) → head_row layout instant partition cells head ≡ lent_as.row_in partition lent
same_row layout instant partition cells head lent key rank commit seq body =
    let whole : Row = head_row layout instant partition cells head in
    ap (λ (x : List ℕ). let r : Row = record whole { key = x } in r) (sym key)
    ∙ ap (λ (x : ℤ). let r : Row = record whole { key = lent.key.now; rank = x } in r) (sym rank)
    ∙ ap (λ (x : ℕ). let r : Row = record whole { key = lent.key.now; rank = lent.rank; commit = x } in r) (sym commit)
    ∙ ap (λ (x : ℕ). let r : Row = record whole { key = lent.key.now; rank = lent.rank; commit = lent.commit; seq = x } in r) (sym seq)
    ∙ ap (λ (x : List ℕ). let r : Row = record whole { key = lent.key.now; rank = lent.rank; commit = lent.commit; seq = lent.seq; body = x } in r) (sym body)
