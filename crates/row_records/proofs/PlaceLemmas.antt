-- What is read at a place, as the answer of a codec.
use Rattle.std.proofs.Common.{◌≡◌, ℕ, zero, suc, eqb, Bool, true, false, List, [], ◌∷◌, All, map, length, Result, Ok, Err, IsOk, IfOk, refl, sym, ap, subst, ◌∙◌}
use Rattle.std.proofs.lemmas.List.Elements.{All-nil, All-cons}
use Rattle.row_values.specs.RowCells.{IsOwnRow}
use Rattle.byte_fields.specs.declared.field_error.FieldError.{FieldError}
use Rattle.byte_fields.specs.Reading.{Reading, ◌>>=◌, only_if}
use Rattle.byte_fields.proofs.ReadingLemmas.{bind-Ok, only_if-Ok}
use Rattle.payload_merge.specs.declared.row.Row.{Row}
use Rattle.payload_merge.specs.declared.row.Write.{Write}
use Rattle.payload_merge.specs.declared.row.Write.TheVariants.{Put}
use Rattle.payload_merge.specs.Contents.{DataPlace, data_writes, puts_of}
use Rattle.payload_merge.specs.RowCodec.{AnswersContent}
use Rattle.row_values.specs.declared.row_layout.RowLayout.{RowLayout}
use Rattle.block_contents.specs.declared.read_error.ReadError.{ReadError}
use Rattle.block_contents.specs.declared.read_error.ReadError.TheVariants.{Memory, Field}
use Rattle.block_contents.specs.Contents.{content_at, count_at, items_at, with_offset}
use Rattle.block_contents.specs.Readers.{Fails, row_error}
use Rattle.row_records.specs.declared.place.Place.{Place}
use Rattle.row_records.specs.Records.{CanBeLent, record_at, rows_in}
use Rattle.row_records.specs.Readers.{place_of, put_at}
use Rattle.row_records.proofs.ContentLemmas.{lent_read, puts_read, puts_whole, row_of_place}

abbrev place_at : ℕ → List ℕ → List ℕ → DataPlace
place_at instant partition file_id = record { instant = instant; partition = partition; file_id = file_id }

abbrev items_or_none : {A : Type 0} → Reading (List A) → List A
items_or_none (Ok found) = found.0
items_or_none (Err error) = []

module _ (layout : RowLayout) (place : DataPlace) (content : List ℕ) where
  abbrev whole : Bool → Result (List Row) FieldError
  whole written_only = content_at (record_at written_only layout place) content

  answer : data_writes (rows_in layout) place content ≡ with_offset (length content) (content_at (put_at false layout place) content)
  answer = sym (puts_whole (length content) (whole false)) ∙ ap (with_offset (length content)) (sym (puts_read false layout place content))

  module _ (own : Place) where
    same_place : own.t ≡ place.instant → own.partition.now ≡ place.partition → own.file_id.now ≡ place.file_id → place_of own ≡ place
    same_place t partition file_id =
        ap (λ (i : ℕ). place_at i own.partition.now own.file_id.now) t
        ∙ ap (λ (x : List ℕ). place_at place.instant x own.file_id.now) partition
        ∙ ap (λ (x : List ℕ). place_at place.instant place.partition x) file_id

    pub block_ok : (writes : List Write) → own.t ≡ place.instant → own.partition.now ≡ place.partition → own.file_id.now ≡ place.file_id
        → content_at (put_at false layout (place_of own)) content ≡ Ok writes → data_writes (rows_in layout) place content ≡ Ok writes
    block_ok writes t partition file_id read =
        answer ∙ ap (with_offset (length content)) (subst (λ (p : DataPlace). content_at (put_at false layout p) content ≡ Ok writes) (same_place t partition file_id) read)

    pub block_err : (error : ReadError) → own.t ≡ place.instant → own.partition.now ≡ place.partition → own.file_id.now ≡ place.file_id
        → Fails error (content_at (put_at false layout (place_of own)) content) → AnswersContent (data_writes (rows_in layout) place content) (Err (row_error (length content) error))
    block_err Memory t partition file_id fails = refl
    block_err (Field error) t partition file_id fails =
        answer ∙ ap (with_offset (length content)) (subst (λ (p : DataPlace). content_at (put_at false layout p) content ≡ Err error) (same_place t partition file_id) fails)

    -- lent, where each record is in its written form
    pub lent_ok : (writes : List Write) → own.t ≡ place.instant → own.partition.now ≡ place.partition → own.file_id.now ≡ place.file_id
        → content_at (put_at true layout (place_of own)) content ≡ Ok writes → CanBeLent layout place content × (data_writes (rows_in layout) place content ≡ Ok writes)
    lent_ok writes t partition file_id read =
        let here = subst (λ (p : DataPlace). content_at (put_at true layout p) content ≡ Ok writes) (same_place t partition file_id) read in
        let rows = bind-Ok (whole true) (λ (rs : List Row). let r : Result (List Write) FieldError = Ok (map Put rs) in r) writes (sym (puts_read true layout place content) ∙ here) in (
          subst IsOk (sym rows.1) refl,
          ap (λ (r : Result (List Row) FieldError). puts_of (with_offset (length content) r)) (lent_read layout place content rows.0 rows.1) ∙ offsets rows.0 writes rows.2,
        )
      where
        offsets : (rs : List Row) (ws : List Write) → (let r : Result (List Write) FieldError = Ok (map Put rs) in r) ≡ Ok ws → puts_of (with_offset (length content) (Ok rs)) ≡ Ok ws
        offsets rs ws e = ap (with_offset (length content)) e

    pub not_lent : (error : FieldError) → own.t ≡ place.instant → own.partition.now ≡ place.partition → own.file_id.now ≡ place.file_id
        → content_at (put_at true layout (place_of own)) content ≡ Err error → CanBeLent layout place content → ⊥
    not_lent error t partition file_id read lent =
        let here = subst (λ (p : DataPlace). content_at (put_at true layout p) content ≡ Err error) (same_place t partition file_id) read in
        refused (whole true) lent (sym (puts_read true layout place content) ∙ here)
      where
        refused : (r : Result (List Row) FieldError) → IsOk r → (r >>= λ rows. Ok (map Put rows)) ≡ Err error → ⊥
        refused (Ok rows) is e = cc
        refused (Err other) is e = cc

-- ---- what is read are rows of the table and of its place

module _ {A : Type 0} (read : List ℕ → Reading A) (P : A → Type 0) (each : (bytes : List ℕ) (x : A × List ℕ) → read bytes ≡ Ok x → P x.0) where
  abbrev behind : A → List A × List ℕ → Reading (List A)
  behind item items = Ok (item ∷ items.0, items.1)

  items_have : (count : ℕ) (bytes : List ℕ) (x : List A × List ℕ) → items_at read count bytes ≡ Ok x → All P x.0
  unfolding items_at
  items_have zero bytes x e =
      let none : [] ≡ x.0 = ap (λ (r : Reading (List A)). items_or_none r) e in subst (All P) none (All-nil P)
  items_have (suc count) bytes x e =
      let first = bind-Ok (read bytes) (λ item. items_at read count item.1 >>= behind item.0) x e in
      let others = bind-Ok (items_at read count first.0.1) (behind first.0.0) x first.2 in
      let whole : first.0.0 ∷ others.0.0 ≡ x.0 = ap (λ (r : Reading (List A)). items_or_none r) others.2 in
      subst (All P) whole (All-cons P first.0.0 others.0.0 (each bytes first.0 first.1) (items_have count first.0.1 others.0 others.1))

  abbrev end_step : List A × List ℕ → Result (List A) FieldError
  end_step items = only_if (eqb (length items.1) 0) items.1 items.0

  pub content_has : (bytes : List ℕ) (xs : List A) → content_at read bytes ≡ Ok xs → All P xs
  unfolding content_at
  content_has bytes xs e =
      let count = bind-Ok (count_at bytes) (λ n. items_at read n.0 n.1 >>= end_step) xs e in
      let items = bind-Ok (items_at read count.0.0 count.0.1) end_step xs count.2 in
      subst (All P) (only_if-Ok (eqb (length items.0.1) 0) items.0.1 items.0.0 xs items.2).1 (items_have count.0.0 count.0.1 items.0 items.1)

-- a row of the table that lies in its place
abbrev pub IsOfPlace : RowLayout → DataPlace → Row → Type 0
IsOfPlace layout place row = IsOwnRow layout row × (row.commit ≡ place.instant) × (row.partition ≡ place.partition)

pub rows_told : (layout : RowLayout) (place : DataPlace) (content : List ℕ) → IfOk (rows_in layout place content) (All (IsOfPlace layout place))
rows_told layout place content = told (content_at (record_at false layout place) content) refl
  where
    told : (r : Result (List Row) FieldError) → content_at (record_at false layout place) content ≡ r → IfOk (with_offset (length content) r) (All (IsOfPlace layout place))
    told (Ok rows) e = content_has (record_at false layout place) (IsOfPlace layout place) (row_of_place layout place) content rows e
    told (Err error) e = tt
