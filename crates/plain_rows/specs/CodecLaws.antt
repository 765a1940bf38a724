-- The laws of the codec: what is read can be written again and lies where it was read.
use Rattle.std.proofs.Common.{◌≡◌, ℕ, zero, suc, ◌+◌, ◌≤◌, Bool, true, false, ◌&&◌, leb, eqb, List, [], ◌∷◌, length, Result, Ok, Err, All, subst, refl, arith, ◌++◌, ◌<◌}
use Rattle.std.specs.Prelude.{ℤ, if◌then◌else◌, IfOk, IsTrue, Option, Some, None}
use Rattle.std.specs.Int.{w64}
use Rattle.std.specs.Str.{IsUtf8, is_utf8}
use Rattle.std.proofs.lemmas.Str.{IsUtf8-from_is_utf8}
use Rattle.std.proofs.lemmas.Bool.{and_parts, leb-true}
use Rattle.std.proofs.lemmas.List.Elements.{All-nil, All-cons, All-from_recursion, All-weaker}
use Rattle.std.proofs.lemmas.Result.{IfOk-weaker}
use Rattle.hudi_base.specs.declared.value.Value.{Value}
use Rattle.hudi_base.specs.declared.value.Value.TheVariants as value
use Rattle.column_cells.specs.Cells.{has_known_type}
use Rattle.byteorder.specs.Endian.{big_number}
use Rattle.byte_fields.specs.Numbers.{number_at, signed_at}
use Rattle.byte_fields.specs.Prefixed.{prefixed_at}
use Rattle.byte_fields.specs.Reading.{◌>>=◌, only_if}
use Rattle.byte_fields.specs.declared.field_error.FieldError.{FieldError}
use Rattle.block_contents.specs.Contents.{with_offset}
use Rattle.payload_merge.specs.Contents.{AreRowsOf, DataPlace}
use Rattle.payload_merge.specs.declared.row.Row.{Row}
use Rattle.plain_rows.specs.Cells.{place_of, rank_of, row_in, row_of_cells, sized_of, the_columns, time_of}
use Rattle.plain_rows.specs.Contents.{content_at, place_at, row_at, rows_at, rows_in, sized_at, told_at}
use Rattle.plain_rows.specs.OwnRows.{IsOwn, is_sized_text, most_body_bytes, most_key_bytes}

-- ---- steps

if_then : {A B : Type 0} (P : A → Type 0) (Q : B → Type 0) (r : Result A FieldError) (f : A → Result B FieldError) → IfOk r P → ((x : A) → P x → IfOk (f x) Q) → IfOk (r >>= f) Q
if_then P Q (Ok x) f first next = next x first
if_then P Q (Err error) f first next = tt

if_any : {A : Type 0} (r : Result A FieldError) → IfOk r (λ x. Unit {0})
if_any (Ok x) = tt
if_any (Err error) = tt

if_passes : {A : Type 0} (P : A → Type 0) (test : Bool) (item : List ℕ) (x : A) → (test ≡ true → P x) → IfOk (only_if test item x) P
if_passes P true item x holds = holds refl
if_passes P false item x holds = tt

-- ---- rows

-- a row of an instant and a partition that can be written
record IsRead (instant : ℕ) (partition : List ℕ) (row : Row) : Type 0 where
  own : IsOwn row
  at : row.commit ≡ instant
  lies : row.partition ≡ partition

record IsSized (least most : ℕ) (bytes : List ℕ) : Type 0 where
  from : least ≤ length bytes
  to : length bytes ≤ most
  text : IsUtf8 bytes

sized_from : (least most : ℕ) (bytes : List ℕ) → is_sized_text least most bytes ≡ true → IsSized least most bytes
sized_from least most bytes passes =
    let all = and_parts (leb least (length bytes) && leb (length bytes) most) (is_utf8 bytes) passes in
    let both = and_parts (leb least (length bytes)) (leb (length bytes) most) all.0 in
    record { from = leb-true _ _ both.0; to = leb-true _ _ both.1; text = IsUtf8-from_is_utf8 bytes all.1 }

sized_read : (least most : ℕ) (bytes : List ℕ) → IfOk (sized_at least most bytes) (λ x. IsSized least most x.0)
unfolding sized_at
sized_read least most bytes =
    if_then (λ x. Unit {0}) (λ x. IsSized least most x.0) (prefixed_at (number_at big_number 4) bytes) _ (if_any (prefixed_at (number_at big_number 4) bytes))
    (λ text any. if_passes (λ x. IsSized least most x.0) (is_sized_text least most text.0) bytes text (sized_from least most text.0))

row_read : (instant : ℕ) (partition : List ℕ) (told : Bool) (place : ℕ) (bytes : List ℕ) → IfOk (row_at instant partition told place bytes) (λ x. IsRead instant partition x.0)
unfolding row_at
row_read instant partition told place bytes =
    let Q : Row × List ℕ → Type 0 = λ x. IsRead instant partition x.0 in
    if_then (λ x. Unit {0}) Q (place_at told place bytes) _ (if_any (place_at told place bytes))
    (λ seq any. if_then (λ x. IsSized 1 most_key_bytes x.0) Q (sized_at 1 most_key_bytes seq.1) _ (sized_read 1 most_key_bytes seq.1)
    (λ key keyed. if_then (λ x. Unit {0}) Q (signed_at big_number w64 8 key.1) _ (if_any (signed_at big_number w64 8 key.1))
    (λ rank any. if_then (λ x. IsSized 0 most_body_bytes x.0) Q (sized_at 0 most_body_bytes rank.1) _ (sized_read 0 most_body_bytes rank.1)
    (λ body bodied. record {
      own = record { key_from = keyed.from; key_to = keyed.to; body_to = bodied.to; key_text = keyed.text; body_text = bodied.text };
      at = refl;
      lies = refl;
    }))))

rows_read : (instant : ℕ) (partition : List ℕ) (told : Bool) (place count : ℕ) (bytes : List ℕ) → IfOk (rows_at instant partition told place count bytes) (λ x. All (IsRead instant partition) x.0)
unfolding rows_at
rows_read instant partition told place zero bytes = All-nil (IsRead instant partition)
rows_read instant partition told place (suc count) bytes =
    let Q : List Row × List ℕ → Type 0 = λ x. All (IsRead instant partition) x.0 in
    if_then (λ x. IsRead instant partition x.0) Q (row_at instant partition told place bytes) _ (row_read instant partition told place bytes)
    (λ row first. if_then Q Q (rows_at instant partition told (place + 1) count row.1) _ (rows_read instant partition told (place + 1) count row.1)
    (λ rows more. All-cons (IsRead instant partition) row.0 rows.0 first more))

content_read : (instant : ℕ) (partition bytes : List ℕ) → IfOk (content_at instant partition bytes) (All (IsRead instant partition))
unfolding content_at
content_read instant partition bytes =
    let Q : List Row → Type 0 = All (IsRead instant partition) in
    if_then (λ x. Unit {0}) Q (told_at bytes) _ (if_any (told_at bytes))
    (λ told any. if_then (λ x. Unit {0}) Q (number_at big_number 4 told.1) _ (if_any (number_at big_number 4 told.1))
    (λ count any. if_then (λ x. All (IsRead instant partition) x.0) Q (rows_at instant partition told.0 0 count.0 count.1) _ (rows_read instant partition told.0 0 count.0 count.1)
    (λ rows all. if_passes Q (eqb (length rows.1) 0) rows.1 rows.0 (λ passes. all))))

offset_keeps : {A : Type 0} (P : A → Type 0) (total : ℕ) (r : Result A FieldError) → IfOk r P → IfOk (with_offset total r) P
offset_keeps P total (Ok x) holds = holds
offset_keeps P total (Err error) holds = tt

rows_are_read : (place : DataPlace) (content : List ℕ) → IfOk (rows_in place content) (All (IsRead place.instant place.partition))
rows_are_read place content =
    offset_keeps (All (IsRead place.instant place.partition)) (length content) (content_at place.instant place.partition content) (content_read place.instant place.partition content)

-- ---- the laws

pub own_rows : (place : DataPlace) (content : List ℕ) → IfOk (rows_in place content) (All IsOwn)
own_rows place content =
    let Read : Row → Type 0 = IsRead place.instant place.partition in
    IfOk-weaker (rows_in place content) (All Read) (All IsOwn) (λ rows all. All-weaker Read IsOwn (λ row read. read.own) rows all) (rows_are_read place content)

pub placed_rows : (place : DataPlace) (content : List ℕ) → IfOk (rows_in place content) (AreRowsOf place.instant place.partition)
placed_rows place content =
    let Read : Row → Type 0 = IsRead place.instant place.partition in
    let Placed : Row → Type 0 = λ row. (row.commit ≡ place.instant) × (row.partition ≡ place.partition) in
    IfOk-weaker (rows_in place content) (All Read) (All Placed) (λ rows all. All-weaker Read Placed (λ row read. (read.at, read.lies)) rows all) (rows_are_read place content)

only_own : (test : Bool) (own bytes : List ℕ) → (if test then Some own else None) ≡ Some bytes → (test ≡ true) × (own ≡ bytes)
only_own true own bytes said = (refl, cc)
only_own false own bytes said = absurd cc

-- bytes in a cell are as many as they may be
sized_said : (least most : ℕ) (cell : Value) (bytes : List ℕ) → sized_of least most cell ≡ Some bytes → IsSized least most bytes
unfolding sized_of
sized_said least most (value.Bytes own) bytes said =
    let found = only_own (is_sized_text least most own) own bytes said in
    subst (IsSized least most) found.1 (sized_from least most own found.0)
sized_said least most _ bytes said = absurd cc

parts_own : (partition : List ℕ) (commit seq : Option ℕ) (key : Option (List ℕ)) (rank : Option ℤ) (body : Option (List ℕ))
    → ((bytes : List ℕ) → key ≡ Some bytes → IsSized 1 most_key_bytes bytes) → ((bytes : List ℕ) → body ≡ Some bytes → IsSized 0 most_body_bytes bytes)
    → IfOk (row_of_cells partition commit seq key rank body) (λ row. IsOwn row × (row.partition ≡ partition))
unfolding row_of_cells
parts_own partition None seq key rank body keyed bodied = tt
parts_own partition (Some commit) None key rank body keyed bodied = tt
parts_own partition (Some commit) (Some seq) None rank body keyed bodied = tt
parts_own partition (Some commit) (Some seq) (Some key) None body keyed bodied = tt
parts_own partition (Some commit) (Some seq) (Some key) (Some rank) None keyed bodied = tt
parts_own partition (Some commit) (Some seq) (Some key) (Some rank) (Some body) keyed bodied =
    let k = keyed key refl in
    let b = bodied body refl in
    (record { key_from = k.from; key_to = k.to; body_to = b.to; key_text = k.text; body_text = b.text }, refl)

pub own_in_bases : (partition : List ℕ) (cells : List Value) → IfOk (row_in partition cells) (λ row. IsOwn row × (row.partition ≡ partition))
unfolding row_in
own_in_bases partition (file ∷ commit ∷ seq ∷ key ∷ rank ∷ body ∷ []) =
    parts_own partition (time_of commit) (place_of seq) (sized_of 1 most_key_bytes key) (rank_of rank) (sized_of 0 most_body_bytes body)
    (sized_said 1 most_key_bytes key) (sized_said 0 most_body_bytes body)
own_in_bases partition [] = tt
own_in_bases partition (a ∷ []) = tt
own_in_bases partition (a ∷ b ∷ []) = tt
own_in_bases partition (a ∷ b ∷ c ∷ []) = tt
own_in_bases partition (a ∷ b ∷ c ∷ d ∷ []) = tt
own_in_bases partition (a ∷ b ∷ c ∷ d ∷ e ∷ []) = tt
own_in_bases partition (a ∷ b ∷ c ∷ d ∷ e ∷ f ∷ g ∷ more) = tt

pub columns_known : All (λ column. IsTrue (has_known_type column)) the_columns
columns_known = All-from_recursion (λ column. IsTrue (has_known_type column)) the_columns (refl, (refl, (refl, (refl, (refl, (refl, tt))))))

pub file_first : 0 < length the_columns
file_first = omega arith

file_is_passed_over : (partition : List ℕ) (file other : Value) (after : List Value) → row_in partition (file ∷ after) ≡ row_in partition (other ∷ after)
unfolding row_in
file_is_passed_over partition file other [] = refl
file_is_passed_over partition file other (a ∷ []) = refl
file_is_passed_over partition file other (a ∷ b ∷ []) = refl
file_is_passed_over partition file other (a ∷ b ∷ c ∷ []) = refl
file_is_passed_over partition file other (a ∷ b ∷ c ∷ d ∷ []) = refl
file_is_passed_over partition file other (a ∷ b ∷ c ∷ d ∷ e ∷ []) = refl
file_is_passed_over partition file other (a ∷ b ∷ c ∷ d ∷ e ∷ f ∷ more) = refl

pub any_file : (partition file other : List ℕ) (before after : List Value) → length before ≡ 0 → length file ≤ 65536 → length other ≤ 65536
    → row_in partition (before ++ value.Text file ∷ after) ≡ row_in partition (before ++ value.Text other ∷ after)
any_file partition file other [] after first short other_short = file_is_passed_over partition (value.Text file) (value.Text other) after
any_file partition file other (b ∷ before) after first short other_short = absurd (omega arith)
