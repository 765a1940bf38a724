-- The members of rows.
use Rattle.std.proofs.Common.{◌≡◌, ℕ, ◌+◌, ◌<◌, ◌≤◌, ℤ, pos, negsuc, Bool, true, false, ◌||◌, List, [], ◌∷◌, codes, length, get_or, drop, refl, sym, ap, ◌∙◌}
use Rattle.std.specs.Ordering.{nat_cmp, match_ordering}
use Rattle.std.specs.declared.cmp.Ordering.{Ordering}
use Rattle.std.specs.declared.cmp.Ordering.TheVariants.{Less, Equal, Greater}
use Rattle.std.specs.Cmp.Lexicographic.{slice_cmp}
use Rattle.std.proofs.lemmas.List.{drop_more, drop_all}
use Rattle.hudi_base.specs.declared.value.Value.{Value}
use Rattle.hudi_base.specs.declared.value.Value.TheVariants as value
use Rattle.serde_json.specs.Data.{Data, Members, no_members, member, put, object, string}
use Rattle.serde_json.specs.Find.{is_float, of_integer}
use Rattle.serde_json.specs.Written.{compact_text, has_float, members_have_float}
use Rattle.payload_merge.specs.declared.row.Row.{Row}
use Rattle.row_values.specs.declared.flat_field.FlatField.{FlatField}
use Rattle.row_values.specs.declared.row_layout.RowLayout.{RowLayout}
use Rattle.row_codec.specs.JsonOutput.{cell_data, members_with, row_data, row_text}
use Rattle.hudi_base.specs.InstantTime.{time_text}
use Rattle.row_values.specs.RowCells.{seqno_text}

-- one member more
pub members_more : (fields : List FlatField) (cells : List Value) (i : ℕ) (field : FlatField) (cell : Value) (members : Members) → i < length fields → i < length cells
    → field ≡ get_or fields i field → cell ≡ get_or cells i cell
    → members_with (drop i fields) (drop i cells) members ≡ members_with (drop (i + 1) fields) (drop (i + 1) cells) (put field.name (cell_data cell) members)
unfolding members_with
members_more fields cells i field cell members below within f-is c-is =
    ap (λ (fs : List FlatField). members_with fs (drop i cells) members) (drop_more fields i field below ∙ ap (λ (f : FlatField). f ∷ drop (i + 1) fields) (sym f-is))
    ∙ ap (λ (cs : List Value). members_with (field ∷ drop (i + 1) fields) cs members) (drop_more cells i cell within ∙ ap (λ (c : Value). c ∷ drop (i + 1) cells) (sym c-is))

pub members_end : (fields : List FlatField) (cells : List Value) (i : ℕ) (members : Members) → length fields ≤ i → members_with (drop i fields) (drop i cells) members ≡ members
unfolding members_with
members_end fields cells i members over = ap (λ (fs : List FlatField). members_with fs (drop i cells) members) (drop_all i fields over)

-- ---- no number is a float

cell_no_float : (cell : Value) → has_float (cell_data cell) ≡ false
cell_no_float (value.Boolean truth) = refl
cell_no_float (value.Int z) = number z
  where
    number : (z : ℤ) → is_float (of_integer z) ≡ false
    number (pos n) = refl
    number (negsuc n) = refl
cell_no_float (value.Long z) = number z
  where
    number : (z : ℤ) → is_float (of_integer z) ≡ false
    number (pos n) = refl
    number (negsuc n) = refl
cell_no_float (value.Bytes content) = refl
cell_no_float (value.Text text) = refl
cell_no_float _ = refl

either : (a b : Bool) → a ≡ false → b ≡ false → (a || b) ≡ false
either a b p q = rw (p, q) refl

left_part : (a b : Bool) → (a || b) ≡ false → (a ≡ false) × (b ≡ false)
left_part true b e = absurd cc
left_part false b e = (refl, e)

placed : (name l : List ℕ) (d e : Data) (more after : Members) → has_float d ≡ false → (has_float e ≡ false) × (members_have_float more ≡ false) → members_have_float after ≡ false
    → (o : Ordering) → members_have_float (match_ordering o (member name d (member l e more)) (member l d more) (member l e after)) ≡ false
placed name l d e more after own others later Less = either (has_float d) (has_float e || members_have_float more) own (either (has_float e) (members_have_float more) others.0 others.1)
placed name l d e more after own others later Equal = either (has_float d) (members_have_float more) own others.1
placed name l d e more after own others later Greater = either (has_float e) (members_have_float after) others.0 later

put_no_float : (name : List ℕ) (d : Data) (members : Members) → has_float d ≡ false → members_have_float members ≡ false → members_have_float (put name d members) ≡ false
put_no_float name d no_members own others = either (has_float d) false own refl
put_no_float name d (member l e more) own others =
    let parts = left_part (has_float e) (members_have_float more) others in
    placed name l d e more (put name d more) own parts (put_no_float name d more own parts.1) (slice_cmp nat_cmp name l)

members_no_float : (fields : List FlatField) (cells : List Value) (members : Members) → members_have_float members ≡ false → members_have_float (members_with fields cells members) ≡ false
unfolding members_with
members_no_float [] cells members none = none
members_no_float (f ∷ fields) [] members none = none
members_no_float (f ∷ fields) (c ∷ cells) members none = members_no_float fields cells (put f.name (cell_data c) members) (put_no_float f.name (cell_data c) members (cell_no_float c) none)

pub row_no_float : (layout : RowLayout) (row : Row) (cells : List Value) → has_float (row_data layout row cells) ≡ false
row_no_float layout row cells = members_no_float layout.fields cells _ refl

-- ---- a row's members and its text

pub members_told : (layout : RowLayout) (row : Row) (cells : List Value) (none one two all : Members) (seqno time : Data) → none ≡ no_members → seqno ≡ string (seqno_text row.commit row.seq)
    → one ≡ put (codes "_hoodie_commit_seqno") seqno none → time ≡ string (time_text row.commit) → two ≡ put (codes "_hoodie_commit_time") time one → all ≡ members_with layout.fields cells two
    → object all ≡ row_data layout row cells
members_told layout row cells none one two all seqno time none-is seqno-is one-is time-is two-is all-is =
    let first : one ≡ put (codes "_hoodie_commit_seqno") (string (seqno_text row.commit row.seq)) no_members =
    one-is ∙ ap (λ (d : Data). put (codes "_hoodie_commit_seqno") d none) seqno-is ∙ ap (λ (ms : Members). put (codes "_hoodie_commit_seqno") (string (seqno_text row.commit row.seq)) ms) none-is in
    let second : two ≡ put (codes "_hoodie_commit_time") (string (time_text row.commit)) (put (codes "_hoodie_commit_seqno") (string (seqno_text row.commit row.seq)) no_members) =
    two-is ∙ ap (λ (d : Data). put (codes "_hoodie_commit_time") d one) time-is ∙ ap (λ (ms : Members). put (codes "_hoodie_commit_time") (string (time_text row.commit)) ms) first in
    ap object all-is ∙ ap (λ (ms : Members). object (members_with layout.fields cells ms)) second

pub text_told : (layout : RowLayout) (row : Row) (cells : List Value) (d : Data) (text : List ℕ) → d ≡ row_data layout row cells → (has_float d ≡ false → text ≡ compact_text d) → text ≡ row_text layout row cells
unfolding row_text
text_told layout row cells d text same told = told (ap has_float same ∙ row_no_float layout row cells) ∙ ap compact_text same
