-- Texts in UTF-8.
use Rattle.std.proofs.Common.{◌≡◌, ℕ, Bool, true, false, ◌&&◌, leb, List, length, Result, Ok, Err, sym, ap, ◌∙◌}
use Rattle.std.specs.Bool.{OnTrue}
use Rattle.std.proofs.lemmas.Bool.{and_parts, leb-true}
use Rattle.payload_merge.specs.declared.row.Row.{Row}
use Rattle.plain_rows.specs.OwnRows.{IsOwn, is_sized_text, most_body_bytes, most_key_bytes}
use Rattle.std.specs.Prelude.{◌<◌, All, MatchResult, IsUtf8, is_ok}
use Rattle.std.specs.Str.{is_utf8}
use Rattle.std.proofs.lemmas.Bool.{false_from_ne_true}
use Rattle.std.proofs.lemmas.Str.{IsUtf8-from_is_utf8, is_utf8-from_IsUtf8, IsUtf8-from_ascii}
use Rattle.std.proofs.lemmas.Str.Ascii.{IsAscii-from_all}

-- a function that tells texts in UTF-8 from others gives what the test gives
pub is_utf8_told : {X Y : Type 0} (text : List ℕ) (P : X → Type 0) (Q : Y → Type 0) (r : Result X Y) → MatchResult r (λ x. P x × IsUtf8 text) (λ y. (IsUtf8 text → ⊥) × Q y) → is_ok r ≡ is_utf8 text
is_utf8_told text P Q (Ok x) told = sym (is_utf8-from_IsUtf8 text told.1)
is_utf8_told text P Q (Err y) told = sym (false_from_ne_true (is_utf8 text) (λ passes. told.0 (IsUtf8-from_is_utf8 text passes)))

-- ASCII is a text
pub ascii_is_text : (text : List ℕ) → All (λ byte. byte < 128) text → is_utf8 text ≡ true
ascii_is_text text all = is_utf8-from_IsUtf8 text (IsUtf8-from_ascii text (IsAscii-from_all text all))

-- what the test of a text says
record IsText (least most : ℕ) (text : List ℕ) : Type 0 where
  from : leb least (length text) ≡ true
  to : leb (length text) most ≡ true
  is : IsUtf8 text

parts_of : (least most : ℕ) (text : List ℕ) → is_sized_text least most text ≡ true → IsText least most text
parts_of least most text passes =
    let all = and_parts (leb least (length text) && leb (length text) most) (is_utf8 text) passes in
    let both = and_parts (leb least (length text)) (leb (length text) most) all.0 in
    record { from = both.0; to = both.1; is = IsUtf8-from_is_utf8 text all.1 }

-- a row whose key and body pass is the table's own
pub own_if_sized : (row : Row) (key body : List ℕ) (passes : Bool) → key ≡ row.key → body ≡ row.body → is_sized_text 1 most_key_bytes key ≡ true → passes ≡ is_sized_text 0 most_body_bytes body → OnTrue passes (IsOwn row)
own_if_sized row key body false e f keyed bodied = tt
own_if_sized row key body true e f keyed bodied =
    let k = parts_of 1 most_key_bytes row.key (ap (is_sized_text 1 most_key_bytes) (sym e) ∙ keyed) in
    let b = parts_of 0 most_body_bytes row.body (ap (is_sized_text 0 most_body_bytes) (sym f) ∙ sym bodied) in
    record { key_from = leb-true _ _ k.from; key_to = leb-true _ _ k.to; body_to = leb-true _ _ b.to; key_text = k.is; body_text = b.is }
