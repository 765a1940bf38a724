-- What the writer's tokens for rows print.
use Rattle.std.proofs.Common.{◌≡◌, ℕ, ◌+◌, ◌<◌, ◌≤◌, length, drop, get_or, List, [], ◌∷◌, ◌++◌, codes, map, refl, sym, ap, ◌∙◌, append_assoc, IsUtf8, take, Result, Ok, Err, OnOk}
use Rattle.std.proofs.Math.Seq.{take-append_seam}
use Rattle.std.proofs.lemmas.Bool.{false_from_ne_true}
use Rattle.std.proofs.lemmas.List.{drop_more, drop_all}
use Rattle.std.proofs.lemmas.Str.{IsUtf8-from_is_utf8, is_utf8-from_IsUtf8}
use Rattle.std.specs.Str.{is_utf8}
use Rattle.json.specs.Token.{Token, begin_object, end_object, begin_array, end_array, key, string, number}
use Rattle.json.specs.Print.{print}
use Rattle.json.specs.Tree.{json_tokens, items_tokens}
use Rattle.hudi_base.specs.InstantTime.{time_text}
use Rattle.payload_merge.specs.declared.row.Row.{Row}
use Rattle.serde_json.specs.Data.{array}
use Rattle.serde_json.specs.Find.{of_integer}
use Rattle.serde_json.specs.View.{items_of}
use Rattle.serde_json.specs.Written.{outline, items_outline, number_text}
use Rattle.serde_json.proofs.Texts.{print-outline}
use Rattle.job_script.specs.Putting.{Puts}
use Rattle.job_script.specs.Texts.{row_data, rows_text, seqno, shown}

pub shown_text : (bytes : List ℕ) → IsUtf8 bytes → shown bytes ≡ bytes
unfolding shown
shown_text bytes utf8 = rw (is_utf8-from_IsUtf8 bytes utf8) refl

pub shown_none : (bytes : List ℕ) → ¬ (IsUtf8 bytes) → shown bytes ≡ []
unfolding shown
shown_none bytes none = rw (false_from_ne_true (is_utf8 bytes) (λ passes. none (IsUtf8-from_is_utf8 bytes passes))) refl

pub ruleset shown_bytes = (shown_text, shown_none)

-- a row's tokens, written one after another
pub row_written : (row : Row) (before : List Token) {seqno_text time body key_text : List ℕ} {opened with_seqno with_time with_body with_key with_rank after : List Token}
    → seqno_text ≡ seqno row
    → time ≡ time_text row.commit
    → body ≡ shown row.body
    → key_text ≡ shown row.key
    → opened ≡ before ++ begin_object ∷ []
    → with_seqno ≡ opened ++ key (codes "_hoodie_commit_seqno") ∷ string seqno_text ∷ []
    → with_time ≡ with_seqno ++ key (codes "_hoodie_commit_time") ∷ string time ∷ []
    → with_body ≡ with_time ++ key (codes "body") ∷ string body ∷ []
    → with_key ≡ with_body ++ key (codes "key") ∷ string key_text ∷ []
    → with_rank ≡ with_key ++ key (codes "rank") ∷ number (number_text (of_integer row.rank)) ∷ []
    → after ≡ with_rank ++ end_object ∷ []
    → after ≡ before ++ json_tokens (outline (row_data row))
row_written row before seqno_is time_is body_is key_is opens adds_seqno adds_time adds_body adds_key adds_rank closes =
    rw (closes, adds_rank, adds_key, adds_body, adds_time, adds_seqno, opens, seqno_is, time_is, body_is, key_is) (simp append_assoc)

-- the tokens of the rows that are left, with the closing bracket
unfoldable pub rest_tokens : List Row → List Token
rest_tokens rows = items_tokens (items_outline (items_of (map row_data rows)))

pub json_tokens-rows : (rows : List Row) → json_tokens (outline (array (items_of (map row_data rows)))) ≡ begin_array ∷ rest_tokens rows
unfolding rest_tokens
json_tokens-rows rows = refl

rest_tokens-cons : (row : Row) (rows : List Row) → rest_tokens (row ∷ rows) ≡ json_tokens (outline (row_data row)) ++ rest_tokens rows
unfolding rest_tokens
rest_tokens-cons row rows = refl

rest_tokens-nil : rest_tokens [] ≡ end_array ∷ []
unfolding rest_tokens
rest_tokens-nil = refl

-- one row more
pub rest_tokens-more : (rows : List Row) (i : ℕ) (row : Row) → i < length rows → row ≡ get_or rows i row
    → rest_tokens (drop i rows) ≡ json_tokens (outline (row_data row)) ++ rest_tokens (drop (i + 1) rows)
rest_tokens-more rows i row within is =
    ap (λ left. rest_tokens left) (drop_more rows i row within)
    ∙ ap (λ one. rest_tokens (one ∷ drop (i + 1) rows)) (sym is)
    ∙ rest_tokens-cons row (drop (i + 1) rows)

-- no row is left
pub rest_tokens-end : (rows : List Row) (i : ℕ) → length rows ≤ i → rest_tokens (drop i rows) ≡ end_array ∷ []
rest_tokens-end rows i past = ap (λ left. rest_tokens left) (drop_all i rows past) ∙ rest_tokens-nil

-- what the tokens of rows print
pub print-rows : (rows : List Row) → print ([] ++ json_tokens (outline (array (items_of (map row_data rows))))) ≡ rows_text rows
unfolding rows_text
print-rows rows = print-outline (array (items_of (map row_data rows)))

-- rows that were written behind what stood there
pub rows_put : {E : Type 0} (r : Result (Unit {0}) E) (old new : List ℕ) (tokens : List Token) (rows : List Row) → new ≡ old ++ print tokens
    → OnOk r (tokens ≡ [] ++ json_tokens (outline (array (items_of (map row_data rows))))) → Puts r old new (rows_text rows)
rows_put (Ok _) old new tokens rows is written = is ∙ ap (λ ts. old ++ print ts) written ∙ ap (λ text. old ++ text) (print-rows rows)
rows_put (Err _) old new tokens rows is written = ap (take (length old)) is ∙ take-append_seam old (print tokens)

pub ruleset rows_steps = (json_tokens-rows, rest_tokens-end, print-rows)
