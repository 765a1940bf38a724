-- A script, one line after another.
use Rattle.std.proofs.Common.{◌≡◌, ℕ, suc, ◌+◌, ◌<◌, ◌≤◌, List, [], ◌∷◌, ◌++◌, length, get_or, drop, Option, Some, None, option_map, Result, Ok, Err, refl, sym, ap, ◌∙◌, append_assoc, add-one, drop-cons, IsUtf8, Bool, true, false, ◌&&◌, leb}
use Rattle.std.proofs.lemmas.List.{append-nil, drop_all}
use Rattle.std.proofs.lemmas.Bool.{false_from_ne_true, le-leb}
use Rattle.std.proofs.lemmas.Str.{IsUtf8-from_is_utf8, is_utf8-from_IsUtf8}
use Rattle.std.specs.Str.{is_utf8}
use Rattle.serde_json.specs.Data.{Data, Items, no_items, item}
use Rattle.serde_json.specs.Events.{items_len}
use Rattle.serde_json.specs.Read.{read}
use Rattle.serde_json.specs.View.{view, items_view}
use Rattle.serde_json.specs.declared.value.Value.{Value}
use Rattle.job_script.specs.Script.{is_sized, json_of, most_body_bytes, most_key_bytes, row_of, rows_of, with_job}
use Rattle.job_script.specs.declared.script.InputRow.{InputRow}
use Rattle.job_script.specs.declared.script.ScriptJob.{ScriptJob}

-- more rows before rows, if there are any
abbrev pub with_rows : List InputRow → Option (List InputRow) → Option (List InputRow)
with_rows front rows = option_map (λ more. front ++ more) rows

-- more jobs before what is left
abbrev pub with_jobs : List ScriptJob → Result (List ScriptJob) ℕ → Result (List ScriptJob) ℕ
with_jobs front (Ok jobs) = Ok (front ++ jobs)
with_jobs front (Err bad) = Err bad

pub with_jobs-one : (front : List ScriptJob) (job : ScriptJob) (rest : Result (List ScriptJob) ℕ) → with_jobs (front ++ job ∷ []) rest ≡ with_jobs front (with_job job rest)
with_jobs-one front job (Ok jobs) = ap Ok (append_assoc front (job ∷ []) jobs)
with_jobs-one front job (Err bad) = refl

pub with_jobs-none : (rest : Result (List ScriptJob) ℕ) → with_jobs [] rest ≡ rest
with_jobs-none (Ok jobs) = refl
with_jobs-none (Err bad) = refl

with_rows-cons : (front : List InputRow) (row : InputRow) (rows : Option (List InputRow)) → with_rows (front ++ row ∷ []) rows ≡ with_rows front (option_map (λ more. row ∷ more) rows)
with_rows-cons front row None = refl
with_rows-cons front row (Some rows) = ap Some (append_assoc front (row ∷ []) rows)

at_place : (values : List Value) (i : ℕ) (d : Value) → i < length values → drop i values ≡ get_or values i d ∷ drop (i + 1) values
at_place values i d h = rw (add-one, drop-cons values i d) refl

rows_of-row : (value : Data) (row : InputRow) (more : Items) → row_of value ≡ Some row → rows_of (item value more) ≡ option_map (λ rows. row ∷ rows) (rows_of more)
unfolding rows_of
rows_of-row value row more is = rw is refl

rows_of-none : (value : Data) (more : Items) → row_of value ≡ None → rows_of (item value more) ≡ None
unfolding rows_of
rows_of-none value more is = rw is refl

-- one more value that is a row
pub rows_more : (values : List Value) (i : ℕ) (d : Value) (front : List InputRow) (row : InputRow) → i < length values → row_of (view (get_or values i d)) ≡ Some row
    → with_rows (front ++ row ∷ []) (rows_of (items_view (drop (i + 1) values))) ≡ with_rows front (rows_of (items_view (drop i values)))
rows_more values i d front row h is =
    with_rows-cons front row _
    ∙ ap (with_rows front) (sym (ap (λ vs. rows_of (items_view vs)) (at_place values i d h) ∙ rows_of-row _ row _ is))

-- one that is none
pub rows_stop : (values : List Value) (i : ℕ) (d : Value) (front : List InputRow) → i < length values → row_of (view (get_or values i d)) ≡ None
    → with_rows front (rows_of (items_view (drop i values))) ≡ None
rows_stop values i d front h is =
    ap (with_rows front) (ap (λ vs. rows_of (items_view vs)) (at_place values i d h) ∙ rows_of-none _ _ is)

rows_of-no_items : rows_of no_items ≡ Some []
unfolding rows_of
rows_of-no_items = refl

with_rows-none : (rows : Option (List InputRow)) → with_rows [] rows ≡ rows
with_rows-none None = refl
with_rows-none (Some rows) = refl

-- nothing before them, and nothing behind them
pub rows_start : (values : List Value) → with_rows [] (rows_of (items_view (drop 0 values))) ≡ rows_of (items_view values)
rows_start values = with_rows-none _

pub rows_end : (values : List Value) (i : ℕ) (front : List InputRow) → length values ≤ i → with_rows front (rows_of (items_view (drop i values))) ≡ Some front
rows_end values i front h =
    let past : drop i values ≡ [] = drop_all i values h in
    ap (λ vs. with_rows front (rows_of (items_view vs))) past ∙ ap (with_rows front) rows_of-no_items ∙ ap Some (append-nil front)

pub items_len-items_view : (values : List Value) → items_len (items_view values) ≡ length values
items_len-items_view [] = refl
items_len-items_view (value ∷ values) = ap suc (items_len-items_view values)

pub json_of_text : (line : List ℕ) → IsUtf8 line → json_of line ≡ read line
unfolding json_of
json_of_text line utf8 = rw (is_utf8-from_IsUtf8 line utf8) refl

pub json_of_none : (line : List ℕ) → ¬ (IsUtf8 line) → json_of line ≡ None
unfolding json_of
json_of_none line none = rw (false_from_ne_true (is_utf8 line) (λ passes. none (IsUtf8-from_is_utf8 line passes))) refl

pub ruleset reading = (rows_more, rows_stop, rows_start, rows_end, items_len-items_view, json_of_text, json_of_none, with_jobs-one, with_jobs-none)

-- texts by their type need no test
pub sized_texts : (key body : List ℕ) → 1 ≤ length key → length key ≤ most_key_bytes → IsUtf8 key → IsUtf8 body → leb (length body) most_body_bytes ≡ is_sized key body
sized_texts key body some few is is_body =
    sym (rw (le-leb 1 (length key) some, le-leb (length key) most_key_bytes few, is_utf8-from_IsUtf8 key is, is_utf8-from_IsUtf8 body is_body) (two_true (leb (length body) most_body_bytes)))
  where
    two_true : (b : Bool) → (b && true && true) ≡ b
    two_true true = refl
    two_true false = refl
