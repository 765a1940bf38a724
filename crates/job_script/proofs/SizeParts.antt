-- The jobs of a script are within the limits.
use Rattle.std.proofs.Common.{◌≡◌, ℕ, suc, ◌+◌, Bool, true, false, ◌&&◌, leb, eqb, List, [], ◌∷◌, length, Option, Some, None, option_map, Result, Ok, Err, All, refl, ap, arith, codes}
use Rattle.std.specs.Prelude.{ℤ, IfOk, IfSome, if◌then◌else◌, option_and_then}
use Rattle.std.proofs.lemmas.Bool.{and_parts, leb-true}
use Rattle.std.proofs.lemmas.List.Elements.{All-nil, All-cons}
use Rattle.std.proofs.lemmas.Str.{IsUtf8-from_is_utf8}
use Rattle.std.specs.Str.{is_utf8}
use Rattle.std.proofs.lemmas.Result.{IfOk-at_ok}
use Rattle.serde_json.specs.Data.{Data, Items, no_items, item}
use Rattle.serde_json.specs.Events.{items_len}
use Rattle.job_script.specs.Rows.{HasSizes, IsSized, ScriptsHaveSizes}
use Rattle.job_script.specs.Script.{begun, has_members, is_job, items_at, json_of, line_of, most_body_bytes, most_key_bytes, most_rows, row_of, row_of_parts, rows_of, script_of, text_at, upsert_of, whole_number_at}
use Rattle.job_script.specs.declared.script.InputRow.{InputRow}
use Rattle.job_script.specs.declared.script.Line.{Line}
use Rattle.job_script.specs.declared.script.Line.TheVariants.{Upsert, Snapshot}
use Rattle.job_script.specs.declared.script.ScriptJob.{ScriptJob}

-- ---- steps

if_passes : {A : Type 0} (P : A → Type 0) (test : Bool) (o : Option A) → (test ≡ true → IfSome o P) → IfSome (if test then o else None) P
if_passes P true o holds = holds refl
if_passes P false o holds = tt

if_either : {A : Type 0} (P : A → Type 0) (test : Bool) (o p : Option A) → IfSome o P → IfSome p P → IfSome (if test then o else p) P
if_either P true o p first second = first
if_either P false o p first second = second

if_next : {A B : Type 0} (P : A → Type 0) (Q : B → Type 0) (o : Option A) (f : A → Option B) → IfSome o P → ((x : A) → P x → IfSome (f x) Q) → IfSome (option_and_then f o) Q
if_next P Q (Some x) f first next = next x first
if_next P Q None f first next = tt

if_mapped : {A B : Type 0} (P : A → Type 0) (Q : B → Type 0) (o : Option A) (f : A → B) → IfSome o P → ((x : A) → P x → Q (f x)) → IfSome (option_map f o) Q
if_mapped P Q (Some x) f first next = next x first
if_mapped P Q None f first next = tt

if_any : {A : Type 0} (o : Option A) → IfSome o (λ x. Unit {0})
if_any (Some x) = tt
if_any None = tt

-- ---- rows

parts_sized : (key : Option (List ℕ)) (rank : Option ℤ) (body : Option (List ℕ)) → IfSome (row_of_parts key rank body) IsSized
unfolding row_of_parts
parts_sized (Some key) (Some rank) (Some body) =
    let from = leb 1 (length key) in
    let to = leb (length key) most_key_bytes in
    let body_to = leb (length body) most_body_bytes in
    if_passes IsSized (from && to && body_to && is_utf8 key && is_utf8 body) (Some (record { key = key; rank = rank; body = body }))
    (λ passes.
    let texts = and_parts (from && to && body_to && is_utf8 key) (is_utf8 body) passes in
    let first = and_parts (from && to && body_to) (is_utf8 key) texts.0 in
    let both = and_parts (from && to) body_to first.0 in
    let bounds = and_parts from to both.0 in
    record {
      key_from = leb-true _ _ bounds.0;
      key_to = leb-true _ _ bounds.1;
      body_to = leb-true _ _ both.1;
      key_text = IsUtf8-from_is_utf8 key first.1;
      body_text = IsUtf8-from_is_utf8 body texts.1;
    })
parts_sized (Some key) (Some rank) None = tt
parts_sized (Some key) None body = tt
parts_sized None rank body = tt

row_sized : (value : Data) → IfSome (row_of value) IsSized
unfolding row_of
row_sized value =
    let row = row_of_parts (text_at (codes "key") value) (whole_number_at (codes "rank") value) (text_at (codes "body") value) in
    if_passes IsSized (has_members 3 value) row (λ passes. parts_sized (text_at (codes "key") value) (whole_number_at (codes "rank") value) (text_at (codes "body") value))

record AreRead (items : Items) (rows : List InputRow) : Type 0 where
  count : length rows ≡ items_len items
  each : All IsSized rows

rows_sized : (items : Items) → IfSome (rows_of items) (AreRead items)
unfolding rows_of
rows_sized no_items = record { count = refl; each = All-nil IsSized }
rows_sized (item value more) =
    if_next IsSized (AreRead (item value more)) (row_of value) (λ row. option_map (λ rows. row ∷ rows) (rows_of more)) (row_sized value)
    (λ row first. if_mapped (AreRead more) (AreRead (item value more)) (rows_of more) (λ rows. row ∷ rows) (rows_sized more)
    (λ rows rest. record { count = ap suc rest.count; each = All-cons IsSized row rows first rest.each }))

-- ---- lines

abbrev LineSized : Line → Type 0
LineSized line = HasSizes (record { number = 0; line = line })

upsert_sized : (items : Option Items) → IfSome (upsert_of items) LineSized
unfolding upsert_of
upsert_sized None = tt
upsert_sized (Some items) =
    if_passes LineSized (leb 1 (items_len items) && leb (items_len items) most_rows) (option_map Upsert (rows_of items))
    (λ passes.
    let both = and_parts (leb 1 (items_len items)) (leb (items_len items) most_rows) passes in
    let from = leb-true 1 (items_len items) both.0 in
    let to = leb-true (items_len items) most_rows both.1 in
    if_mapped (AreRead items) LineSized (rows_of items) Upsert (rows_sized items)
    (λ rows read. record { some = omega (arith, from, read.count); few = omega (arith, to, read.count); each = read.each }))

line_sized : (value : Data) → IfSome (line_of value) LineSized
unfolding line_of
line_sized value =
    let job = text_at (codes "job") value in
    let upsert = upsert_of (items_at (codes "rows") value) in
    if_either LineSized (has_members 1 value && is_job (codes "snapshot") job) (Some Snapshot) (if has_members 2 value && is_job (codes "upsert") job then upsert else None) tt
    (if_passes LineSized (has_members 2 value && is_job (codes "upsert") job) upsert (λ passes. upsert_sized (items_at (codes "rows") value)))

-- ---- scripts

begun_sized : (number : ℕ) (line : Option Line) (rest : Result (List ScriptJob) ℕ) → IfSome line LineSized → IfOk rest (All HasSizes) → IfOk (begun number line rest) (All HasSizes)
begun_sized number None rest first more = tt
begun_sized number (Some (Upsert rows)) (Ok jobs) first more = All-cons HasSizes (record { number = number; line = Upsert rows }) jobs first more
begun_sized number (Some Snapshot) (Ok jobs) first more = All-cons HasSizes (record { number = number; line = Snapshot }) jobs first more
begun_sized number (Some line) (Err bad) first more = tt

either_sized : (test : Bool) (a b : Result (List ScriptJob) ℕ) → IfOk a (All HasSizes) → IfOk b (All HasSizes) → IfOk (if test then a else b) (All HasSizes)
either_sized true a b first second = first
either_sized false a b first second = second

script_sized : (number : ℕ) (lines : List (List ℕ)) → IfOk (script_of number lines) (All HasSizes)
unfolding script_of
script_sized number [] = All-nil HasSizes
script_sized number (line ∷ more) =
    let rest = script_of (number + 1) more in
    let others = script_sized (number + 1) more in
    either_sized (eqb (length line) 0) rest (begun number (option_and_then line_of (json_of line)) rest) others
    (begun_sized number (option_and_then line_of (json_of line)) rest
    (if_next (λ x. Unit {0}) LineSized (json_of line) line_of (if_any (json_of line)) (λ value any. line_sized value)) others)

pub sized : ScriptsHaveSizes
sized number lines jobs is = IfOk-at_ok (All HasSizes) is (script_sized number lines)
