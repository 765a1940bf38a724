-- The language of scripts: upserts and snapshots in any order, each a line of JSON. This project's own.
use Rattle.std.specs.Prelude.{◌≡◌, ℕ, ◌+◌, ◌&&◌, ◌==◌, nat_le, Bool, false, if◌then◌else◌, ℤ, List, [], ◌∷◌, length, codes, Option, Some, None, option_map, option_and_then, Result, Ok, Err}
use Rattle.std.specs.Str.{bytes_eq, is_utf8}
use Rattle.serde_json.specs.Data.{Data, object, Items, no_items, item}
use Rattle.serde_json.specs.Events.{items_len, members_len}
use Rattle.serde_json.specs.Find.{get, as_str, as_number, as_i64, as_array}
use Rattle.serde_json.specs.Read.{read}
use Rattle.job_script.specs.declared.script.InputRow.{InputRow}
use Rattle.job_script.specs.declared.script.Line.{Line}
use Rattle.job_script.specs.declared.script.Line.TheVariants.{Upsert, Snapshot}
use Rattle.job_script.specs.declared.script.ScriptJob.{ScriptJob}
use Rattle.job_script.specs.declared.script.ScriptError.{ScriptError}
use Rattle.job_script.specs.declared.script.ScriptError.TheVariants.{Memory, BadLine}

-- ---- limits

abbrev pub most_script_bytes : ℕ
most_script_bytes = 67_108_864

abbrev pub most_rows : ℕ
most_rows = 100_000

abbrev pub most_key_bytes : ℕ
most_key_bytes = 1000

abbrev pub most_body_bytes : ℕ
most_body_bytes = 65_536

-- ---- one line

-- the JSON value of a line, which is a text
unfoldable pub json_of : List ℕ → Option Data
json_of line = if is_utf8 line then read line else None

-- an object with so many members
abbrev pub has_members : ℕ → Data → Bool
has_members n (object members) = members_len members == n
has_members n _ = false

-- what the members of an object say
abbrev pub text_at : List ℕ → Data → Option (List ℕ)
text_at name value = option_and_then as_str (get name value)

abbrev pub whole_number_at : List ℕ → Data → Option ℤ
whole_number_at name value = option_and_then as_i64 (option_and_then as_number (get name value))

abbrev pub items_at : List ℕ → Data → Option Items
items_at name value = option_and_then as_array (get name value)

-- a key and a body of a row: texts that are as long as these may be
abbrev pub is_sized : List ℕ → List ℕ → Bool
is_sized key body =
    nat_le 1 (length key) && nat_le (length key) most_key_bytes && nat_le (length body) most_body_bytes
    && is_utf8 key && is_utf8 body

-- a row of these parts
unfoldable pub row_of_parts : Option (List ℕ) → Option ℤ → Option (List ℕ) → Option InputRow
row_of_parts (Some key) (Some rank) (Some body) =
    if is_sized key body then Some (record { key = key; rank = rank; body = body }) else None
row_of_parts _ _ _ = None

-- a row is an object with exactly a key, a rank and a body
unfoldable pub row_of : Data → Option InputRow
row_of json =
    if has_members 3 json
    then row_of_parts (text_at (codes "key") json) (whole_number_at (codes "rank") json) (text_at (codes "body") json)
    else None

-- all of the items as rows
unfoldable pub rows_of : Items → Option (List InputRow)
rows_of no_items = Some []
rows_of (item value more) = option_and_then (λ row. option_map (λ rows. row ∷ rows) (rows_of more)) (row_of value)

-- an upsert has 1 to 100,000 rows
unfoldable pub upsert_of : Option Items → Option Line
upsert_of None = None
upsert_of (Some items) =
    if nat_le 1 (items_len items) && nat_le (items_len items) most_rows
    then option_map Upsert (rows_of items)
    else None

-- the member `job` is this text
abbrev pub is_job : List ℕ → Option (List ℕ) → Bool
is_job job None = false
is_job job (Some text) = bytes_eq text job

-- a snapshot has the member `job` alone, an upsert `job` and `rows`
unfoldable pub line_of : Data → Option Line
line_of value =
    if has_members 1 value && is_job (codes "snapshot") (text_at (codes "job") value) then Some Snapshot
    else (if has_members 2 value && is_job (codes "upsert") (text_at (codes "job") value)
    then upsert_of (items_at (codes "rows") value)
    else None)

-- ---- a script

-- a job before others
abbrev pub with_job : ScriptJob → Result (List ScriptJob) ℕ → Result (List ScriptJob) ℕ
with_job job (Ok jobs) = Ok (job ∷ jobs)
with_job job (Err bad) = Err bad

-- a line, with what the lines behind it are as jobs
abbrev pub begun : ℕ → Option Line → Result (List ScriptJob) ℕ → Result (List ScriptJob) ℕ
begun number None rest = Err number
begun number (Some line) rest = with_job (record { number = number; line = line }) rest

-- The jobs that lines are, the first of which has this number, or the number of the first line outside the language.
-- Upserts and snapshots stand in any order. Empty lines count and are passed over.
unfoldable pub script_of : ℕ → List (List ℕ) → Result (List ScriptJob) ℕ
script_of number [] = Ok []
script_of number (line ∷ more) =
    if length line == 0 then script_of (number + 1) more
    else begun number (option_and_then line_of (json_of line)) (script_of (number + 1) more)

-- reading gave these jobs, or the number of this line, unless memory ran out
abbrev pub Reads : Result (List ScriptJob) ScriptError → Result (List ScriptJob) ℕ → Type 0
Reads (Ok jobs) means = means ≡ Ok jobs
Reads (Err Memory) means = Unit {0}
Reads (Err (BadLine bad)) means = means ≡ Err bad
