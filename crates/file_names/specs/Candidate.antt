-- How a name is taken apart. Nothing here decides which names there are: a file that was taken from a name is one only
-- if its own name is that name, and only private clauses speak of these definitions. The bytes that a name is split at
-- are `-` (45), `.` (46), `/` (47) and `_` (95).
use Rattle.std.specs.Prelude.{◌≡◌, ℕ, ◌+◌, ◌-◌, ◌*◌, ◌%◌, ◌==◌, nat_lt, if◌then◌else◌, List, [], ◌∷◌, take, drop, slice_index, Option, Some, None, option_map, option_and_then, codes}
use Rattle.std.specs.Str.{bytes_eq}
use Rattle.hudi_base.specs.InstantTime.{first_time, time_of}
use Rattle.hudi_base.specs.declared.file_group.GroupRef.{GroupRef}
use Rattle.table_forms.specs.Decimals.{decimal_of}
use Rattle.table_forms.specs.Pieces.{split_once}
use Rattle.file_names.specs.FileName.{instant_ending, name_of, IsNamed}
use Rattle.file_names.specs.declared.file_name.Action.{Action}
use Rattle.file_names.specs.declared.file_name.Action.TheVariants.{Delta, Compaction, Replace, Clean, Rollback}
use Rattle.file_names.specs.declared.file_name.State.{State}
use Rattle.file_names.specs.declared.file_name.State.TheVariants.{Requested, Inflight, Completed}
use Rattle.file_names.specs.declared.file_name.Token.{Token}
use Rattle.file_names.specs.declared.file_name.FileName.{FileName}
use Rattle.file_names.specs.declared.file_name.FileName.TheVariants.{Instant, Base, Log, Properties}

-- the value of a lower-case hexadecimal digit, and some number below 16 of any other byte
abbrev pub hex_value : ℕ → ℕ
hex_value b = (if nat_lt b 97 then b - 48 else b - 87) % 16

-- four hexadecimal digits from a place on
unfoldable pub hex_number : ℕ → List ℕ → ℕ
hex_number at text =
    hex_value (slice_index text at) * 4096 + hex_value (slice_index text (at + 1)) * 256
    + hex_value (slice_index text (at + 2)) * 16 + hex_value (slice_index text (at + 3))

-- the time of a file id's last part, which is `0` for a group that the table began with
unfoldable pub born_of : List ℕ → Option ℕ
born_of text = if bytes_eq text (48 ∷ []) then Some first_time else time_of text

-- The group of a partition that has this file id: eight digits, a hyphen, the 27 bytes of the tail, a hyphen, and the
-- birth, which comes at 37.
unfoldable pub group_of : List ℕ → List ℕ → Option GroupRef
group_of partition id =
    option_map (λ born. record { partition = partition; lo = hex_number 0 id; hi = hex_number 4 id; born = born }) (born_of (drop 37 id))

-- two numbers around a hyphen, behind `0-`
unfoldable pub token_of : List ℕ → Option Token
token_of text = option_and_then (λ pieces. option_and_then (λ session. option_map (λ attempt. record { session = session; attempt = attempt })
    (decimal_of pieces.1)) (decimal_of pieces.0)) (split_once 45 (drop 2 text))

-- the state that an ending of this action marks
unfoldable pub state_of : Action → List ℕ → Option State
state_of action text =
    if bytes_eq text (instant_ending action Requested) then Some Requested
    else if bytes_eq text (instant_ending action Inflight) then Some Inflight
    else if bytes_eq text (instant_ending action Completed) then Some Completed
    else None

-- the action with the state that was found, else what another action's endings gave
abbrev pub or_else : Action → Option State → Option (Action × State) → Option (Action × State)
or_else action (Some state) more = Some (action, state)
or_else action None more = more

-- the action and the state that an ending marks; no two of them have one ending
unfoldable pub ending_of : List ℕ → Option (Action × State)
ending_of text =
    or_else Delta (state_of Delta text) (or_else Compaction (state_of Compaction text) (or_else Replace (state_of Replace text)
    (or_else Clean (state_of Clean text) (or_else Rollback (state_of Rollback text) None))))

-- A file of the folder `.hoodie`: the properties, or a time of 17 digits and an ending.
unfoldable pub timeline_file : List ℕ → Option FileName
timeline_file rest =
    if bytes_eq rest (codes "hoodie.properties") then Some Properties
    else option_and_then (λ t. option_map (λ ending. Instant t ending.0 ending.1) (ending_of (drop 17 rest))) (time_of (take 17 rest))

-- A base file: its name's three pieces are a group's id, a token, and a time with `.parquet` behind it.
unfoldable pub base_file : List ℕ → List ℕ → List ℕ → List ℕ → Option FileName
base_file partition id middle last =
    option_and_then (λ group. option_and_then (λ token. option_map (λ t. Base group token t) (time_of (take 17 last))) (token_of middle)) (group_of partition id)

-- A log file: its name's three pieces are a group's id, a slice of 17 digits with `.log.` (five bytes) and the version
-- behind it, and a token.
unfoldable pub log_file : List ℕ → List ℕ → List ℕ → List ℕ → Option FileName
log_file partition id middle last =
    option_and_then (λ group. option_and_then (λ slice. option_and_then (λ version. option_map (λ token. Log group slice version token)
    (token_of last)) (decimal_of (drop 22 middle))) (time_of (take 17 middle))) (group_of partition id)

-- three pieces around two underscores
unfoldable pub three_pieces : List ℕ → Option (List ℕ × List ℕ × List ℕ)
three_pieces text = option_and_then (λ first. option_map (λ second. (first.0, second.0, second.1)) (split_once 95 first.1)) (split_once 95 text)

-- A file of a partition. One whose name begins with a dot can only be a log file.
unfoldable pub data_file : List ℕ → List ℕ → Option FileName
data_file partition file =
    if slice_index file 0 == 46
    then option_and_then (λ pieces. log_file partition pieces.0 pieces.1 pieces.2) (three_pieces (drop 1 file))
    else option_and_then (λ pieces. base_file partition pieces.0 pieces.1 pieces.2) (three_pieces file)

-- the only file whose name it may be
unfoldable pub candidate : List ℕ → Option FileName
candidate name =
    if bytes_eq (take 8 name) (codes ".hoodie/") then timeline_file (drop 8 name)
    else option_and_then (λ pieces. data_file pieces.0 pieces.1) (split_once 47 name)

-- what was found is the file whose name it is, if it is one's
abbrev pub IsFound : List ℕ → Option FileName → Type 0
IsFound name found = (table : List ℕ) (file : FileName) → IsNamed file → name ≡ name_of table file → found ≡ Some file
