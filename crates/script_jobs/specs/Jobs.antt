-- The job of a line, which is a JSON object. This project's own.
use Rattle.std.specs.Prelude.{ℕ, ◌&&◌, nat_le, if◌then◌else◌, List, [], ◌∷◌, Option, Some, None, is_none, option_map, option_and_then, Result, Ok, Err, codes}
use Rattle.std.specs.Str.{bytes_eq}
use Rattle.serde_json.specs.Data.{Data, Items}
use Rattle.serde_json.specs.Events.{items_len}
use Rattle.serde_json.specs.Find.{get, as_str, as_number, as_u64}
use Rattle.table_forms.specs.JsonObjects.{text_at, items_at}
use Rattle.hudi_base.specs.InstantTime.{time_of}
use Rattle.table_props.specs.PropsTexts.{Told, only_if}
use Rattle.script_jobs.specs.declared.kind.JobKind.{JobKind}
use Rattle.script_jobs.specs.declared.kind.JobKind.TheVariants.{Init, Upsert, Delete, Snapshot}
use Rattle.script_jobs.specs.declared.script.LineCause.{LineCause}
use Rattle.script_jobs.specs.declared.script.LineCause.TheVariants.{Object}
use Rattle.table_jobs.specs.declared.del_key.DelKey.{DelKey}
use Rattle.script_jobs.specs.Causes.{◌>>=◌, wanted, with_only}
use Rattle.script_jobs.specs.DeletedKeys.{keys_of}
use Rattle.script_jobs.specs.Inits.{init_of}
use Rattle.script_jobs.specs.Rows.{are_rows, is_item_count, is_object, rows_in}

-- what a job says: the table that it makes, rows that are JSON still, keys to delete, or a time to look at
pub data Said : Type 0 where
  init : Told → Said
  upsert : Items → Said
  delete : List DelKey → Said
  snapshot : Option ℕ → Said

-- ---- kinds

-- the job of this name
unfoldable pub kind_of : List ℕ → Option JobKind
kind_of name =
    if bytes_eq name (codes "init") then Some Init
    else (if bytes_eq name (codes "upsert") then Some Upsert
    else (if bytes_eq name (codes "delete") then Some Delete
    else (if bytes_eq name (codes "snapshot") then Some Snapshot
    else None)))

abbrev pub kind_in : Data → Option JobKind
kind_in line = option_and_then kind_of (text_at (codes "job") line)

-- ---- lanes

-- a lane: 1 up to how many there are, and 1 where nothing is said
abbrev pub lane_of : ℕ → Option Data → Option ℕ
lane_of lanes None = Some 1
lane_of lanes (Some d) =
    option_and_then (λ lane. only_if (nat_le 1 lane && nat_le lane lanes) (Some lane))
    (option_and_then as_u64 (as_number d))

-- an `init` has no member `lane`
abbrev pub lane_in : JobKind → ℕ → Data → Option ℕ
lane_in Init lanes line = only_if (is_none (get (codes "lane") line)) (Some 1)
lane_in _ lanes line = lane_of lanes (get (codes "lane") line)

-- ---- rows

abbrev pub upsert_members : List (List ℕ)
upsert_members = codes "job" ∷ codes "lane" ∷ codes "rows" ∷ []

unfoldable pub upsert_of : Data → Result Said LineCause
upsert_of line = do
  rows ← wanted (codes "rows") (only_if (are_rows (rows_in line)) (Some (rows_in line)))
  with_only upsert_members line (upsert rows)

-- ---- keys

abbrev pub few_keys : Items → Option (List DelKey)
few_keys items = only_if (is_item_count (items_len items)) (keys_of items)

-- 1 to 100,000 keys
abbrev pub keys_in : Data → Option (List DelKey)
keys_in line = option_and_then few_keys (items_at (codes "keys") line)

abbrev pub delete_members : List (List ℕ)
delete_members = codes "job" ∷ codes "lane" ∷ codes "keys" ∷ []

unfoldable pub delete_of : Data → Result Said LineCause
delete_of line = do
  keys ← wanted (codes "keys") (keys_in line)
  with_only delete_members line (delete keys)

-- ---- times

-- the digits of a time, which may be missing
abbrev pub at_of : Option Data → Option (Option ℕ)
at_of None = Some None
at_of (Some d) = option_map Some (option_and_then time_of (as_str d))

abbrev pub snapshot_members : List (List ℕ)
snapshot_members = codes "job" ∷ codes "lane" ∷ codes "at" ∷ []

unfoldable pub snapshot_of : Data → Result Said LineCause
snapshot_of line = do
  at ← wanted (codes "at") (at_of (get (codes "at") line))
  with_only snapshot_members line (snapshot at)

-- ---- a line

-- what a line of a kind says
abbrev pub said_of : JobKind → Data → Result Said LineCause
said_of Init line = init_of line >>= λ told. Ok (init told)
said_of Upsert line = upsert_of line
said_of Delete line = delete_of line
said_of Snapshot line = snapshot_of line

-- the lane of a line and what it says, or the first member that is wrong
unfoldable pub members_of : ℕ → Data → Result (ℕ × Said) LineCause
members_of lanes line = do
  kind ← wanted (codes "job") (kind_in line)
  lane ← wanted (codes "lane") (lane_in kind lanes line)
  said ← said_of kind line
  Ok (lane, said)

-- the same of any JSON value
abbrev pub job_of : ℕ → Data → Result (ℕ × Said) LineCause
job_of lanes line = if is_object line then members_of lanes line else Err Object
