-- The rows of an upsert as rows of a table.
use Rattle.std.specs.Prelude.{◌≡◌, ℕ, ◌≤◌, List, [], ◌∷◌, IsUtf8, length, codes, Ok, All}
use Rattle.hudi_base.specs.InstantTime.{first_time}
use Rattle.hudi_base.specs.declared.value.Value.{Value, Text, Long, Record}
use Rattle.payload_merge.specs.declared.row.Row.{Row}
use Rattle.job_script.specs.Script.{most_body_bytes, most_key_bytes, most_rows, script_of}
use Rattle.job_script.specs.declared.script.InputRow.{InputRow}
use Rattle.job_script.specs.declared.script.Line.{Line}
use Rattle.job_script.specs.declared.script.Line.TheVariants.{Upsert, Snapshot}
use Rattle.job_script.specs.declared.script.ScriptJob.{ScriptJob}

-- a row of a script as a value: the record of its key, its rank and its body
abbrev pub value_of_input : InputRow → Value
value_of_input row = Record (Text row.key ∷ Long row.rank ∷ Text row.body ∷ [])

-- a row of a script as a row of the one partition; its writer gives it the instant and its place
abbrev pub row_of_input : InputRow → Row
row_of_input row = record {
  partition = codes "x";
  key = row.key;
  rank = row.rank;
  commit = first_time;
  seq = 0;
  body = row.body;
}

-- ---- sizes

-- a row whose key and body are texts, as long as they may be
pub record IsSized (row : InputRow) : Type 0 where
  pub key_from : 1 ≤ length row.key
  pub key_to : length row.key ≤ most_key_bytes
  pub body_to : length row.body ≤ most_body_bytes
  pub key_text : IsUtf8 row.key
  pub body_text : IsUtf8 row.body

-- as many such rows as an upsert may have
pub record AreSized (rows : List InputRow) : Type 0 where
  pub some : 1 ≤ length rows
  pub few : length rows ≤ most_rows
  pub each : All IsSized rows

abbrev pub HasSizes : ScriptJob → Type 0
HasSizes job = line_has job.line
  where
    line_has : Line → Type 0
    line_has (Upsert rows) = AreSized rows
    line_has Snapshot = Unit {0}

-- the jobs of a script are within the limits
abbrev pub ScriptsHaveSizes : Type 0
ScriptsHaveSizes =
    (number : ℕ) (lines : List (List ℕ)) (jobs : List ScriptJob) → script_of number lines ≡ Ok jobs → All HasSizes jobs
