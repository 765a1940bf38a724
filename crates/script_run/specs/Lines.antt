-- What the jobs of lines write and answer.
use Rattle.std.specs.Prelude.{ℕ, List, [], ◌∷◌, is_some, Result, Ok, Err}
use Rattle.avro_schema.specs.SchemaTexts.{type_text}
use Rattle.hudi_base.specs.declared.value.Value.{Value, Record}
use Rattle.payload_merge.specs.declared.row.Write.{Write}
use Rattle.row_codec.specs.NewRows.{row_in}
use Rattle.row_records.specs.Records.{record_type, rows_in}
use Rattle.row_values.specs.JsonRows.{values_of_json}
use Rattle.row_values.specs.declared.row_layout.RowLayout.{RowLayout}
use Rattle.script_jobs.specs.Jobs.{Said, init, upsert, delete, snapshot}
use Rattle.serde_json.specs.Data.{Data, Items, no_items, item}
use Rattle.table_core.specs.declared.job_reply.JobReply.{JobReply}
use Rattle.table_history.specs.declared.entry.Entry.{Entry}
use Rattle.table_query.specs.Answers.{IsQueryReply}
use Rattle.table_query.specs.GroupReading.{TableReading}
use Rattle.upsert_writer.specs.Answers.{AnswersBatch}
use Rattle.upsert_writer.specs.Batches.{NewWrites, Refusal, batch_writes}
use Rattle.upsert_writer.specs.Blocks.{BlockForm}
use Rattle.upsert_writer.specs.declared.batch.Batch.TheVariants.{Puts, Dels}
use Rattle.upsert_writer.specs.declared.batch.PutRow.{PutRow}
use Rattle.upsert_writer.specs.declared.batch.PutRow.TheVariants.{Fits, Mismatch}

-- ---- the table's forms

-- how its blocks are written
abbrev pub blocks_of : RowLayout → BlockForm
blocks_of layout = record { reading = rows_in layout; table = layout.table; schema = type_text (record_type layout) }

-- how its blocks are read
abbrev pub reading_of : RowLayout → TableReading
reading_of layout = record { rows = rows_in layout; table = layout.table }

-- how its new rows are made
abbrev pub new_writes : RowLayout → NewWrites
new_writes layout = record { row = row_in layout; is_ordered = is_some layout.ordering }

-- ---- batches

-- a row of a line as a writer is given it: a record of the table's schema, or the first field that it doesn't fit
abbrev pub record_or_field : Result (List Value) ℕ → PutRow
record_or_field (Ok values) = Fits (Record values)
record_or_field (Err field) = Mismatch field

abbrev pub given_row : RowLayout → Data → PutRow
given_row layout row = record_or_field (values_of_json layout.fields row)

abbrev pub given_rows : RowLayout → Items → List PutRow
given_rows layout no_items = []
given_rows layout (item row rows) = given_row layout row ∷ given_rows layout rows

-- what a line writes, or its first row or key that is refused
abbrev pub batch_of : RowLayout → Said → Result (List Write) Refusal
batch_of layout (upsert rows) = batch_writes (new_writes layout) (Puts (given_rows layout rows))
batch_of layout (delete keys) = batch_writes (new_writes layout) (Dels keys)
batch_of layout (init props) = Ok []
batch_of layout (snapshot at) = Ok []

-- ---- answers

-- The job of a line made these entries and has this answer: an upsert or a delete writes its rows or its keys as one
-- batch, and a snapshot is at its instant, or at the latest one. Making a table is no job here.
abbrev pub AnswersLine : RowLayout → Said → List Entry → JobReply → Type 0
AnswersLine layout (init props) mine reply = ⊥
AnswersLine layout (upsert rows) mine reply = AnswersBatch (blocks_of layout) (batch_of layout (upsert rows)) mine reply
AnswersLine layout (delete keys) mine reply = AnswersBatch (blocks_of layout) (batch_of layout (delete keys)) mine reply
AnswersLine layout (snapshot at) mine reply = IsQueryReply (reading_of layout) at mine reply
