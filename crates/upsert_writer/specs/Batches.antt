-- What a batch writes, or why it is refused.
use Rattle.std.specs.Prelude.{ℕ, ◌+◌, Bool, List, [], ◌∷◌, Result, Ok, Err}
use Rattle.hudi_base.specs.declared.value.Value.{Value}
use Rattle.payload_merge.specs.declared.row.Row.{Row}
use Rattle.payload_merge.specs.declared.row.Write.{Write}
use Rattle.payload_merge.specs.declared.row.Write.TheVariants.{Put}
use Rattle.table_core.specs.declared.job_reply.RowCause.{RowCause}
use Rattle.table_core.specs.declared.job_reply.RowCause.TheVariants as cause
use Rattle.table_jobs.specs.NewRows.{delete_of}
use Rattle.upsert_writer.specs.declared.batch.Batch.{Batch}
use Rattle.upsert_writer.specs.declared.batch.Batch.TheVariants.{Puts, Dels}
use Rattle.upsert_writer.specs.declared.batch.PutRow.{PutRow}
use Rattle.upsert_writer.specs.declared.batch.PutRow.TheVariants.{Fits, Mismatch}

-- how a table's new rows are made: the row of a value, and whether rows have an ordering field
pub record NewWrites : Type 0 where
  pub row : Value → Result Row RowCause
  pub is_ordered : Bool

-- a row or a key that is refused: its place in the batch, from 0, and why
pub record Refusal : Type 0 where
  pub place : ℕ
  pub cause : RowCause

abbrev pub in_front : {A : Type 0} → Result A RowCause → ℕ → Result (List A) Refusal → Result (List A) Refusal
in_front (Err cause) place later = Err (record { place = place; cause = cause })
in_front (Ok x) place (Err refusal) = Err refusal
in_front (Ok x) place (Ok xs) = Ok (x ∷ xs)

-- what things make each, which are counted from here on, or the first of them that is refused
abbrev pub made_from : {A B : Type 0} → (A → Result B RowCause) → ℕ → List A → Result (List B) Refusal
made_from make place [] = Ok []
made_from make place (x ∷ xs) = in_front (make x) place (made_from make (place + 1) xs)

abbrev pub as_put : Result Row RowCause → Result Write RowCause
as_put (Ok row) = Ok (Put row)
as_put (Err cause) = Err cause

-- the put of a row
abbrev pub put_of : NewWrites → PutRow → Result Write RowCause
put_of new (Fits value) = as_put (new.row value)
put_of new (Mismatch field) = Err (cause.Mismatch field)

-- the writes of a batch, or its first row or key that is refused
abbrev pub batch_writes : NewWrites → Batch → Result (List Write) Refusal
batch_writes new (Puts rows) = made_from (put_of new) 0 rows
batch_writes new (Dels keys) = made_from (delete_of new.is_ordered) 0 keys
