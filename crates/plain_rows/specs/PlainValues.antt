-- The values of a table of keys, ranks and bodies, and the rows that they make. This project's own.
use Rattle.std.specs.Prelude.{◌≡◌, ℤ, ℕ, List, [], ◌∷◌, IsUtf8, codes, Some, Result, Err}
use Rattle.hudi_base.specs.declared.value.Pair.{Pair}
use Rattle.hudi_base.specs.declared.value.Value.{Value, Text, Long, Record, out-Value}
use Rattle.hudi_base.specs.declared.value.Value.TheOpen.{Value-F}
use Rattle.hudi_base.specs.declared.value.Value.TheVariants as value
use Rattle.payload_merge.specs.declared.row.Row.{Row}
use Rattle.table_core.specs.declared.job_reply.RowCause.{RowCause}
use Rattle.table_core.specs.declared.job_reply.RowCause.TheVariants.{NoKey}
use Rattle.table_jobs.specs.NewRows.{row_of_parts}

-- a record of a key, a rank and a body, of which key and body are texts
pub record IsPlainValue (v : Value) : Type 0 where
  pub key : List ℕ
  pub rank : ℤ
  pub body : List ℕ
  pub is : v ≡ Record (Text key ∷ Long rank ∷ Text body ∷ [])
  pub key_text : IsUtf8 key
  pub body_text : IsUtf8 body

-- the row of these fields, which lies in the one partition, or why there is none
abbrev pub row_of_fields : List ℕ → ℤ → List ℕ → Result Row RowCause
row_of_fields key rank body = row_of_parts (Some key) (Some (codes "x")) (Some rank) body

-- the row of a key, a rank and a body; of no other values is anything said
abbrev pub row_of_values : List Value → Result Row RowCause
row_of_values (value.Text key ∷ value.Long rank ∷ value.Text body ∷ []) = row_of_fields key rank body
row_of_values _ = Err NoKey

abbrev pub row_of_record : Value-F Value Pair → Result Row RowCause
row_of_record (Value-F.Record values) = row_of_values values
row_of_record _ = Err NoKey

-- the row of a record of them
abbrev pub row_of_value : Value → Result Row RowCause
row_of_value v = row_of_record (out-Value v)
