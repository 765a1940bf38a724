-- Batches that a writer of a table may be given.
use Rattle.std.specs.Prelude.{◌<◌, ◌^◌, length, All}
use Rattle.hudi_base.specs.declared.value.Value.{Value}
use Rattle.upsert_writer.specs.declared.batch.Batch.{Batch}
use Rattle.upsert_writer.specs.declared.batch.Batch.TheVariants.{Puts, Dels}
use Rattle.upsert_writer.specs.declared.batch.PutRow.{PutRow}
use Rattle.upsert_writer.specs.declared.batch.PutRow.TheVariants.{Fits, Mismatch}

-- a value is of the table's schema
abbrev pub IsFit : (Value → Type 0) → PutRow → Type 0
IsFit FitsSchema (Fits value) = FitsSchema value
IsFit FitsSchema (Mismatch field) = Unit {0}

-- its rows or keys can be counted, and its values are of the table's schema
abbrev pub BatchFits : (Value → Type 0) → Batch → Type 0
BatchFits FitsSchema (Puts rows) = (length rows < 2 ^ 32) × All (IsFit FitsSchema) rows
BatchFits FitsSchema (Dels keys) = length keys < 2 ^ 32
