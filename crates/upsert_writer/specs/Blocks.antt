-- The blocks of a batch.
use Rattle.std.specs.Prelude.{◌≡◌, ℕ, List, length, Ok}
use Rattle.block_contents.specs.Deletes.{deletes_bytes, deletes_in}
use Rattle.hudi_base.specs.declared.file_group.GroupRef.{GroupRef}
use Rattle.hudi_base.specs.declared.file_group.Target.{Target}
use Rattle.log_block.specs.Form.{Fits, block_bytes}
use Rattle.log_block.specs.declared.block.Block.{Block}
use Rattle.log_block.specs.declared.block.Block.TheVariants.{Data, Delete, Rollback}
use Rattle.payload_merge.specs.Contents.{DataReading, data_writes}
use Rattle.payload_merge.specs.declared.row.Write.{Write}
use Rattle.table_history.specs.declared.job.Job.{Job}
use Rattle.table_jobs.specs.Places.{place_in}
use Rattle.upsert_writer.specs.BatchWrites.{batch_in}

-- How a table's blocks are written: how a data content reads, the table's name, and the text in the place of a schema.
pub record BlockForm : Type 0 where
  pub reading : DataReading
  pub table : List ℕ
  pub schema : List ℕ

-- The block is one of the instant's that holds these writes of a group: a data block whose content reads at its place as
-- their puts, or a delete block with the one content of these deletes.
abbrev pub Holds : BlockForm → ℕ → GroupRef → List Write → Block → Type 0
Holds form t group own (Data instant schema content) =
    (instant ≡ t) × (schema ≡ form.schema) × (data_writes form.reading (place_in form.table t group) content ≡ Ok own)
Holds form t group own (Delete instant content) =
    (instant ≡ t) × (content ≡ deletes_bytes own) × (deletes_in group.partition content ≡ Ok own)
Holds form t group own (Rollback instant target) = ⊥

-- The bytes are one written block of the instant that holds these writes of a group; and so many they are.
pub record HasWrites (form : BlockForm) (own : List Write) (t : ℕ) (group : GroupRef) (writes : ℕ) (bytes : List ℕ) : Type 0 where
  pub block : Block
  pub fits : Fits block
  pub is : bytes ≡ block_bytes block
  pub holds : Holds form t group own block
  pub counts : writes ≡ length own

-- the block of a batch for a target: it has what the instant writes to the target's group
abbrev pub IsBlockOf : BlockForm → List Write → ℕ → Target → ℕ → List ℕ → Type 0
IsBlockOf form batch t s writes bytes = HasWrites form (batch_in t s.group batch) t s.group writes bytes

-- Each block that may be written of the batch is one that the table holds for the job.
abbrev pub HoldsEach : (Job → ℕ → Target → ℕ → List ℕ → Type 0) → Job → BlockForm → List Write → Type 0
HoldsEach MayHold job form batch =
    (t : ℕ) (s : Target) (writes : ℕ) (bytes : List ℕ) → IsBlockOf form batch t s writes bytes → MayHold job t s writes bytes
