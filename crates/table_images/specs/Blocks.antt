-- What the parts of an image need of what jobs write.
use Rattle.std.specs.Prelude.{◌≡◌, ℕ, true, List}
use Rattle.hudi_base.specs.declared.file_group.Target.{Target}
use Rattle.log_block.specs.Form.{Fits, block_bytes}
use Rattle.log_block.specs.declared.block.Block.{Block}
use Rattle.table_history.specs.JobLaw.{Work}
use Rattle.table_history.specs.declared.job.Job.{Job}
use Rattle.table_history.specs.declared.step.PartitionSlots.{PartitionSlots}
use Rattle.table_images.specs.Chains.{is_write_of}

-- bytes that are one whole block of rows or deletes of an instant
pub record IsBlockFor (t : ℕ) (bytes : List ℕ) : Type 0 where
  pub block : Block
  pub fits : Fits block
  pub is : bytes ≡ block_bytes block
  pub write : is_write_of t block ≡ true

-- each append of a job carries one whole block of its instant
pub record HoldsBlocks (Holds : Job → ℕ → Target → ℕ → List ℕ → Type 0) : Type 0 where
  pub blocks : (job : Job) (t : ℕ) (s : Target) (writes : ℕ) (bytes : List ℕ)
      → Holds job t s writes bytes → IsBlockFor t bytes

-- what jobs write, by its two meanings
abbrev pub work_of : (Job → List PartitionSlots → Type 0) → (Job → ℕ → Target → ℕ → List ℕ → Type 0) → Work
work_of asks holds = record { Asks = asks; Holds = holds }
