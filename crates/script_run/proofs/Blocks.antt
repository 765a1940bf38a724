-- What the jobs of a run may write are whole blocks of their instants.
use Rattle.std.proofs.Common.{◌≡◌, ◌==◌, ℕ, List, Result, Ok, Err, true, arith}
use Rattle.std.specs.Prelude.{IfOk}
use Rattle.std.proofs.lemmas.Bool.Decides.{nat_tests}
use Rattle.hudi_base.specs.declared.file_group.GroupRef.{GroupRef}
use Rattle.log_block.specs.declared.block.Block.{Block}
use Rattle.log_block.specs.declared.block.Block.TheVariants.{Data, Delete, Rollback}
use Rattle.payload_merge.specs.declared.row.Write.{Write}
use Rattle.table_images.specs.Blocks.{HoldsBlocks}
use Rattle.table_images.specs.Chains.{is_write_of}
use Rattle.table_history.specs.declared.job.Job.{Job}
use Rattle.table_history.specs.declared.step.PartitionSlots.{PartitionSlots}
use Rattle.upsert_writer.specs.Batches.{Refusal}
use Rattle.upsert_writer.specs.Blocks.{BlockForm, Holds, HoldsEach}
use Rattle.upsert_writer.specs.Slots.{AreSlotsOf}
use Rattle.script_run.specs.Batches.{any_batch}

same_time : (t u : ℕ) → u ≡ t → (u == t) ≡ true
same_time t u same = grind (arith, nat_tests)

written : (form : BlockForm) (t : ℕ) (group : GroupRef) (own : List Write) (block : Block) → Holds form t group own block → is_write_of t block ≡ true
written form t group own (Data instant schema content) holds = same_time t instant holds.0
written form t group own (Delete instant content) holds = same_time t instant holds.0
written form t group own (Rollback instant target) holds = absurd holds

pub holds_blocks : HoldsBlocks any_batch.Holds
holds_blocks = record {
  blocks = λ job t s writes bytes holds.
      let has = holds.1.1 in
      record { block = has.block; fits = has.fits; is = has.is; write = written holds.0 t s.group _ has.block has.holds };
}

-- ---- any batch may be asked for

pub any_asked : (job : Job) (made : Result (List Write) Refusal) → IfOk made (λ batch. (slots : List PartitionSlots) → AreSlotsOf batch slots → any_batch.Asks job slots)
any_asked job (Ok batch) = λ slots are. (batch, are)
any_asked job (Err refusal) = tt

pub any_held : (job : Job) (form : BlockForm) (made : Result (List Write) Refusal) → IfOk made (HoldsEach any_batch.Holds job form)
any_held job form (Ok batch) = λ t s writes bytes is. (form, (batch, is))
any_held job form (Err refusal) = tt
