-- What the instants of a history wrote.
use Rattle.std.specs.Prelude.{◌≡◌, ℕ, List, [], ◌∷◌, ◌++◌, slice_get, Option, Some, None, Result, Ok, Err}
use Rattle.std.specs.List.{flat_map}
use Rattle.block_contents.specs.Deletes.{deletes_in}
use Rattle.hudi_base.specs.declared.file_group.GroupRef.{GroupRef}
use Rattle.hudi_base.specs.declared.file_group.Target.{Target}
use Rattle.log_block.specs.Reading.{block_at}
use Rattle.log_block.specs.declared.block.Block.TheVariants.{Data, Delete}
use Rattle.log_block.specs.declared.block.BlockRead.{BlockRead}
use Rattle.log_block.specs.declared.block.BlockRead.TheVariants.{Whole}
use Rattle.payload_merge.specs.Contents.{data_writes}
use Rattle.payload_merge.specs.declared.row.Write.{Write}
use Rattle.table_history.specs.Histories.{History}
use Rattle.table_history.specs.Instants.{instant_of}
use Rattle.table_history.specs.Tables.{Table, Instant}
use Rattle.table_history.specs.Tables as table
use Rattle.table_history.specs.Targets.{AreLive, is_asked}
use Rattle.table_history.specs.declared.step.PartitionSlots.{PartitionSlots}
use Rattle.table_jobs.specs.Places.{place_in}
use Rattle.upsert_writer.specs.BatchWrites.{batch_in}
use Rattle.upsert_writer.specs.Blocks.{BlockForm}
use Rattle.upsert_writer.specs.Slots.{AreSlotsOf}

abbrev pub or_none : Result (List Write) ℕ → List Write
or_none (Ok writes) = writes
or_none (Err offset) = []

-- the writes that stand for a target's group in the first block of bytes, which is a data block or a delete block
abbrev pub writes_read : BlockForm → Target → BlockRead → List Write
writes_read form s (Whole (Data instant schema content) len) =
    or_none (data_writes form.reading (place_in form.table instant s.group) content)
writes_read form s (Whole (Delete instant content) len) = or_none (deletes_in s.group.partition content)
writes_read form s _ = []

-- the writes of a placed block, by the target that it went to
abbrev pub block_writes : BlockForm → Option Target → List ℕ → List Write
block_writes form None bytes = []
block_writes form (Some s) bytes = writes_read form s (block_at bytes)

-- the writes of an instant's blocks, of which the last one stands first
abbrev pub placed_writes : BlockForm → List Target → List table.Block → List Write
placed_writes form targets [] = []
placed_writes form targets (block ∷ blocks) =
    placed_writes form targets blocks ++ block_writes form (slice_get targets block.target) block.bytes

-- the writes of an instant: those of the blocks that it placed, in their order
abbrev pub instant_writes : BlockForm → Option Instant → List Write
instant_writes form None = []
instant_writes form (Some i) = placed_writes form i.targets i.blocks

-- The writes of a whole batch: for each live group that one of them lies in, by partition and slots, those that lie there.
pub record WritesGroups (batch : List Write) (t : ℕ) (A : Table) (writes : List Write) : Type 0 where
  pub slots : List PartitionSlots
  pub asked : AreSlotsOf batch slots
  pub groups : List GroupRef
  pub live : AreLive A (is_asked slots) groups
  pub are : writes ≡ flat_map (λ group. batch_in t group batch) groups

abbrev pub writes_of : BlockForm → Table → History → ℕ → List Write
writes_of form A H t = instant_writes form (instant_of A H t)
