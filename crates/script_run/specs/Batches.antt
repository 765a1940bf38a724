-- What the jobs of a run may write: any batch, in any form.
use Rattle.std.specs.Prelude.{List}
use Rattle.payload_merge.specs.declared.row.Write.{Write}
use Rattle.table_history.specs.JobLaw.{Work}
use Rattle.upsert_writer.specs.Blocks.{BlockForm, IsBlockOf}
use Rattle.upsert_writer.specs.Slots.{AreSlotsOf}

-- the slots of some writes, and for a target the block of those of some writes that lie in its group
abbrev pub any_batch : Work
any_batch = record {
  Asks = λ job slots. (batch : List Write) × AreSlotsOf batch slots;
  Holds = λ job t s writes bytes. (form : BlockForm) × ((batch : List Write) × IsBlockOf form batch t s writes bytes);
}
