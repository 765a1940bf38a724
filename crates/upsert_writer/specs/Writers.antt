-- How a writer's own entries stand, for the parts of the writer.
use Rattle.std.specs.Prelude.{◌≡◌, List, [], None}
use Rattle.hudi_base.specs.declared.file_group.Target.{Target}
use Rattle.payload_merge.specs.declared.row.Write.{Write}
use Rattle.table_history.specs.JobLaw.{Phase, Writes, Ended, phase}
use Rattle.table_history.specs.declared.entry.Entry.{Entry}
use Rattle.table_jobs.specs.Replies.{told}
use Rattle.upsert_writer.specs.Blocks.{BlockForm}
use Rattle.upsert_writer.specs.WriterSteps.{WritesBatch, targets_given}

-- the targets that a writer has at a phase
abbrev pub targets_at : Phase → List Target
targets_at (Writes t targets placed) = targets
targets_at _ = []

-- it is so far, and no step has ended it
pub record IsAt (p : Phase) (mine : List Entry) : Type 0 where
  pub phase : phase mine ≡ p
  pub untold : told mine ≡ None
  pub given : targets_given mine ≡ targets_at p

-- it has left its instant, and its entries tell what they told
pub record IsLeft (before after : List Entry) : Type 0 where
  pub phase : phase after ≡ Ended
  pub told : told after ≡ told before

-- a writer of these writes goes on with its steps
abbrev pub WritesOn : BlockForm → List Write → List Entry → List Entry → Type 0
WritesOn form batch before after = WritesBatch form batch before → WritesBatch form batch after
