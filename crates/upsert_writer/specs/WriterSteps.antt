-- Which steps a writer takes for its batch.
use Rattle.std.specs.Prelude.{◌≡◌, List, [], ◌∷◌, slice_get, None, IsSomeAnd}
use Rattle.hudi_base.specs.declared.file_group.Target.{Target}
use Rattle.payload_merge.specs.declared.row.Write.{Write}
use Rattle.table_history.specs.declared.entry.Entry.{Entry}
use Rattle.table_history.specs.declared.reply.Reply.{Reply}
use Rattle.table_history.specs.declared.reply.Reply.TheVariants.{Entered}
use Rattle.table_history.specs.declared.step.Step.{Step}
use Rattle.table_history.specs.declared.step.Step.TheVariants.{Begin, Enter, Append, Finish, Abandon}
use Rattle.upsert_writer.specs.Blocks.{BlockForm, IsBlockOf}
use Rattle.upsert_writer.specs.Slots.{AreSlotsOf}

-- the targets that a writer's own entries were given, the last entry first
abbrev pub targets_given : List Entry → List Target
targets_given [] = []
targets_given (e ∷ es) = given e.step e.reply (targets_given es)
  where
    given : Step → Reply → List Target → List Target
    given (Enter t slots) (Entered targets) before = targets
    given _ _ before = before

-- A step of the writer of these writes, where it was given these targets: it draws its instant, asks for the slots of its
-- writes, appends to a target the block of those writes that lie in its group, and completes without a checkpoint or
-- leaves.
abbrev pub IsWriterStep : BlockForm → List Write → List Target → Step → Type 0
IsWriterStep form batch targets Begin = Unit {0}
IsWriterStep form batch targets (Enter t slots) = AreSlotsOf batch slots
IsWriterStep form batch targets (Append t target writes bytes) =
    IsSomeAnd (slice_get targets target) (λ s. IsBlockOf form batch t s writes bytes)
IsWriterStep form batch targets (Finish t checkpoint) = checkpoint ≡ None
IsWriterStep form batch targets (Abandon t) = Unit {0}
IsWriterStep form batch targets _ = ⊥

-- each of a job's own entries is such a step
abbrev pub WritesBatch : BlockForm → List Write → List Entry → Type 0
WritesBatch form batch [] = Unit {0}
WritesBatch form batch (e ∷ es) = IsWriterStep form batch (targets_given es) e.step × WritesBatch form batch es
