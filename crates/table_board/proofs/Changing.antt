-- What the operation of a step does to the store and to its count, said by the step's reply.
use Rattle.std.proofs.Common.{◌≡◌, ℕ, ℤ, List, Option, Some, None, refl, sym, ap, subst, ◌∙◌}
use Rattle.std.specs.Prelude.{is_some}
use Rattle.hudi_base.specs.Faults.{CountsFault}
use Rattle.hudi_base.specs.Files.{Told}
use Rattle.hudi_base.specs.InstantTime.{time_after}
use Rattle.hudi_base.specs.declared.file_group.Target.{Target}
use Rattle.table_core.specs.ControlTables.{IsLeaving}
use Rattle.table_history.specs.Histories.{History}
use Rattle.table_history.specs.JobLaw.{IsReplyOf}
use Rattle.table_history.specs.Logs.{target_at}
use Rattle.table_history.specs.Operations.{operation, appends, reads, part_read, Succeeds, DrawsAt}
use Rattle.table_history.specs.Tables.{Table}
use Rattle.table_history.specs.declared.operation.Op.{Op}
use Rattle.table_history.specs.declared.operation.Op.TheVariants as op
use Rattle.table_history.specs.declared.reply.Cause.TheVariants.{Missing, Short}
use Rattle.table_history.specs.declared.reply.Reply.{Reply}
use Rattle.table_history.specs.declared.reply.Reply.TheVariants as reply
use Rattle.table_history.specs.declared.step.Reader.TheVariants as reader
use Rattle.table_history.specs.declared.step.Step.{Step}
use Rattle.table_history.specs.declared.step.Step.TheVariants.{Begin, Enter, Append, Finish, Pin, Unpin, Read, Abandon}
use Rattle.table_history.specs.declared.view.Part.{Part}
use Rattle.table_board.proofs.Knowing.{same_greatest}
use Rattle.table_board.proofs.Replying.{append_reads_nothing}
use Rattle.table_board.specs.KnownEntries.{known_entries}
use Rattle.table_board.specs.Outcomes.{MayEnd, Leaves, ChangesNothing, reply_after}
use Rattle.table_board.specs.StoreChanges.{after_op, LeavesAtFault, Changes}
use Rattle.table_board.specs.declared.acting.Outcome.{Outcome}
use Rattle.table_board.specs.declared.acting.Outcome.TheVariants.{Done, Piece, Fault, Damaged, Memory}

-- ---- files

pub unchanged : (honest : Type 0) (p : Op) (old new : Told) (o : Outcome) → ChangesNothing o → Leaves honest p old new o → new ≡ old
unchanged honest p old new Done nothing leaves = absurd nothing
unchanged honest p old new Fault nothing leaves = absurd nothing
unchanged honest op.Nothing old new (Piece bytes) nothing leaves = leaves
unchanged honest (op.Create name block) old new (Piece bytes) nothing leaves = leaves
unchanged honest (op.Append name block) old new (Piece bytes) nothing leaves = leaves
unchanged honest (op.Remove name) old new (Piece bytes) nothing leaves = leaves
unchanged honest (op.Read name at len) old new (Piece bytes) nothing leaves = leaves.1
unchanged honest op.Nothing old new (Damaged cause) nothing leaves = leaves
unchanged honest (op.Create name block) old new (Damaged cause) nothing leaves = leaves.1
unchanged honest (op.Append name block) old new (Damaged cause) nothing leaves = leaves
unchanged honest (op.Remove name) old new (Damaged cause) nothing leaves = leaves.1
unchanged honest (op.Read name at len) old new (Damaged Missing) nothing leaves = leaves.1
unchanged honest (op.Read name at len) old new (Damaged Short) nothing leaves = leaves.1
unchanged honest (op.Read name at len) old new (Damaged _) nothing leaves = leaves
unchanged honest op.Nothing old new Memory nothing leaves = leaves
unchanged honest (op.Create name block) old new Memory nothing leaves = leaves
unchanged honest (op.Append name block) old new Memory nothing leaves = leaves
unchanged honest (op.Remove name) old new Memory nothing leaves = leaves
unchanged honest (op.Read name at len) old new Memory nothing leaves = leaves

whole : (honest : Type 0) (p : Op) (old new : Told) → Leaves honest p old new Done → new ≡ after_op old p
whole honest op.Nothing old new leaves = leaves
whole honest (op.Create name block) old new leaves = leaves.1
whole honest (op.Append name block) old new leaves = leaves
whole honest (op.Remove name) old new leaves = leaves.1
whole honest (op.Read name at len) old new leaves = leaves

succeeded : (honest : Type 0) (p : Op) (r : Reply) (old new : Told) → Succeeds r → new ≡ after_op old p → Changes honest p r old new
succeeded honest p reply.Fault old new succeeds is = absurd succeeds
succeeded honest p (reply.Damaged name cause) old new succeeds is = absurd succeeds
succeeded honest p reply.Memory old new succeeds is = absurd succeeds
succeeded honest p _ old new succeeds is = is

read_changes_nothing : (old : Told) (at len : ℕ) (o : Option Part) → after_op old (reads at len o) ≡ old
read_changes_nothing old at len None = refl
read_changes_nothing old at len (Some part) = refl

pieced : (A : Table) (H : History) (s : Step) (r : Reply) (bytes : List ℕ) (old new : Told) → MayEnd (operation A H s r) (Piece bytes) → new ≡ old
    → new ≡ after_op old (operation A H s (reply.Piece bytes))
pieced A H Begin (reply.Began t) bytes old new end is = absurd end
pieced A H Begin _ bytes old new end is = absurd end
pieced A H (Enter t slots) (reply.Entered targets) bytes old new end is = absurd end
pieced A H (Enter t slots) _ bytes old new end is = absurd end
pieced A H (Append t target writes block) r bytes old new end is = absurd (append_reads_nothing A H block bytes (target_at A H t target) end)
pieced A H (Finish t checkpoint) r bytes old new end is = absurd end
pieced A H (Read (reader.Pin pin) file at len) r bytes old new end is = is ∙ sym (read_changes_nothing old at len (part_read H (reader.Pin pin) file))
pieced A H (Pin at bases_only) r bytes old new end is = absurd end
pieced A H (Unpin pin) r bytes old new end is = absurd end
pieced A H (Abandon t) r bytes old new end is = absurd end

fault_append : (honest : Type 0) (A : Table) (H : History) (bytes : List ℕ) (old new : Told) (o : Option Target) → MayEnd (appends A H bytes o) Fault
    → Leaves honest (appends A H bytes o) old new Fault → LeavesAtFault honest (appends A H bytes o) old new
fault_append honest A H bytes old new None end leaves = absurd end
fault_append honest A H bytes old new (Some s) end leaves =
    record { files = leaves.files; operations = leaves.operations; first = leaves.first; leaves = leaves.leaves }

fault_read : (honest : Type 0) (at len : ℕ) (old new : Told) (o : Option Part) → MayEnd (reads at len o) Fault
    → Leaves honest (reads at len o) old new Fault → LeavesAtFault honest (reads at len o) old new
fault_read honest at len old new None end leaves = absurd end
fault_read honest at len old new (Some part) end leaves = record {
  files = ap (λ t. is_some t.files) leaves;
  operations = ap (λ t. is_some t.operations) leaves;
  first = ap (λ t. t.first) leaves;
  leaves = λ h. leaves;
}

faulted : (honest : Type 0) (A : Table) (H : History) (s : Step) (r : Reply) (old new : Told) → MayEnd (operation A H s r) Fault
    → Leaves honest (operation A H s r) old new Fault → LeavesAtFault honest (operation A H s reply.Fault) old new
faulted honest A H Begin (reply.Began t) old new end leaves =
    record { files = leaves.files; operations = leaves.operations; first = leaves.first; leaves = leaves.leaves }
faulted honest A H Begin _ old new end leaves = absurd end
faulted honest A H (Enter t slots) (reply.Entered targets) old new end leaves =
    record { files = leaves.files; operations = leaves.operations; first = leaves.first; leaves = leaves.leaves }
faulted honest A H (Enter t slots) _ old new end leaves = absurd end
faulted honest A H (Append t target writes bytes) r old new end leaves = fault_append honest A H bytes old new (target_at A H t target) end leaves
faulted honest A H (Finish t checkpoint) r old new end leaves =
    record { files = leaves.files; operations = leaves.operations; first = leaves.first; leaves = leaves.leaves }
faulted honest A H (Read (reader.Pin pin) file at len) r old new end leaves = fault_read honest at len old new (part_read H (reader.Pin pin) file) end leaves
faulted honest A H (Pin at bases_only) r old new end leaves = absurd end
faulted honest A H (Unpin pin) r old new end leaves = absurd end
faulted honest A H (Abandon t) r old new end leaves = absurd end

pub changes : (honest : Type 0) (A : Table) (H : History) (s : Step) (r : Reply) (o : Outcome) (old new : Told) → Succeeds r
    → MayEnd (operation A H s r) o → Leaves honest (operation A H s r) old new o
    → Changes honest (operation A H s (reply_after o (operation A H s r) r)) (reply_after o (operation A H s r) r) old new
changes honest A H s r Done old new succeeds end leaves = succeeded honest (operation A H s r) r old new succeeds (whole honest (operation A H s r) old new leaves)
changes honest A H s r (Piece bytes) old new succeeds end leaves =
    pieced A H s r bytes old new end (unchanged honest (operation A H s r) old new (Piece bytes) tt leaves)
changes honest A H s r Fault old new succeeds end leaves = faulted honest A H s r old new end leaves
changes honest A H s r (Damaged cause) old new succeeds end leaves = unchanged honest (operation A H s r) old new (Damaged cause) tt leaves
changes honest A H s r Memory old new succeeds end leaves = unchanged honest (operation A H s r) old new Memory tt leaves

-- ---- the count of faults

was_fault : (r : Reply) (p : Op) (o : Outcome) → Succeeds r → reply_after o p r ≡ reply.Fault → o ≡ Fault
was_fault r p Done succeeds is = absurd (subst Succeeds is succeeds)
was_fault r p (Piece bytes) succeeds is = cc
was_fault r p Fault succeeds is = refl
was_fault r p (Damaged cause) succeeds is = cc
was_fault r p Memory succeeds is = cc

pub counts : (m n : ℕ) (r : Reply) (p : Op) (o : Outcome) → Succeeds r → CountsFault m n (o ≡ Fault) → CountsFault m n (reply_after o p r ≡ reply.Fault)
counts m n r p o succeeds counted =
    record { never_falls = counted.never_falls; one_at_most = counted.one_at_most; cause = λ is. counted.cause (was_fault r p o succeeds is) }

-- ---- times

known_draws : (A : Table) (H : History) (now : ℤ) (r : Reply) → DrawsAt A (known_entries A H) now r → DrawsAt A H now r
known_draws A H now (reply.Began t) draws = draws ∙ ap (λ g. time_after g now) (same_greatest A H)
known_draws A H now _ draws = tt

pub draws_after : (A : Table) (H : History) (now : ℤ) (r : Reply) (p : Op) (o : Outcome) → DrawsAt A (known_entries A H) now r → DrawsAt A H now (reply_after o p r)
draws_after A H now r p Done draws = known_draws A H now r draws
draws_after A H now r p (Piece bytes) draws = tt
draws_after A H now r p Fault draws = tt
draws_after A H now r p (Damaged cause) draws = tt
draws_after A H now r p Memory draws = tt

-- ---- want of memory

pub memory_fits : (s : Step) → (IsLeaving s → ⊥) → IsReplyOf s reply.Memory
memory_fits Begin stays = tt
memory_fits (Enter t slots) stays = tt
memory_fits (Append t target writes bytes) stays = tt
memory_fits (Finish t checkpoint) stays = tt
memory_fits (Pin None bases_only) stays = tt
memory_fits (Pin (Some t) bases_only) stays = tt
memory_fits (Unpin pin) stays = absurd (stays tt)
memory_fits (Read from file at len) stays = tt
memory_fits (Abandon t) stays = absurd (stays tt)
