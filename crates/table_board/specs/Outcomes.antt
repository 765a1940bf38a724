-- What the operation of a step came to, and the reply that the step then has.
use Rattle.std.specs.Prelude.{◌≡◌, ◌<◌, ℕ, List, [], length, take, drop}
use Rattle.hudi_base.specs.Faults.{CountsFault}
use Rattle.hudi_base.specs.Files.{Told, after}
use Rattle.hudi_base.specs.InstantTime.{IsTime}
use Rattle.hudi_base.specs.Store.{StoreState, Has, Lacks, Fails}
use Rattle.hudi_base.specs.declared.operation.Operation.TheVariants as operation
use Rattle.table_history.specs.declared.operation.Op.{Op}
use Rattle.table_history.specs.declared.operation.Op.TheVariants as op
use Rattle.table_history.specs.declared.reply.Cause.TheVariants.{Exists, Missing, Short}
use Rattle.table_history.specs.declared.reply.Reply.{Reply}
use Rattle.table_history.specs.declared.reply.Reply.TheVariants as reply
use Rattle.table_history.specs.declared.step.Step.{Step}
use Rattle.table_history.specs.declared.step.Step.TheVariants.{Read}
use Rattle.table_board.specs.declared.acting.Outcome.{Outcome}
use Rattle.table_board.specs.declared.acting.Outcome.TheVariants.{Done, Piece, Fault, Damaged, Memory}

-- ---- what an operation comes to, on any store

abbrev pub MayEnd : Op → Outcome → Type 0
MayEnd op.Nothing Done = Unit {0}
MayEnd (op.Create name bytes) Done = Unit {0}
MayEnd (op.Create name bytes) Fault = Unit {0}
MayEnd (op.Create name bytes) (Damaged cause) = cause ≡ Exists
MayEnd (op.Create name bytes) Memory = Unit {0}
MayEnd (op.Append name bytes) Done = Unit {0}
MayEnd (op.Append name bytes) Fault = Unit {0}
MayEnd (op.Append name bytes) Memory = Unit {0}
MayEnd (op.Remove name) Done = Unit {0}
MayEnd (op.Remove name) Fault = Unit {0}
MayEnd (op.Remove name) (Damaged cause) = cause ≡ Missing
MayEnd (op.Remove name) Memory = Unit {0}
MayEnd (op.Read name at len) (Piece bytes) = length bytes ≡ len
MayEnd (op.Read name at len) Fault = Unit {0}
MayEnd (op.Read name at len) (Damaged Missing) = Unit {0}
MayEnd (op.Read name at len) (Damaged Short) = Unit {0}
MayEnd (op.Read name at len) Memory = Unit {0}
MayEnd _ _ = ⊥

-- What a store tells before and after it. What was damaged, and what failed for want of memory, changed nothing.
abbrev pub Leaves : Type 0 → Op → Told → Told → Outcome → Type 0
Leaves honest op.Nothing old new outcome = new ≡ old
Leaves honest (op.Create name bytes) old new Done = Lacks old name × (new ≡ after old (operation.Create name bytes))
Leaves honest (op.Create name bytes) old new (Damaged cause) = Has old name (λ _. Unit {0}) × (new ≡ old)
Leaves honest (op.Create name bytes) old new Fault = Fails honest (operation.Create name bytes) old new
Leaves honest (op.Append name bytes) old new Done = new ≡ after old (operation.Append name bytes)
Leaves honest (op.Append name bytes) old new Fault = Fails honest (operation.Append name bytes) old new
Leaves honest (op.Remove name) old new Done = Has old name (λ _. Unit {0}) × (new ≡ after old (operation.Remove name))
Leaves honest (op.Remove name) old new (Damaged cause) = Lacks old name × (new ≡ old)
Leaves honest (op.Remove name) old new Fault = Fails honest (operation.Remove name) old new
Leaves honest (op.Read name at len) old new (Piece bytes) =
    Has old name (λ content. bytes ≡ take len (drop at content)) × (new ≡ old)
Leaves honest (op.Read name at len) old new (Damaged Missing) = Lacks old name × (new ≡ old)
Leaves honest (op.Read name at len) old new (Damaged Short) =
    Has old name (λ content. length (take len (drop at content)) < len) × (new ≡ old)
Leaves honest _ old new outcome = new ≡ old

-- what an operation does to a store
pub record Performs (honest : Type 0) (op : Op) (old new : StoreState) (outcome : Outcome) : Type 0 where
  pub ends : MayEnd op outcome
  pub leaves : Leaves honest op old.told new.told outcome
  pub counts : CountsFault old.faults new.faults (outcome ≡ Fault)

-- ---- the reply

-- the file that an operation is about
abbrev pub file_of : Op → List ℕ
file_of op.Nothing = []
file_of (op.Create name bytes) = name
file_of (op.Append name bytes) = name
file_of (op.Remove name) = name
file_of (op.Read name at len) = name

-- the reply to a step whose operation came to this, where the decided one is r
abbrev pub reply_after : Outcome → Op → Reply → Reply
reply_after Done op r = r
reply_after (Piece bytes) op r = reply.Piece bytes
reply_after Fault op r = reply.Fault
reply_after (Damaged cause) op r = reply.Damaged (file_of op) cause
reply_after Memory op r = reply.Memory

-- the operation changed nothing of what a store tells
abbrev pub ChangesNothing : Outcome → Type 0
ChangesNothing (Piece bytes) = Unit {0}
ChangesNothing (Damaged cause) = Unit {0}
ChangesNothing Memory = Unit {0}
ChangesNothing _ = ⊥

-- a time that was drawn is one that an instant may have
abbrev pub HasTime : Reply → Type 0
HasTime (reply.Began t) = IsTime t
HasTime r = Unit {0}

-- a piece of a file is as long as it was asked for
abbrev pub HasAskedLength : Step → Reply → Type 0
HasAskedLength (Read from file at len) (reply.Piece bytes) = length bytes ≡ len
HasAskedLength step r = Unit {0}
