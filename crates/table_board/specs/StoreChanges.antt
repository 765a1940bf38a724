-- What a step does to the store, by its operation and its reply.
use Rattle.std.specs.Prelude.{◌≡◌, is_some}
use Rattle.hudi_base.specs.Files.{Told, after}
use Rattle.hudi_base.specs.Store.{IsLeftBy}
use Rattle.hudi_base.specs.declared.operation.Operation.TheVariants.{Create, Append, Remove}
use Rattle.table_history.specs.declared.operation.Op.{Op}
use Rattle.table_history.specs.declared.operation.Op.TheVariants as op
use Rattle.table_history.specs.declared.reply.Reply.{Reply}
use Rattle.table_history.specs.declared.reply.Reply.TheVariants as reply

-- what a store tells after an operation that was done whole; a read changes nothing
abbrev pub after_op : Told → Op → Told
after_op told op.Nothing = told
after_op told (op.Create name bytes) = after told (Create name bytes)
after_op told (op.Append name bytes) = after told (Append name bytes)
after_op told (op.Remove name) = after told (Remove name)
after_op told (op.Read name at len) = told

-- What an honest store tells after an operation that failed: of an append a prefix of its bytes may have arrived, and
-- any other changed nothing.
abbrev pub LeftBy : Op → Told → Told → Type 0
LeftBy (op.Append name bytes) old new = IsLeftBy (Append name bytes) old new
LeftBy _ old new = new ≡ old

-- after a step whose operation failed: it tells what it told before, and an honest store is as said
pub record LeavesAtFault (honest : Type 0) (op : Op) (old new : Told) : Type 0 where
  pub files : is_some new.files ≡ is_some old.files
  pub operations : is_some new.operations ≡ is_some old.operations
  pub first : new.first ≡ old.first
  pub leaves : honest → LeftBy op old new

-- A step with this operation and this reply leads from the first to the second. At most its one operation is done.
abbrev pub Changes : Type 0 → Op → Reply → Told → Told → Type 0
Changes honest op reply.Fault old new = LeavesAtFault honest op old new
Changes honest op (reply.Damaged name cause) old new = new ≡ old
Changes honest op reply.Memory old new = new ≡ old
Changes honest op _ old new = new ≡ after_op old op
