-- Kinds of steps.
use Rattle.std.specs.Prelude.{◌≡◌, List, length}
use Rattle.std.specs.List.{All}
use Rattle.table_forms.specs.NameForms.{IsPartitionPath}
use Rattle.table_history.specs.declared.reply.Reply.{Reply}
use Rattle.table_history.specs.declared.reply.Reply.TheVariants.{Memory}
use Rattle.table_history.specs.declared.step.PartitionSlots.{PartitionSlots}
use Rattle.table_history.specs.declared.step.Step.{Step}
use Rattle.table_history.specs.declared.step.Step.TheVariants.{Begin, Enter, Append, Finish, Read}

-- it does an operation that may fail
abbrev pub MayFail : Step → Type 0
MayFail Begin = Unit {0}
MayFail (Enter t slots) = Unit {0}
MayFail (Append t target writes bytes) = Unit {0}
MayFail (Finish t checkpoint) = Unit {0}
MayFail (Read from file at len) = Unit {0}
MayFail _ = ⊥

abbrev pub ReadsNothing : Step → Type 0
ReadsNothing (Read from file at len) = ⊥
ReadsNothing _ = Unit {0}

-- slots of one partition
abbrev pub AreSlots : List PartitionSlots → Type 0
AreSlots slots = All (λ asked. IsPartitionPath asked.partition) slots × (length slots ≡ 1)

-- Want of memory leaves no entry.
abbrev pub LeavesEntry : Reply → Type 0
LeavesEntry Memory = ⊥
LeavesEntry _ = Unit {0}
