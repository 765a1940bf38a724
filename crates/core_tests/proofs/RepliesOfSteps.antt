-- Which replies a step may have.
use Rattle.std.proofs.Common.{◌≢◌}
use Rattle.core_tests.specs.StepKinds.{LeavesEntry, MayFail, ReadsNothing}
use Rattle.table_history.specs.Answers.{Answers}
use Rattle.table_history.specs.Histories.{History}
use Rattle.table_history.specs.Operations.{Foresees}
use Rattle.table_history.specs.Tables.{Table}
use Rattle.table_history.specs.declared.reply.Reply.{Reply}
use Rattle.table_history.specs.declared.reply.Reply.TheVariants as reply
use Rattle.table_history.specs.declared.step.Reader.TheVariants as reader
use Rattle.table_history.specs.declared.step.Step.{Step}
use Rattle.table_history.specs.declared.step.Step.TheVariants.{Begin, Enter, Append, Finish, Read}

pub foreseen : (A : Table) (H : History) (s : Step) (r : Reply) → ReadsNothing s → Foresees A H s r → Answers A H s r
foreseen A H (Read from file at len) r kind answers = absurd kind
foreseen A H _ r kind answers = answers

pub may_fail : (A : Table) (H : History) (s : Step) → MayFail s → Answers A H s reply.Fault
may_fail A H Begin kind = tt
may_fail A H (Enter t slots) kind = tt
may_fail A H (Append t target writes bytes) kind = tt
may_fail A H (Finish t checkpoint) kind = tt
may_fail A H (Read (reader.Pin pin) file at len) kind = tt
may_fail A H _ kind = absurd kind

pub no_memory : (r : Reply) → LeavesEntry r → r ≢ reply.Memory
no_memory reply.Memory kind is = kind
no_memory _ kind is = cc
