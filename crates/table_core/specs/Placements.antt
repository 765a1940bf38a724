-- What is decided of an append, by the control tables alone.
use Rattle.std.specs.Prelude.{List, ℕ}
use Rattle.hudi_base.specs.declared.file_group.Target.{Target}
use Rattle.file_names.specs.FileName.{name_of}
use Rattle.file_names.specs.declared.file_name.FileName.TheVariants.{Log}
use Rattle.file_names.specs.declared.file_name.Token.{Token}
use Rattle.table_core.specs.SliceStates.{SliceState, length_in_use, attempt_of}
use Rattle.table_core.specs.declared.control.Control.{Control}
use Rattle.table_history.specs.declared.operation.Decision.{Decision}
use Rattle.table_history.specs.declared.operation.Op.TheVariants as op
use Rattle.table_history.specs.declared.reply.Reply.TheVariants.{Placed}

-- who made the version in use
abbrev pub token : Control → SliceState → Token
token control slice = record { session = control.session; attempt = attempt_of slice control.attempts }

-- the block goes to the end of the version in use
abbrev pub placement : Control → Target → SliceState → List ℕ → Decision
placement control s slice bytes = record {
  reply = Placed slice.version (length_in_use slice);
  op = op.Append (name_of control.props.name (Log s.group s.slice slice.version (token control slice))) bytes;
}
