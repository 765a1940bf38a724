use Rattle.std.proofs.Common.{◌≡◌, length, take}
use Rattle.base_writer.specs.Fitting.{schema_with}
use Rattle.base_writer.proofs.ends.schema_of.Given as goal

abbrev pub invariant-loop-column : goal.invariant-loop-column
invariant-loop-column l = l.schema.items ≡ schema_with (length l.columns) (take l.column-index l.columns)
