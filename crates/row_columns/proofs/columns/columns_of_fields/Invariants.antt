use Rattle.std.proofs.Common.{◌≡◌, map, take}
use Rattle.row_columns.specs.Base.{column_of}
use Rattle.row_columns.proofs.columns.columns_of_fields.Given as goal

-- the columns so far
abbrev pub invariant-loop-field : goal.invariant-loop-field
invariant-loop-field l = l.columns ≡ map column_of (take l.field-index l.fields)
