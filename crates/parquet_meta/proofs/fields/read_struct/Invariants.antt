use Rattle.std.proofs.Common.{◌≡◌, length}
use Rattle.thrift_compact.specs.Values.{struct_at, fields_at}
use Rattle.parquet_meta.proofs.fields.read_struct.Given as goal

-- the rest of the fields gives what all of them give
abbrev pub invariant-loop-fields : goal.invariant-loop-fields
invariant-loop-fields g l =
    (fields_at g.F.Fields.take (length l.reader.rest) l.last l.fields l.reader.rest ≡ struct_at g.F.Fields.take g.F.Fields.nothing l.fn.reader.rest)
    × (l.reader.total ≡ l.fn.reader.total)

abbrev pub decreases-loop-fields : goal.decreases-loop-fields
decreases-loop-fields g l = length l.reader.rest
