use Rattle.std.proofs.Common.{◌≡◌, ◌<◌, ◌++◌, List, length}
use Rattle.std.specs.List.{All}
use Rattle.payload_merge.specs.declared.row.Row.{Row}
use Rattle.base_file.specs.WrittenRows.{meaning, IsBegun, AreFull}
use Rattle.base_file.proofs.writing.file_of.Given as goal

abbrev pub invariant-loop-rest : goal.invariant-loop-rest
invariant-loop-rest g l =
    (done : List Row) × (done ++ l.rest ≡ l.rows)
    × IsBegun (meaning (g.K.RowCodec.columns l.codec) (g.K.RowCodec.base_row l.codec) (g.K.RowCodec.file_column l.codec) l.file) done l.bytes.items l.groups.items
    × (0 < length l.rest → AreFull done) × All (g.K.RowCodec.own_row l.codec) l.rest

abbrev pub decreases-loop-rest : goal.decreases-loop-rest
decreases-loop-rest g l = length l.rest
