use Rattle.std.proofs.Common.{take}
use Rattle.base_file.specs.WrittenRows.{meaning, AreAdded}
use Rattle.base_file.proofs.writing.add_rows.Given as goal

abbrev pub invariant-loop-row : goal.invariant-loop-row
invariant-loop-row g l =
    AreAdded (meaning (g.K.RowCodec.columns l.codec) (g.K.RowCodec.base_row l.codec) (g.K.RowCodec.file_column l.codec) l.file) (take l.row-index l.rows) l.group
