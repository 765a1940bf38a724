use Rattle.std.proofs.Common.{◌≡◌, [], Some, drop}
use Rattle.std.specs.Option.{option_map}
use Rattle.base_file.specs.Loops.{rows_of_groups}
use Rattle.base_file.proofs.reading.rows_of_groups.Given as goal

abbrev pub invariant-loop-group : goal.invariant-loop-group
invariant-loop-group g l =
    rows_of_groups (g.K.RowCodec.columns l.codec) (g.K.RowCodec.base_row l.codec) l.partition l.bytes (Some []) l.groups
    ≡ rows_of_groups (g.K.RowCodec.columns l.codec) (g.K.RowCodec.base_row l.codec) l.partition l.bytes (option_map (λ rows. rows.items) l.rows) (drop l.group-index l.groups)
