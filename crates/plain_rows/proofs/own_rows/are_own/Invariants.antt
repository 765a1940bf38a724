use Rattle.std.proofs.Common.{All, take}
use Rattle.plain_rows.specs.OwnRows.{IsOwn}
use Rattle.plain_rows.proofs.own_rows.are_own.Given as goal

abbrev pub invariant-loop-row : goal.invariant-loop-row
invariant-loop-row l = All IsOwn (take l.row-index l.rows)
