use Rattle.std.proofs.Common.{◌≡◌, take, Ok}
use Rattle.table_query.specs.GroupReading.{logs_of}
use Rattle.table_query.specs.Parts.{text_at}
use Rattle.table_query.proofs.logs.logs_of.Given as goal

abbrev pub invariant-loop-i : goal.invariant-loop-i
invariant-loop-i l = logs_of (text_at l.texts) 0 (take l.i l.parts) ≡ Ok l.logs
