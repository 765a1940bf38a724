use Rattle.std.proofs.Common.{All}
use Rattle.plain_rows.specs.PlainValues.{IsPlainValue}
use Rattle.upsert_writer.specs.BatchFits.{IsFit}
use Rattle.job_tests.proofs.deletes.rows_of.Given as goal

-- the rows so far are values of the table
abbrev pub invariant-loop-put : goal.invariant-loop-put
invariant-loop-put l = All (IsFit IsPlainValue) l.rows
