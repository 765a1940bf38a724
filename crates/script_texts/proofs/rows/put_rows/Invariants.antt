use Rattle.script_texts.proofs.RowParts.{SoFar}
use Rattle.script_texts.proofs.rows.put_rows.Given as goal

-- the array up to this row
abbrev pub invariant-loop-place : goal.invariant-loop-place
invariant-loop-place l = SoFar l.codec.records.own l.rows l.place l.fn.out.items l.out.items
