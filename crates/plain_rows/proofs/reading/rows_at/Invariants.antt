use Rattle.std.proofs.Common.{◌≡◌, ◌-◌, List, ℕ, [], map}
use Rattle.payload_merge.specs.RowRefs.{write_in}
use Rattle.plain_rows.specs.Contents.{rows_at}
use Rattle.plain_rows.specs.Readers.{with_before}
use Rattle.plain_rows.proofs.reading.rows_at.Given as goal

-- the puts so far, and those of the rows that the rest holds
abbrev pub invariant-loop-place : goal.invariant-loop-place
invariant-loop-place l = (partition : List ℕ) →
    with_before (map (write_in partition) l.puts.items) (rows_at l.commit partition l.told l.place (l.count - l.place) l.rest)
    ≡ with_before [] (rows_at l.commit partition l.told 0 l.count l.bytes)
