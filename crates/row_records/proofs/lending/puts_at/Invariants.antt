use Rattle.std.proofs.Common.{◌≡◌, ◌-◌, true, map}
use Rattle.payload_merge.specs.RowRefs.{write_in}
use Rattle.block_contents.specs.Contents.{items_at}
use Rattle.block_contents.proofs.ItemLemmas.{with_before}
use Rattle.row_records.specs.Readers.{place_of, put_at}
use Rattle.row_records.proofs.lending.puts_at.Given as goal

-- the puts so far, and those that the rest holds
abbrev pub invariant-loop : goal.invariant-loop
invariant-loop l = with_before (put_at true l.records.own (place_of l.place)) (map (write_in l.place.partition.now) l.found.items) (items_at (put_at true l.records.own (place_of l.place)) (l.count - l.counter) l.rest) ≡ items_at (put_at true l.records.own (place_of l.place)) l.count l.bytes
