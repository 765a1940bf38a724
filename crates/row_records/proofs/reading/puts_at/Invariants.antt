use Rattle.std.proofs.Common.{◌≡◌, ◌-◌, false}
use Rattle.block_contents.specs.Contents.{items_at}
use Rattle.block_contents.proofs.ItemLemmas.{with_before}
use Rattle.row_records.specs.Readers.{place_of, put_at}
use Rattle.row_records.proofs.reading.puts_at.Given as goal

-- the puts so far, and those that the rest holds
abbrev pub invariant-loop : goal.invariant-loop
invariant-loop l = with_before (put_at false l.records.own (place_of l.place)) l.found (items_at (put_at false l.records.own (place_of l.place)) (l.count - l.counter) l.rest) ≡ items_at (put_at false l.records.own (place_of l.place)) l.count l.bytes
