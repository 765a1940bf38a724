use Rattle.std.proofs.Common.{◌≡◌, ◌+◌, ◌<◌, ◌^◌, length}
use Rattle.byte_fields.specs.Varints.{varint}
use Rattle.row_records.proofs.lengths.varint_length.Given as goal

-- what is counted, and the varint of what is left
abbrev pub invariant-loop-left : goal.invariant-loop-left
invariant-loop-left l = (l.count + length (varint l.left) ≡ length (varint l.number) + 1) × (l.left < 2 ^ 64)

abbrev pub decreases-loop-left : goal.decreases-loop-left
decreases-loop-left l = l.left
