use Rattle.std.proofs.Common.{◌≡◌, ◌+◌, ◌≤◌, ◌<◌, ◌^◌, ◌++◌, length, vec_len}
use Rattle.std.specs.Prelude.{vec_capacity}
use Rattle.byte_fields.specs.Varints.{varint}
use Rattle.byte_fields.proofs.varints.put_varint.Given as goal

-- the rest of the varint, for which there is room, is that of what is left of the number
abbrev pub invariant-loop-left : goal.invariant-loop-left
invariant-loop-left l =
    (l.out.items ++ varint l.left ≡ l.fn.out.items ++ varint l.number)
    × (vec_len l.out + length (varint l.left) ≤ vec_capacity l.out)
    × (l.left < 2 ^ 64)

abbrev pub decreases-loop-left : goal.decreases-loop-left
decreases-loop-left l = l.left
